-- One token of a descent.
use Rattle.std.proofs.Common.{◌≡◌, ◌≤◌, ◌<◌, ℕ, Bool, true, false, List, [], ◌∷◌, length, zero, suc, refl, sym, ap, subst, arith, ◌∙◌, ◌⊎◌, inl, inr, nat_lt, nat_eq, ◌||◌, slice_index_or, drop, Option, Some, None}
use Rattle.std.proofs.lemmas.Grind.{common_steps}
use Rattle.c_tree.specs.declared.token.Class.{Class}
use Rattle.c_tree.specs.declared.token.Class.TheVariants.{HugeNumber, Sign, Name, Text, SourceField, TagField}
use Rattle.c_tree.specs.declared.token.Operator.{Operator}
use Rattle.c_tree.specs.declared.token.Operator.TheVariants.{Star, Slash, Percent, Plus, Minus, ShiftLeft, ShiftRight, Less, Greater, LessEqual, GreaterEqual, EqualEqual, NotEqual, And, Caret, Or, AndAnd, OrOr}
use Rattle.c_tree.specs.declared.token.Token.{Token}
use Rattle.c_tree.specs.declared.token.Value.{Value}
use Rattle.c_tree.specs.declared.token.Value.TheVariants.{Bytes}
use Rattle.c_grammar.specs.Grammar.{Keep, Word}
use Rattle.c_tree.specs.Codes.{code}
use Rattle.c_grammar.specs.Meaning.{leaf, none, fitting, bytes_of, has, next_in, kept, limit, refused, if_deep, if_large, TooDeep, TooLarge}
use Rattle.c_grammar.specs.Descent.{Reads, Read, Fault, Unfit, Outcome, word_read, word_unfit, word_bad}
use Rattle.c_grammar.specs.Readers.{IsNext, FirstIs, IsValue, FirstHas}
use Rattle.c_grammar.specs.Grammar.{All, operators, member_names}
use Rattle.std.proofs.lemmas.Bool.{or_cases}
use Rattle.c_grammar.proofs.Tables.{eq_of_test, in_append}
use Rattle.c_grammar.proofs.Viable.{bool_false}
use Rattle.c_grammar.proofs.Codes.{code_injective}

not_deep : (l : ℕ) (t : Token) → l ≤ limit → refused l t ≡ if_large (has (HugeNumber ∷ []) (code t.class))
not_deep l t h = let q : nat_lt limit l ≡ false = grind (arith, common_steps) in ap (λ (b : Bool). if_deep b (if_large (has (HugeNumber ∷ []) (code t.class)))) q

pub deep_refused : (l : ℕ) (t : Token) → limit < l → refused l t ≡ Some TooDeep
deep_refused l t h = let q : nat_lt limit l ≡ true = grind (arith, common_steps) in ap (λ (b : Bool). if_deep b (if_large (has (HugeNumber ∷ []) (code t.class)))) q

pub deep_word : (l : ℕ) (k : Keep) (cs : List Class) (ts : List Token) → next_in cs ts ≡ true → limit < l → Reads l (Word k cs) ts (Fault (Unfit TooDeep) ts)
deep_word l k cs [] h b = absurd (grind arith)
deep_word l k cs (t ∷ ts) h b = word_unfit l k cs t ts TooDeep h (deep_refused l t b)

pub large_word : (l : ℕ) (k : Keep) (cs : List Class) (ts : List Token) → next_in cs ts ≡ true → l ≤ limit → next_in (HugeNumber ∷ []) ts ≡ true → Reads l (Word k cs) ts (Fault (Unfit TooLarge) ts)
large_word l k cs [] h b e = absurd (grind arith)
large_word l k cs (t ∷ ts) h b e = word_unfit l k cs t ts TooLarge h (not_deep l t b ∙ ap if_large e)

pub read_word : (l : ℕ) (k : Keep) (cs : List Class) (ts us : List Token) (t : Token) → next_in cs ts ≡ true → l ≤ limit → next_in (HugeNumber ∷ []) ts ≡ false → t ≡ slice_index_or ts 0 t → us ≡ drop 1 ts → Reads l (Word k cs) ts (Read (kept k t) us)
read_word l k cs [] us t h b e i q = absurd (grind arith)
read_word l k cs (v ∷ ts) us t h b e i q = subst (λ (w : Token). Reads l (Word k cs) (v ∷ ts) (Read (kept k w) us)) (sym i) (subst (λ (vs : List Token). Reads l (Word k cs) (v ∷ ts) (Read (kept k v) vs)) (sym q) (word_read l k cs v ts h (not_deep l v b ∙ ap if_large e)))

eq_of_or : (m n : ℕ) → (nat_eq m n || false) ≡ true → m ≡ n
eq_of_or m n h = grind (arith, common_steps)

pub first_class : (c : Class) (ts : List Token) (t : Token) → next_in (c ∷ []) ts ≡ true → t ≡ slice_index_or ts 0 t → t.class ≡ c
first_class c [] t h i = absurd (grind arith)
first_class c (v ∷ ts) t h i = ap (λ (w : Token). w.class) i ∙ code_injective v.class c (eq_of_or (code v.class) (code c) h)

pub found_none : {X : Type 0} (kind : X → Class) (cs : List Class) (ts : List Token) (found : Option X) → found ≡ None → IsNext kind cs ts found → next_in cs ts ≡ false
found_none kind cs ts found e h = subst (λ (w : Option _). IsNext kind cs ts w) e h

pub found_some : {X : Type 0} (kind : X → Class) (cs : List Class) (ts : List Token) (found : Option X) (x : X) → found ≡ Some x → IsNext kind cs ts found → (next_in cs ts ≡ true) × FirstIs (kind x) ts
found_some kind cs ts found x e h = subst (λ (w : Option _). IsNext kind cs ts w) e h

pub first_is : (c : Class) (ts : List Token) (t : Token) → FirstIs c ts → t ≡ slice_index_or ts 0 t → t.class ≡ c
first_is c [] t h i = absurd h
first_is c (v ∷ ts) t h i = ap (λ (w : Token). w.class) i ∙ h

pub first_has : (c : Class) (x : Value) (ts : List Token) (t : Token) → FirstHas c x ts → t ≡ slice_index_or ts 0 t → kept All t ≡ leaf c x t.place none
first_has c x [] t h i = absurd h
first_has c x (v ∷ ts) t h i = λ j. leaf ((ap (λ (w : Token). w.class) i ∙ h.0) j) ((ap (λ (w : Token). fitting w.class w.value) i ∙ h.1) j) t.place none

pub value_some : {X : Type 0} (kind : X → Class) (worth : X → Value) (cs : List Class) (ts : List Token) (found : Option X) (x : X) → found ≡ Some x → IsValue kind worth cs ts found → (next_in cs ts ≡ true) × FirstHas (kind x) (worth x) ts
value_some kind worth cs ts found x e h = subst (λ (w : Option _). IsValue kind worth cs ts w) e h

pub value_none : {X : Type 0} (kind : X → Class) (worth : X → Value) (cs : List Class) (ts : List Token) (found : Option X) → found ≡ None → IsValue kind worth cs ts found → next_in cs ts ≡ next_in (HugeNumber ∷ []) ts
value_none kind worth cs ts found e h = subst (λ (w : Option _). IsValue kind worth cs ts w) e h

-- a word of one list of classes is one of another where both have the next token or neither
pub word_like : (l : ℕ) (k : Keep) (cs ds : List Class) (ts : List Token) (o : Outcome) → next_in ds ts ≡ next_in cs ts → Reads l (Word k cs) ts o → Reads l (Word k ds) ts o
word_like _ _ _ ds _ _ e (word_read l k cs t ts h b) = word_read l k ds t ts (e ∙ h) b
word_like _ _ _ ds _ _ e (word_unfit l k cs t ts w h b) = word_unfit l k ds t ts w (e ∙ h) b
word_like _ _ _ ds _ _ e (word_bad l k cs ts h) = word_bad l k ds ts (e ∙ h)

pub kept_leaf : (c : Class) (t : Token) → t.class ≡ c → kept All t ≡ leaf c (fitting c t.value) t.place none
kept_leaf c t e = ap (λ (w : Class). leaf w (fitting w t.value) t.place none) e

pub name_leaf : (t : Token) (bytes : List ℕ) → t.class ≡ Name → bytes ≡ bytes_of t.value → kept All t ≡ leaf Name (Bytes bytes) t.place none
name_leaf t bytes e q = kept_leaf Name t e ∙ ap (λ (w : List ℕ). leaf Name (Bytes w) t.place none) (sym q)

pub string_leaf : (t : Token) (bytes : List ℕ) → t.class ≡ Text → bytes ≡ bytes_of t.value → kept All t ≡ leaf Text (Bytes bytes) t.place none
string_leaf t bytes e q = kept_leaf Text t e ∙ ap (λ (w : List ℕ). leaf Text (Bytes w) t.place none) (sym q)

or_false : (b : Bool) → (b || false) ≡ b
or_false true = refl
or_false false = refl

pub is_name : (ts : List Token) → next_in (SourceField ∷ []) ts ≡ false → next_in (TagField ∷ []) ts ≡ false → next_in member_names ts ≡ next_in (Name ∷ []) ts
is_name ts s t = in_append (Name ∷ []) (SourceField ∷ TagField ∷ []) ts ∙ (ap (λ (b : Bool). next_in (Name ∷ []) ts || b) (in_append (SourceField ∷ []) (TagField ∷ []) ts ∙ (λ i. s i || t i)) ∙ or_false (next_in (Name ∷ []) ts))

-- each class of the list is an operator
abbrev Signs : List Class → Type 0
Signs [] = Unit {0}
Signs (d ∷ cs) = ((o : Operator) × (d ≡ Sign o)) × Signs cs

signs_has : (cs : List Class) (c : Class) → Signs cs → has cs (code c) ≡ true → (o : Operator) × (c ≡ Sign o)
signs_has [] c s h = cc
signs_has (d ∷ cs) c s h = by (λ e. signs_has cs c s.1 e) (or_cases _ _ h)
  where
    by : (has cs (code c) ≡ true → (o : Operator) × (c ≡ Sign o)) → ((nat_eq (code c) (code d) ≡ true) ⊎ (has cs (code c) ≡ true)) → (o : Operator) × (c ≡ Sign o)
    by f (inl e) = (s.0.0, code_injective c d (eq_of_test (code c) (code d) e) ∙ s.0.1)
    by f (inr e) = f e

operators_signs : (g : ℕ) → Signs (operators g)
operators_signs zero = ((Star, refl), ((Slash, refl), ((Percent, refl), tt)))
operators_signs (suc zero) = ((Plus, refl), ((Minus, refl), tt))
operators_signs (suc (suc zero)) = ((ShiftLeft, refl), ((ShiftRight, refl), tt))
operators_signs (suc (suc (suc zero))) = ((Less, refl), ((Greater, refl), ((LessEqual, refl), ((GreaterEqual, refl), tt))))
operators_signs (suc (suc (suc (suc zero)))) = ((EqualEqual, refl), ((NotEqual, refl), tt))
operators_signs (suc (suc (suc (suc (suc zero))))) = ((And, refl), tt)
operators_signs (suc (suc (suc (suc (suc (suc zero)))))) = ((Caret, refl), tt)
operators_signs (suc (suc (suc (suc (suc (suc (suc zero))))))) = ((Or, refl), tt)
operators_signs (suc (suc (suc (suc (suc (suc (suc (suc zero)))))))) = ((AndAnd, refl), tt)
operators_signs (suc (suc (suc (suc (suc (suc (suc (suc (suc g))))))))) = ((OrOr, refl), tt)

-- what is no operator is none of a grade
pub no_operator : (g : ℕ) (ts : List Token) (t : Token) → 1 ≤ length ts → t ≡ slice_index_or ts 0 t → ((o : Operator) → t.class ≡ Sign o → ⊥) → next_in (operators g) ts ≡ false
no_operator g [] t b e h = absurd (omega (arith, b))
no_operator g (u ∷ us) t b e h = bool_false _ (λ q. let s = signs_has (operators g) u.class (operators_signs g) q in h s.0 (ap (λ (w : Token). w.class) e ∙ s.1))
