-- What the proofs compute of a grammar: which tokens may go on at a rule's end, and tests that no two choices meet.
use Rattle.std.proofs.Common.{◌≡◌, ℕ, zero, suc, Bool, true, false, List, [], ◌∷◌, ◌++◌, refl, sym, ap, subst, arith, ◌∙◌, ◌||◌, ◌⊎◌, inl, inr, nat_eq, nat_lt}
use Rattle.std.specs.Prelude.{◌&&◌, not}
use Rattle.std.proofs.lemmas.Bool.{and_parts, or_cases}
use Rattle.std.proofs.lemmas.Grind.{common_steps}
use Rattle.c_tree.specs.declared.token.Class.{Class}
use Rattle.c_tree.specs.declared.token.Class.TheVariants.{Broken}
use Rattle.c_tree.specs.declared.token.Token.{Token}
use Rattle.c_grammar.specs.Grammar.{Part, Program, Item, Function, Parameters, Parameter, TypeSpecifier, StructBody, MemberDeclaration, MemberDeclarator, Declaration, InitDeclarator, Block, BlockItem, Statement, PlainStatement, IfStatement, ElsePart, WhileStatement, DoStatement, ForStatement, ReturnStatement, PrintStatement, FreeStatement, Mark, SimpleStatement, MpiCall, InitCall, FinalizeCall, BarrierCall, CommunicatorCall, SendCall, RecvCall, GetCountCall, BcastCall, ReduceCall, AllreduceCall, GatherScatterCall, AllgatherCall, Buffer, Status, Expression, Unary, Arguments, Suffix, Binary, Rule, Word, Ref, Then, Either, Many, Maybe, Deeper, rule}
use Rattle.c_tree.specs.Codes.{code}
use Rattle.c_grammar.specs.Meaning.{has, next_in, starts, begins, nullable, nullable_part}
use Rattle.c_grammar.proofs.Facts.{more_part, end_part, rank}

-- the next token could go on with what it spells
abbrev pub more : Rule → List Token → Bool
more (Word k cs) ts = false
more (Ref p) ts = next_in (more_part p) ts
more (Then a b) ts = (nullable b && more a ts) || more b ts
more (Either a b) ts = more a ts || more b ts
more (Many r) ts = starts r ts || more r ts
more (Maybe r) ts = starts r ts || more r ts
more (Deeper r) ts = more r ts

-- the next token could go on with a repetition at its end
abbrev pub ends : Rule → List Token → Bool
ends (Word k cs) ts = false
ends (Ref p) ts = next_in (end_part p) ts
ends (Then a b) ts = (nullable b && ends a ts) || ends b ts
ends (Either a b) ts = ends a ts || ends b ts
ends (Many r) ts = starts r ts || ends r ts
ends (Maybe r) ts = ends r ts
ends (Deeper r) ts = ends r ts

-- the same as lists of classes
abbrev when : Bool → List Class → List Class
when true cs = cs
when false cs = []

abbrev pub starters : Rule → List Class
starters (Word k cs) = cs
starters (Ref p) = begins p
starters (Then a b) = when (nullable a) (starters b) ++ starters a
starters (Either a b) = starters a ++ starters b
starters (Many r) = starters r
starters (Maybe r) = starters r
starters (Deeper r) = starters r

abbrev pub goers : Rule → List Class
goers (Word k cs) = []
goers (Ref p) = more_part p
goers (Then a b) = when (nullable b) (goers a) ++ goers b
goers (Either a b) = goers a ++ goers b
goers (Many r) = starters r ++ goers r
goers (Maybe r) = starters r ++ goers r
goers (Deeper r) = goers r

abbrev pub enders : Rule → List Class
enders (Word k cs) = []
enders (Ref p) = end_part p
enders (Then a b) = when (nullable b) (enders a) ++ enders b
enders (Either a b) = enders a ++ enders b
enders (Many r) = starters r ++ enders r
enders (Maybe r) = enders r
enders (Deeper r) = enders r

or_swap : (a b c : Bool) → (a || (b || c)) ≡ ((a || b) || c)
or_swap true b c = refl
or_swap false b c = refl

has_append : (cs ds : List Class) (n : ℕ) → has (cs ++ ds) n ≡ (has cs n || has ds n)
has_append [] ds n = refl
has_append (c ∷ cs) ds n = ap (λ (x : Bool). nat_eq n (code c) || x) (has_append cs ds n) ∙ or_swap (nat_eq n (code c)) (has cs n) (has ds n)

pub in_append : (cs ds : List Class) (ts : List Token) → next_in (cs ++ ds) ts ≡ (next_in cs ts || next_in ds ts)
in_append cs ds [] = refl
in_append cs ds (t ∷ ts) = has_append cs ds (code t.class)

in_none : (ts : List Token) → next_in [] ts ≡ false
in_none [] = refl
in_none (t ∷ ts) = refl

in_when : (b : Bool) (cs : List Class) (ts : List Token) → next_in (when b cs) ts ≡ (b && next_in cs ts)
in_when true cs ts = refl
in_when false cs ts = in_none ts

in_both : (cs ds : List Class) (ts : List Token) (a b : Bool) → a ≡ next_in cs ts → b ≡ next_in ds ts → (a || b) ≡ next_in (cs ++ ds) ts
in_both cs ds ts a b p q = (λ i. p i || q i) ∙ sym (in_append cs ds ts)

in_part : (cs : List Class) (ts : List Token) (a b : Bool) → b ≡ next_in cs ts → (a && b) ≡ next_in (when a cs) ts
in_part cs ts a b p = ap (λ (x : Bool). a && x) p ∙ sym (in_when a cs ts)

pub in_starters : (r : Rule) (ts : List Token) → starts r ts ≡ next_in (starters r) ts
in_starters (Word k cs) ts = refl
in_starters (Ref p) ts = refl
in_starters (Then a b) ts = in_both (when (nullable a) (starters b)) (starters a) ts _ _ (in_part (starters b) ts (nullable a) _ (in_starters b ts)) (in_starters a ts)
in_starters (Either a b) ts = in_both (starters a) (starters b) ts _ _ (in_starters a ts) (in_starters b ts)
in_starters (Many r) ts = in_starters r ts
in_starters (Maybe r) ts = in_starters r ts
in_starters (Deeper r) ts = in_starters r ts

pub in_goers : (r : Rule) (ts : List Token) → more r ts ≡ next_in (goers r) ts
in_goers (Word k cs) ts = sym (in_none ts)
in_goers (Ref p) ts = refl
in_goers (Then a b) ts = in_both (when (nullable b) (goers a)) (goers b) ts _ _ (in_part (goers a) ts (nullable b) _ (in_goers a ts)) (in_goers b ts)
in_goers (Either a b) ts = in_both (goers a) (goers b) ts _ _ (in_goers a ts) (in_goers b ts)
in_goers (Many r) ts = in_both (starters r) (goers r) ts _ _ (in_starters r ts) (in_goers r ts)
in_goers (Maybe r) ts = in_both (starters r) (goers r) ts _ _ (in_starters r ts) (in_goers r ts)
in_goers (Deeper r) ts = in_goers r ts

pub in_enders : (r : Rule) (ts : List Token) → ends r ts ≡ next_in (enders r) ts
in_enders (Word k cs) ts = sym (in_none ts)
in_enders (Ref p) ts = refl
in_enders (Then a b) ts = in_both (when (nullable b) (enders a)) (enders b) ts _ _ (in_part (enders a) ts (nullable b) _ (in_enders a ts)) (in_enders b ts)
in_enders (Either a b) ts = in_both (enders a) (enders b) ts _ _ (in_enders a ts) (in_enders b ts)
in_enders (Many r) ts = in_both (starters r) (enders r) ts _ _ (in_starters r ts) (in_enders r ts)
in_enders (Maybe r) ts = in_enders r ts
in_enders (Deeper r) ts = in_enders r ts

abbrev pub apart_test : List Class → List Class → Bool
apart_test [] ds = true
apart_test (c ∷ cs) ds = not (has ds (code c)) && apart_test cs ds

abbrev pub subset_test : List Class → List Class → Bool
subset_test [] ds = true
subset_test (c ∷ cs) ds = has ds (code c) && subset_test cs ds

pub eq_of_test : (m n : ℕ) → nat_eq m n ≡ true → m ≡ n
eq_of_test m n h = grind (arith, common_steps)

test_same : (n : ℕ) → nat_eq n n ≡ true
test_same n = grind (arith, common_steps)

not_both : (b : Bool) → not b ≡ true → b ≡ true → ⊥
not_both true h x = cc
not_both false h x = cc

apart_has : (cs ds : List Class) (n : ℕ) → apart_test cs ds ≡ true → has cs n ≡ true → has ds n ≡ true → ⊥
apart_has [] ds n h x y = cc
apart_has (c ∷ cs) ds n h x y = by (λ e. apart_has cs ds n (and_parts _ _ h).1 e y) (or_cases _ _ x)
  where
    by : (has cs n ≡ true → ⊥) → ((nat_eq n (code c) ≡ true) ⊎ (has cs n ≡ true)) → ⊥
    by f (inl e) = not_both (has ds (code c)) (and_parts _ _ h).0 (subst (λ (m : ℕ). has ds m ≡ true) (eq_of_test n (code c) e) y)
    by f (inr e) = f e

subset_has : (cs ds : List Class) (n : ℕ) → subset_test cs ds ≡ true → has cs n ≡ true → has ds n ≡ true
subset_has [] ds n h x = cc
subset_has (c ∷ cs) ds n h x = by (λ e. subset_has cs ds n (and_parts _ _ h).1 e) (or_cases _ _ x)
  where
    by : (has cs n ≡ true → has ds n ≡ true) → ((nat_eq n (code c) ≡ true) ⊎ (has cs n ≡ true)) → has ds n ≡ true
    by f (inl e) = subst (λ (m : ℕ). has ds m ≡ true) (sym (eq_of_test n (code c) e)) (and_parts _ _ h).0
    by f (inr e) = f e

pub clash : (cs ds : List Class) → apart_test cs ds ≡ true → (ts : List Token) → next_in cs ts ≡ true → next_in ds ts ≡ true → ⊥
clash cs ds h [] x y = cc
clash cs ds h (t ∷ ts) x y = apart_has cs ds (code t.class) h x y

subset : (cs ds : List Class) → subset_test cs ds ≡ true → (ts : List Token) → next_in cs ts ≡ true → next_in ds ts ≡ true
subset cs ds h [] x = cc
subset cs ds h (t ∷ ts) x = subset_has cs ds (code t.class) h x

-- where the next token is of some classes, it is of more
pub among : (cs ds : List Class) → subset_test cs ds ≡ true → (ts : List Token) → next_in cs ts ≡ true → next_in ds ts ≡ next_in cs ts
among cs ds h ts x = subset cs ds h ts x ∙ sym x

pub more_clash : (a b : Rule) → apart_test (goers a) (starters b) ≡ true → (ts : List Token) → more a ts ≡ true → starts b ts ≡ true → ⊥
more_clash a b h ts x y = clash (goers a) (starters b) h ts (sym (in_goers a ts) ∙ x) (sym (in_starters b ts) ∙ y)

pub ends_clash : (a b : Rule) → apart_test (enders a) (starters b) ≡ true → (ts : List Token) → ends a ts ≡ true → starts b ts ≡ true → ⊥
ends_clash a b h ts x y = clash (enders a) (starters b) h ts (sym (in_enders a ts) ∙ x) (sym (in_starters b ts) ∙ y)

pub starts_clash : (a b : Rule) → apart_test (starters a) (starters b) ≡ true → (ts : List Token) → starts a ts ≡ true → starts b ts ≡ true → ⊥
starts_clash a b h ts x y = clash (starters a) (starters b) h ts (sym (in_starters a ts) ∙ x) (sym (in_starters b ts) ∙ y)

-- the first class of a list
abbrev pub some : List Class → Bool
some [] = false
some (c ∷ cs) = true

abbrev pub first_of : List Class → Class
first_of [] = Broken
first_of (c ∷ cs) = c

pub first_in : (cs : List Class) → some cs ≡ true → has cs (code (first_of cs)) ≡ true
first_in [] h = cc
first_in (c ∷ cs) h = ap (λ (x : Bool). x || has cs (code c)) (test_same (code c))

-- it spells at least one token
abbrev pub firm : Rule → Bool
firm r = not (nullable r)

-- no two choices meet
abbrev pub good : Rule → Bool
good (Word k cs) = some cs
good (Ref p) = true
good (Then a b) = good a && (good b && (nullable b || apart_test (goers a) (starters b)))
good (Either a b) = (good a && good b) && ((firm a && firm b) && apart_test (starters a) (starters b))
good (Many r) = good r && firm r
good (Maybe r) = good r && firm r
good (Deeper r) = good r

-- no two choices meet, but that an option may be followed by what could go on with it
abbrev pub sharp : Rule → Bool
sharp (Word k cs) = true
sharp (Ref p) = true
sharp (Then a b) = sharp a && (sharp b && apart_test (enders a) (starters b))
sharp (Either a b) = (sharp a && sharp b) && ((firm a && firm b) && apart_test (starters a) (starters b))
sharp (Many r) = sharp r && (firm r && apart_test (enders r) (starters r))
sharp (Maybe r) = sharp r && firm r
sharp (Deeper r) = sharp r

-- the shortest that it spells has only these parts
abbrev pub settled : (Part → Bool) → Rule → Bool
settled ok (Word k cs) = true
settled ok (Ref p) = ok p
settled ok (Then a b) = settled ok a && settled ok b
settled ok (Either a b) = settled ok a || settled ok b
settled ok (Many r) = true
settled ok (Maybe r) = true
settled ok (Deeper r) = settled ok r

abbrev pub lower : ℕ → Part → Bool
lower n q = nat_lt (rank q) n

abbrev same_test : Bool → Bool → Bool
same_test true b = b
same_test false b = not b

-- the tests of a part
abbrev part_test : Part → Bool
part_test p =
    good (rule p)
    && (same_test (nullable (rule p)) (nullable_part p)
    && (subset_test (starters (rule p)) (begins p)
    && (subset_test (begins p) (starters (rule p))
    && (subset_test (goers (rule p)) (more_part p)
    && (settled (lower (rank p)) (rule p)
    && (sharp (rule p)
    && subset_test (enders (rule p)) (end_part p)))))))

tested : (p : Part) → part_test p ≡ true
tested Program = refl
tested Item = refl
tested Function = refl
tested Parameters = refl
tested Parameter = refl
tested TypeSpecifier = refl
tested StructBody = refl
tested MemberDeclaration = refl
tested MemberDeclarator = refl
tested Declaration = refl
tested InitDeclarator = refl
tested Block = refl
tested BlockItem = refl
tested Statement = refl
tested PlainStatement = refl
tested IfStatement = refl
tested ElsePart = refl
tested WhileStatement = refl
tested DoStatement = refl
tested ForStatement = refl
tested ReturnStatement = refl
tested PrintStatement = refl
tested FreeStatement = refl
tested Mark = refl
tested SimpleStatement = refl
tested MpiCall = refl
tested InitCall = refl
tested FinalizeCall = refl
tested BarrierCall = refl
tested CommunicatorCall = refl
tested SendCall = refl
tested RecvCall = refl
tested GetCountCall = refl
tested BcastCall = refl
tested ReduceCall = refl
tested AllreduceCall = refl
tested GatherScatterCall = refl
tested AllgatherCall = refl
tested Buffer = refl
tested Status = refl
tested Expression = refl
tested Unary = refl
tested Arguments = refl
tested Suffix = refl
tested (Binary zero) = refl
tested (Binary (suc zero)) = refl
tested (Binary (suc (suc zero))) = refl
tested (Binary (suc (suc (suc zero)))) = refl
tested (Binary (suc (suc (suc (suc zero))))) = refl
tested (Binary (suc (suc (suc (suc (suc zero)))))) = refl
tested (Binary (suc (suc (suc (suc (suc (suc zero))))))) = refl
tested (Binary (suc (suc (suc (suc (suc (suc (suc zero)))))))) = refl
tested (Binary (suc (suc (suc (suc (suc (suc (suc (suc zero))))))))) = refl
tested (Binary (suc (suc (suc (suc (suc (suc (suc (suc (suc zero)))))))))) = refl
tested (Binary (suc (suc (suc (suc (suc (suc (suc (suc (suc (suc g))))))))))) = refl

same_of_test : (a b : Bool) → same_test a b ≡ true → a ≡ b
same_of_test true true h = refl
same_of_test true false h = cc
same_of_test false true h = cc
same_of_test false false h = refl

both_ways : (a b : Bool) → (a ≡ true → b ≡ true) → (b ≡ true → a ≡ true) → a ≡ b
both_ways true b f g = sym (f refl)
both_ways false true f g = g refl
both_ways false false f g = refl

contrary : (a b : Bool) → (a ≡ true → b ≡ true) → b ≡ false → a ≡ false
contrary true b f h = cc (f refl)
contrary false b f h = refl

-- the tests of a part, one by one
pub record Passed (p : Part) : Type 0 where
  pub good_rule : good (rule p) ≡ true
  pub nullable_rule : nullable (rule p) ≡ nullable_part p
  pub opens : subset_test (starters (rule p)) (begins p) ≡ true
  pub begins' : subset_test (begins p) (starters (rule p)) ≡ true
  pub goes : subset_test (goers (rule p)) (more_part p) ≡ true
  pub settles : settled (lower (rank p)) (rule p) ≡ true
  pub sharp_rule : sharp (rule p) ≡ true
  pub ending : subset_test (enders (rule p)) (end_part p) ≡ true

passed : (p : Part) → Passed p
passed p =
    let a = and_parts (good (rule p)) _ (tested p) in
    let b = and_parts (same_test (nullable (rule p)) (nullable_part p)) _ a.1 in
    let c = and_parts (subset_test (starters (rule p)) (begins p)) _ b.1 in
    let d = and_parts (subset_test (begins p) (starters (rule p))) _ c.1 in
    let g = and_parts (subset_test (goers (rule p)) (more_part p)) _ d.1 in
    let h = and_parts (settled (lower (rank p)) (rule p)) _ g.1 in
    let k = and_parts (sharp (rule p)) _ h.1 in
    record { good_rule = a.0; nullable_rule = same_of_test _ _ b.0; opens = c.0; begins' = d.0; goes = g.0; settles = h.0; sharp_rule = k.0; ending = k.1 }

pub good_rule : (p : Part) → good (rule p) ≡ true
good_rule p = let x = passed p in x.good_rule

pub nullable_rule : (p : Part) → nullable (rule p) ≡ nullable_part p
nullable_rule p = let x = passed p in x.nullable_rule

pub settled_rule : (p : Part) → settled (lower (rank p)) (rule p) ≡ true
settled_rule p = let x = passed p in x.settles

pub sharp_rule : (p : Part) → sharp (rule p) ≡ true
sharp_rule p = let x = passed p in x.sharp_rule

pub starts_rule : (p : Part) (ts : List Token) → starts (rule p) ts ≡ next_in (begins p) ts
starts_rule p ts = let x = passed p in both_ways _ _ (λ h. subset (starters (rule p)) (begins p) x.opens ts (sym (in_starters (rule p) ts) ∙ h)) (λ h. in_starters (rule p) ts ∙ subset (begins p) (starters (rule p)) x.begins' ts h)

pub more_rule : (p : Part) (ts : List Token) → next_in (more_part p) ts ≡ false → more (rule p) ts ≡ false
more_rule p ts h = let x = passed p in contrary _ _ (λ e. subset (goers (rule p)) (more_part p) x.goes ts (sym (in_goers (rule p) ts) ∙ e)) h

pub ends_rule : (p : Part) (ts : List Token) → next_in (end_part p) ts ≡ false → ends (rule p) ts ≡ false
ends_rule p ts h = let x = passed p in contrary _ _ (λ e. subset (enders (rule p)) (end_part p) x.ending ts (sym (in_enders (rule p) ts) ∙ e)) h

pub firm_nullable : (r : Rule) → firm r ≡ true → nullable r ≡ false
firm_nullable r h = not_true (nullable r) h
  where
    not_true : (b : Bool) → not b ≡ true → b ≡ false
    not_true true h = cc
    not_true false h = refl

pub settled_all : (r : Rule) → settled (λ p. true) r ≡ true
settled_all (Word k cs) = refl
settled_all (Ref p) = refl
settled_all (Then a b) = λ i. settled_all a i && settled_all b i
settled_all (Either a b) = λ i. settled_all a i || settled_all b i
settled_all (Many r) = refl
settled_all (Maybe r) = refl
settled_all (Deeper r) = settled_all r
