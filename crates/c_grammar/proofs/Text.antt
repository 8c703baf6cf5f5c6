-- A text has one tree or one first fault, and never both.
use Rattle.std.proofs.Common.{◌≡◌, ◌<◌, ◌≤◌, ◌⊎◌, inl, inr, ℕ, List, [], ◌∷◌, ◌++◌, length, refl, sym, ap, subst, arith, ◌∙◌, Some, None, append_assoc, length-append}
use Rattle.std.proofs.lemmas.Bool.{cases_lt}
use Rattle.c_tree.specs.declared.kind.Kind.{Kind}
use Rattle.c_tree.specs.declared.kind.Kind.TheVariants as kind
use Rattle.c_tree.specs.declared.token.Token.{Token}
use Rattle.c_tree.specs.declared.tree.Tree.{Tree}
use Rattle.c_tree.specs.Scan.{tokens_of}
use Rattle.c_tree.proofs.Whole.{scanned_tokens}
use Rattle.c_grammar.specs.Descent.{Reads, Read, Fault, Unfit}
use Rattle.c_grammar.specs.Meaning.{Forest, Spelled, tokens, Within, Reason, TooDeep, TooLarge, refused}
use Rattle.c_grammar.specs.Program.{IsProgram, HasTree, BeginsProgram, NoFurther, UnfitHere}
use Rattle.c_grammar.specs.Text as parsed
use Rattle.c_grammar.specs.Text.{text_limit, place_of, names_any, Parsed, Whole, Refused, Parses, IsParsedOnce}
use Rattle.c_grammar.specs.Trees.{parse_tree}
use Rattle.c_grammar.proofs.Exact.{same, complete, Verdict, Sunk, tokens_append, within_back, not_unfit}
use Rattle.c_grammar.proofs.Local.{local, append_none}
use Rattle.c_grammar.proofs.OneTree.{is_fixed}
use Rattle.c_grammar.proofs.Whole.{start, front_same, whole, tree_read}

-- ---- two ways to cut one list

record Longer (front : List Token) (t : Token) (long : List Token) : Type 0 where
  pub mid : List Token
  pub is : long ≡ front ++ t ∷ mid

longer : (front : List Token) (t : Token) (rest long z : List Token) → front ++ t ∷ rest ≡ long ++ z → length front < length long → Longer front t long
longer [] t rest [] z e p = absurd (omega arith)
longer [] t rest (y ∷ long) z e p = record { mid = long; is = cc }
longer (x ∷ front) t rest [] z e p = absurd (omega arith)
longer (x ∷ front) t rest (y ∷ long) z e p =
    let q : front ++ t ∷ rest ≡ long ++ z = cc e in
    let h = longer front t rest long z q (omega arith) in
    let same_first : y ≡ x = cc e in
    record { mid = h.mid; is = λ i. same_first i ∷ h.is i }

cut_same : (a b x y : List Token) → a ++ x ≡ b ++ y → length a ≡ length b → x ≡ y
cut_same [] [] x y e p = e
cut_same [] (t ∷ b) x y e p = absurd (omega arith)
cut_same (s ∷ a) [] x y e p = absurd (omega arith)
cut_same (s ∷ a) (t ∷ b) x y e p = let q : a ++ x ≡ b ++ y = cc e in cut_same a b x y q (omega arith)

-- ---- tokens with their levels

tokens_both : (ss zs : List Spelled) → tokens (ss ++ zs) ≡ tokens ss ++ tokens zs
tokens_both [] zs = refl
tokens_both (s ∷ ss) zs = ap (λ w. s.token ∷ w) (tokens_both ss zs)

length_tokens : (ss : List Spelled) → length (tokens ss) ≡ length ss
length_tokens [] = refl
length_tokens (s ∷ ss) = omega (arith, length_tokens ss)

not_both : {A : Type 0} (s t : Spelled) (w : Reason) → s ≡ t → refused s.level s.token ≡ Some w → refused t.level t.token ≡ None → A
not_both s t w e h g = absurd (not_unfit s w h (ap (λ (x : Spelled). refused x.level x.token) e ∙ g))

-- there is one first token that is refused
record OneCut (a : List Spelled) (x : Spelled) (b : List Spelled) (y : Spelled) : Type 0 where
  pub front : a ≡ b
  pub next : x ≡ y

one_cut : (a : List Spelled) (x : Spelled) (xs b : List Spelled) (y : Spelled) (ys : List Spelled) (v w : Reason) → a ++ x ∷ xs ≡ b ++ y ∷ ys → Within a → refused x.level x.token ≡ Some v → Within b → refused y.level y.token ≡ Some w → OneCut a x b y
one_cut [] x xs [] y ys v w e p h q g = record { front = refl; next = cc e }
one_cut [] x xs (t ∷ b) y ys v w e p h q g = let i : x ≡ t = cc e in not_both x t v i h q.0
one_cut (s ∷ a) x xs [] y ys v w e p h q g = let i : y ≡ s = cc e in not_both y s w i g p.0
one_cut (s ∷ a) x xs (t ∷ b) y ys v w e p h q g =
    let i : s ≡ t = cc e in
    let more : a ++ x ∷ xs ≡ b ++ y ∷ ys = cc e in
    let c = one_cut a x xs b y ys v w more p.1 h q.1 g in
    record { front = λ k. i k ∷ c.front k; next = c.next }

-- and it doesn't stand in a front that is within
beyond : (a more b : List Spelled) (y : Spelled) (ys : List Spelled) (w : Reason) → a ++ more ≡ b ++ y ∷ ys → Within a → refused y.level y.token ≡ Some w → length ys < length more
beyond [] more b y ys w e p g = omega (arith, ap length e, length-append b (y ∷ ys))
beyond (s ∷ a) more [] y ys w e p g = let i : y ≡ s = cc e in not_both y s w i g p.0
beyond (s ∷ a) more (t ∷ b) y ys w e p g = let q : a ++ more ≡ b ++ y ∷ ys = cc e in beyond a more b y ys w q p.1 g

-- ---- a refused token is where the descent stops

sunk_reads : (ss : List Spelled) (rest : List Token) (s : Sunk 0 start ss rest) (zs : List Token) → Reads 0 start (tokens s.front ++ s.next.token ∷ zs) (Fault (Unfit s.why) (s.next.token ∷ zs))
sunk_reads ss rest s zs =
    let stopped = s.next.token ∷ (tokens s.back ++ rest) in
    let x = local 0 start (tokens ss ++ rest) (Fault (Unfit s.why) stopped) s.reads in
    let e : x.front ≡ tokens s.front = front_same (tokens ss ++ rest) x.front (tokens s.front) stopped x.all (ap (λ (w : List Spelled). tokens w ++ rest) s.parts ∙ tokens_append s.front (s.next ∷ s.back) rest) in
    subst (λ (w : List Token). Reads 0 start (w ++ s.next.token ∷ zs) (Fault (Unfit s.why) (s.next.token ∷ zs))) e (x.again (s.next.token ∷ zs) refl)

carried : (a b : List Token) (s t : Token) (v w : Reason) (zs : List Token) → a ≡ b → s ≡ t → v ≡ w → Reads 0 start (a ++ s ∷ zs) (Fault (Unfit v) (s ∷ zs)) → Reads 0 start (b ++ t ∷ zs) (Fault (Unfit w) (t ∷ zs))
carried a b s t v w zs p q r h = subst (λ (x : List Token × Token × Reason). Reads 0 start (x.0 ++ x.1 ∷ zs) (Fault (Unfit x.2) (x.1 ∷ zs))) (λ i. (p i, q i, r i)) h

one_reason : (s t : Spelled) (v w : Reason) → s ≡ t → refused s.level s.token ≡ Some v → refused t.level t.token ≡ Some w → v ≡ w
one_reason s t v w e h g = let i : refused s.level s.token ≡ refused t.level t.token = ap (λ (x : Spelled). refused x.level x.token) e in cc (i, h, g)

unfit_reads : (why : Reason) (front rest : List Token) (u : UnfitHere why front rest) (zs : List Token) → Reads 0 start (front ++ u.next.token ∷ zs) (Fault (Unfit why) (u.next.token ∷ zs))
unfit_reads why front rest u zs = by (complete 0 start u.forest (u.spelled ++ u.next ∷ u.more) [] u.program)
  where
    by : Verdict 0 start u.forest (u.spelled ++ u.next ∷ u.more) [] → Reads 0 start (front ++ u.next.token ∷ zs) (Fault (Unfit why) (u.next.token ∷ zs))
    by (inl v) = absurd (not_unfit u.next why u.unfit (within_back u.spelled (u.next ∷ u.more) v.1).0)
    by (inr s) =
        let c = one_cut s.front s.next s.back u.spelled u.next u.more s.why why (sym s.parts) s.within s.unfit u.within u.unfit in
        let next : s.next.token ≡ u.next.token = ap (λ (x : Spelled). x.token) c.next in
        carried (tokens s.front) front s.next.token u.next.token s.why why zs (ap tokens c.front ∙ u.all) next (one_reason s.next u.next s.why why c.next s.unfit u.unfit) (sunk_reads _ [] s zs)

unfit_read : (why : Reason) (ts front rest : List Token) → UnfitHere why front rest → ts ≡ front ++ rest → Reads 0 start ts (Fault (Unfit why) rest)
unfit_read why ts front rest u e =
    let h : Reads 0 start (front ++ rest) (Fault (Unfit why) rest) = subst (λ (w : List Token). Reads 0 start (front ++ w) (Fault (Unfit why) w)) (sym u.token) (unfit_reads why front rest u u.behind) in
    subst (λ (w : List Token). Reads 0 start w (Fault (Unfit why) rest)) (sym e) h

-- ---- where no program goes on

never : (front rest long z after : List Token) (f : Forest) (ss : List Spelled) → NoFurther front rest → front ++ rest ≡ long ++ z → length front < length long → IsProgram f ss → tokens ss ≡ long ++ after → ⊥
never front [] long z after f ss n e p d q = absurd (omega (arith, ap length e, length-append {A = Token} front [], length-append long z))
never front (t ∷ rest) long z after f ss n e p d q =
    let h = longer front t rest long z e p in
    n f ss (h.mid ++ after) d (q ∙ (ap (λ (w : List Token). w ++ after) h.is ∙ append_assoc front (t ∷ h.mid) after))

no_begin : (front rest long z : List Token) → NoFurther front rest → front ++ rest ≡ long ++ z → length front < length long → BeginsProgram long → ⊥
no_begin front rest long z n e p b = never front rest long z (tokens b.more) b.forest (b.spelled ++ b.more) n e p b.program (tokens_both b.spelled b.more ∙ ap (λ (w : List Token). w ++ tokens b.more) b.all)

wrong_wrong : (a x b y : List Token) → a ++ x ≡ b ++ y → BeginsProgram a → NoFurther a x → BeginsProgram b → NoFurther b y → x ≡ y
wrong_wrong a x b y e p n q m = by (cases_lt (length a) (length b)) (cases_lt (length b) (length a))
  where
    by : ((length a < length b) ⊎ (length b ≤ length a)) → ((length b < length a) ⊎ (length a ≤ length b)) → x ≡ y
    by (inl h) _ = absurd (no_begin a x b y n e h q)
    by (inr h) (inl g) = absurd (no_begin b y a x m (sym e) g p)
    by (inr h) (inr g) = cut_same a b x y e (omega arith)

-- the refused token begins a program with those before it
not_before : (why : Reason) (a x front rest : List Token) → UnfitHere why a x → NoFurther front rest → front ++ rest ≡ a ++ x → length front ≤ length a → ⊥
not_before why a x front rest u n e p =
    let one : List Token = u.next.token ∷ [] in
    never front rest (a ++ one) u.behind (tokens u.more) u.forest (u.spelled ++ u.next ∷ u.more) n
    (e ∙ (ap (λ (w : List Token). a ++ w) u.token ∙ sym (append_assoc a one u.behind)))
    (omega (arith, length-append a one))
    u.program
    (tokens_both u.spelled (u.next ∷ u.more) ∙ (ap (λ (w : List Token). w ++ u.next.token ∷ tokens u.more) u.all ∙ sym (append_assoc a one (tokens u.more))))

-- tokens that begin a program within bounds pass every token before their end
no_longer : (mid : List Token) (more back : List Spelled) → mid ++ (tokens more ++ []) ≡ tokens back ++ [] → length back < length more → ⊥
no_longer mid more back e p = omega (arith, ap length e, length-append mid (tokens more ++ []), length-append (tokens more) [], length-append (tokens back) [], length_tokens more, length_tokens back)

no_stop : (why : Reason) (front : List Token) (b : BeginsProgram front) (t : Token) (mid : List Token) → Reads 0 start (tokens (b.spelled ++ b.more) ++ []) (Fault (Unfit why) (t ∷ (mid ++ (tokens b.more ++ [])))) → Verdict 0 start b.forest (b.spelled ++ b.more) [] → ⊥
no_stop why front b t mid r (inl v) = let q = same 0 start _ _ _ r v.0 in cc q
no_stop why front b t mid r (inr s) =
    let q = same 0 start _ _ _ r s.reads in
    let e : mid ++ (tokens b.more ++ []) ≡ tokens s.back ++ [] = cc q in
    no_longer mid b.more s.back e (beyond b.spelled b.more s.front s.next s.back s.why s.parts b.within s.unfit)

not_after : (why : Reason) (a x front rest : List Token) → UnfitHere why a x → BeginsProgram front → a ++ x ≡ front ++ rest → length a < length front → ⊥
not_after why a x front rest u b e p =
    let l = longer a u.next.token u.behind front rest (ap (λ (w : List Token). a ++ w) (sym u.token) ∙ e) p in
    let past : List Token = tokens b.more ++ [] in
    let stopped = Fault (Unfit why) (u.next.token ∷ (l.mid ++ past)) in
    let split : tokens (b.spelled ++ b.more) ++ [] ≡ a ++ u.next.token ∷ (l.mid ++ past) = tokens_append b.spelled b.more [] ∙ (ap (λ (w : List Token). w ++ past) (b.all ∙ l.is) ∙ append_assoc a (u.next.token ∷ l.mid) past) in
    no_stop why front b u.next.token l.mid (subst (λ (w : List Token). Reads 0 start w stopped) (sym split) (unfit_reads why a x u (l.mid ++ past))) (complete 0 start b.forest (b.spelled ++ b.more) [] b.program)

wrong_unfit : (why : Reason) (a x b y : List Token) → a ++ x ≡ b ++ y → UnfitHere why a x → BeginsProgram b → NoFurther b y → ⊥
wrong_unfit why a x b y e u p n = by (cases_lt (length a) (length b))
  where
    by : ((length a < length b) ⊎ (length b ≤ length a)) → ⊥
    by (inl h) = not_after why a x b y u p e h
    by (inr h) = not_before why a x b y u n (sym e) h

-- ---- outcomes of one list of tokens

tree_wrong : (f : Forest) (ts front rest : List Token) → HasTree ts f → ts ≡ front ++ rest → NoFurther front rest → ⊥
tree_wrong f ts front [] h e n = n f h.spelled h.program (h.all ∙ (e ∙ append_none front))
tree_wrong f ts front (t ∷ rest) h e n = n f h.spelled rest h.program (h.all ∙ e)

tree_tree : (f g : Forest) (ts : List Token) → HasTree ts f → HasTree ts g → f ≡ g
tree_tree f g ts h k = let q = whole ts g k (Read f []) (tree_read ts f h) in cc q

tree_unfit : (f : Forest) (why : Reason) (ts front rest : List Token) → HasTree ts f → ts ≡ front ++ rest → UnfitHere why front rest → ⊥
tree_unfit f why ts front rest h e u = let q = whole ts f h (Fault (Unfit why) rest) (unfit_read why ts front rest u e) in cc q

unfit_unfit : (v w : Reason) (ts a x b y : List Token) → ts ≡ a ++ x → ts ≡ b ++ y → UnfitHere v a x → UnfitHere w b y → (v ≡ w) × (x ≡ y)
unfit_unfit v w ts a x b y e h p q =
    let i = same 0 start ts (Fault (Unfit v) x) (Fault (Unfit w) y) (unfit_read v ts a x p e) (unfit_read w ts b y q h) in
    (cc i, cc i)

-- ---- what a text is

abbrev kind_of : Reason → Kind
kind_of TooDeep = kind.TooDeep
kind_of TooLarge = kind.NumberRange

-- what a tree tells of its text beside the items
abbrev Facts : List ℕ → Tree → Type 0
Facts text tree = (tree.length ≡ length text) × (tree.any_source ≡ names_any (tokens_of text))

tree_same : (text : List ℕ) (t u : Tree) → t.items ≡ u.items → Facts text t → Facts text u → t ≡ u
tree_same text t u e a b =
    let long : t.length ≡ u.length = a.0 ∙ sym b.0 in
    let any : t.any_source ≡ u.any_source = a.1 ∙ sym b.1 in
    λ i. record { items = e i; length = long i; any_source = any i }

data Case (text : List ℕ) (p : Parsed) : Type 0 where
  has_tree : (tree : Tree) → length text ≤ text_limit → HasTree (tokens_of text) (parse_tree tree.items) → Facts text tree → p ≡ Whole tree → Case text p
  too_long : text_limit < length text → p ≡ Refused kind.TextLimit text_limit → Case text p
  wrong : (front rest : List Token) → length text ≤ text_limit → tokens_of text ≡ front ++ rest → BeginsProgram front → NoFurther front rest → p ≡ Refused kind.Syntax (place_of text rest) → Case text p
  unfit : (why : Reason) (front rest : List Token) → length text ≤ text_limit → tokens_of text ≡ front ++ rest → UnfitHere why front rest → p ≡ Refused (kind_of why) (place_of text rest) → Case text p

case_unfit : (text : List ℕ) (why : Reason) (at : ℕ) (h : parsed.HasFault text (kind_of why) at) → UnfitHere why h.front h.rest → Case text (Refused (kind_of why) at)
case_unfit text why at h u = unfit why h.front h.rest h.short (scanned_tokens text h.tokens h.read ∙ h.all) u (ap (Refused (kind_of why)) h.place)

case_of : (text : List ℕ) (p : Parsed) → Parses text p → Case text p
case_of text (Whole tree) h =
    let tokens = sym (scanned_tokens text h.tokens h.read) in
    has_tree tree h.short (subst (λ (w : List Token). HasTree w (parse_tree tree.items)) tokens h.spelled) (h.length_is, h.any_source_is ∙ ap names_any tokens) refl
case_of text (Refused kind.TextLimit at) h = too_long h.0 (ap (Refused kind.TextLimit) h.1)
case_of text (Refused kind.Syntax at) h = wrong h.front h.rest h.short (scanned_tokens text h.tokens h.read ∙ h.all) h.wrong.0 h.wrong.1 (ap (Refused kind.Syntax) h.place)
case_of text (Refused kind.TooDeep at) h = case_unfit text TooDeep at h h.wrong
case_of text (Refused kind.NumberRange at) h = case_unfit text TooLarge at h h.wrong
case_of text (Refused _ at) h = absurd h.wrong

one_case : (text : List ℕ) (p q : Parsed) → Case text p → Case text q → p ≡ q
one_case text p q (has_tree t s h a e) (has_tree u r k b g) = e ∙ (ap Whole (tree_same text t u (is_fixed t.items u.items (tree_tree _ _ _ h k)) a b) ∙ sym g)
one_case text p q (has_tree t s h a e) (too_long r g) = absurd (omega arith)
one_case text p q (has_tree t s h d e) (wrong b y r j k n g) = absurd (tree_wrong _ _ b y h j n)
one_case text p q (has_tree t s h a e) (unfit w b y r j u g) = absurd (tree_unfit _ w _ b y h j u)
one_case text p q (too_long s e) (has_tree u r k b g) = absurd (omega arith)
one_case text p q (too_long s e) (too_long r g) = e ∙ sym g
one_case text p q (too_long s e) (wrong b y r j k n g) = absurd (omega arith)
one_case text p q (too_long s e) (unfit w b y r j u g) = absurd (omega arith)
one_case text p q (wrong a x s i h m e) (has_tree u r k d g) = absurd (tree_wrong _ _ a x k i m)
one_case text p q (wrong a x s i h m e) (too_long r g) = absurd (omega arith)
one_case text p q (wrong a x s i h m e) (wrong b y r j k n g) = e ∙ (ap (λ (w : List Token). Refused kind.Syntax (place_of text w)) (wrong_wrong a x b y (sym i ∙ j) h m k n) ∙ sym g)
one_case text p q (wrong a x s i h m e) (unfit w b y r j u g) = absurd (wrong_unfit w b y a x (sym j ∙ i) u h m)
one_case text p q (unfit v a x s i h e) (has_tree u r k b g) = absurd (tree_unfit _ v _ a x k i h)
one_case text p q (unfit v a x s i h e) (too_long r g) = absurd (omega arith)
one_case text p q (unfit v a x s i h e) (wrong b y r j k n g) = absurd (wrong_unfit v a x b y (sym i ∙ j) h k n)
one_case text p q (unfit v a x s i h e) (unfit w b y r j u g) =
    let o = unfit_unfit v w (tokens_of text) a x b y i j h u in
    e ∙ ((λ k. Refused (kind_of (o.0 k)) (place_of text (o.1 k))) ∙ sym g)

pub is_parsed_once : IsParsedOnce
is_parsed_once text p q h k = one_case text p q (case_of text p h) (case_of text q k)
