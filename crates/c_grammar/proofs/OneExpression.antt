-- An expression's row fixes the expression.
use Rattle.std.proofs.Common.{◌≡◌, refl, ap, ◌∙◌, sym, ℕ, zero, suc, ◌-◌, ◌≤◌, List, [], ◌∷◌, arith}
use Rattle.c_tree.specs.declared.token.Class.TheVariants as class
use Rattle.c_tree.specs.declared.token.Operator.{Operator}
use Rattle.c_tree.specs.declared.token.Operator.TheVariants as operator
use Rattle.c_tree.specs.declared.tree.Access.{Access}
use Rattle.c_tree.specs.declared.tree.Access.TheVariants as access
use Rattle.c_tree.specs.declared.tree.Expr.{Expr}
use Rattle.c_tree.specs.declared.tree.Expr.TheFolds.{map-Expr, fold_out-Expr}
use Rattle.c_tree.specs.declared.tree.Expr.TheOpen.{Expr-F}
use Rattle.c_tree.specs.declared.tree.Expr.TheViews.{out-Expr, roll-Expr, roll-out-Expr}
use Rattle.c_tree.specs.declared.tree.Link.{Link}
use Rattle.c_tree.specs.declared.tree.Primary.{Primary}
use Rattle.c_tree.specs.declared.tree.Primary.TheVariants as primary
use Rattle.c_tree.specs.declared.tree.Suffix.{Suffix}
use Rattle.c_tree.specs.declared.tree.Suffix.TheVariants as suffix
use Rattle.c_tree.specs.declared.tree.TypeName.{TypeName}
use Rattle.c_grammar.specs.Readers.{grade}
use Rattle.c_grammar.specs.Grammar as part
use Rattle.c_grammar.specs.Meaning.{Forest, none, node, ◌+++◌}
use Rattle.c_grammar.specs.Trees.{Shape, shape, shape_step, primary_row, suffix_row, suffix_tree, at_grade, lifted, whole, each, link_row, chain_grade, access_class, type_name_row, expression_tree, unary_tree}
use Rattle.c_grammar.proofs.Expressions.{All, AllOperands, OfPrimary, OfSuffix, AllSuffixes, OfParts, by_parts}
use Rattle.c_grammar.proofs.Forms.{Start, Postfix, start_of, form, form_of, form_step}
use Rattle.c_grammar.proofs.Peels.{Peels, NoStar, name_peels, number_peels, constant_one, access_one, member_name_peels, type_name_peels, at_grade_peels}
use Rattle.c_grammar.proofs.Single.{strip, strip_at_grade}
use Rattle.c_grammar.proofs.Views.{shape_roll, chain_step, postfix_step}

abbrev One : Expr → Type 0
One c = (d : Expr) → (shape c).row ≡ (shape d).row → c ≡ d

child : (v w : ℕ) (c d : Expr) → v ≤ 11 → w ≤ 11 → One c → at_grade v (shape c) ≡ at_grade w (shape d) → c ≡ d
child v w c d a b one h = one d (sym (strip_at_grade v c a) ∙ ap strip h ∙ strip_at_grade w d b)

-- what stands where a whole expression is wanted, and an operand
whole_child : (c d : Expr) → One c → whole (shape c) ≡ whole (shape d) → c ≡ d
whole_child c d = child 11 11 c d (omega arith) (omega arith)

unary_child : (c d : Expr) → One c → at_grade 0 (shape c) ≡ at_grade 0 (shape d) → c ≡ d
unary_child c d = child 0 0 c d (omega arith) (omega arith)

no_lifted : (k g : ℕ) (row f : Forest) → none ≡ lifted k g row +++ f → ⊥
no_lifted zero g row f h = cc
no_lifted (suc k) g row f h = cc

pub no_tree : (g : ℕ) (s : Shape) (f : Forest) → none ≡ at_grade g s +++ f → ⊥
no_tree g s f = no_lifted (g - s.grade) s.grade s.row f

lifted_no_star : (k g : ℕ) (row : Forest) → NoStar (lifted k g row)
lifted_no_star zero g row f h = cc
lifted_no_star (suc k) g row f h = cc

all_one : (xs ys : List Expr) → All One xs → each expression_tree xs ≡ each expression_tree ys → xs ≡ ys
all_one [] [] one h = refl
all_one [] (y ∷ ys) one h = absurd (no_tree 11 (shape y) (each expression_tree ys) h)
all_one (x ∷ xs) [] one h = absurd (no_tree 11 (shape x) (each expression_tree xs) (sym h))
all_one (x ∷ xs) (y ∷ ys) one h =
    let first = at_grade_peels 11 11 (shape x) (shape y) (each expression_tree xs) (each expression_tree ys) h in
    let same = whole_child x y one.0 first.0 in
    let rest = all_one xs ys one.1 first.1 in
    λ i. same i ∷ rest i

links_one : (g h : ℕ) → g ≤ 11 → h ≤ 11 → (xs ys : List (Link Expr)) → AllOperands One xs → each (link_row shape g) xs ≡ each (link_row shape h) ys → xs ≡ ys
links_one g h a b [] [] one e = refl
links_one g h a b [] (y ∷ ys) one e = absurd (cc)
links_one g h a b (x ∷ xs) [] one e = absurd (cc)
links_one g h a b (x ∷ xs) (y ∷ ys) one e =
    let sign : x.operator ≡ y.operator = cc in
    let more = at_grade_peels g h (shape x.operand) (shape y.operand) (each (link_row shape g) xs) (each (link_row shape h) ys) (cc) in
    let same = child g h x.operand y.operand a b one.0 more.0 in
    let rest = links_one g h a b xs ys one.1 more.1 in
    λ i. record { operator = sign i; operand = same i } ∷ rest i

grade_small : (o : Operator) → grade o ≤ 11
grade_small operator.Star = omega arith
grade_small _ = omega arith

chain_small : (rest : List (Link Expr)) → chain_grade rest ≤ 11
chain_small [] = omega arith
chain_small (l ∷ rest) = grade_small l.operator

chains_one : (f g : Expr) (xs ys : List (Link Expr)) → One f → AllOperands One xs → at_grade (chain_grade xs) (shape f) +++ each (link_row shape (chain_grade xs)) xs ≡ at_grade (chain_grade ys) (shape g) +++ each (link_row shape (chain_grade ys)) ys → (f ≡ g) × (xs ≡ ys)
chains_one f g xs ys one all h =
    let more = at_grade_peels (chain_grade xs) (chain_grade ys) (shape f) (shape g) (each (link_row shape (chain_grade xs)) xs) (each (link_row shape (chain_grade ys)) ys) h in
    (child (chain_grade xs) (chain_grade ys) f g (chain_small xs) (chain_small ys) one more.0, links_one (chain_grade xs) (chain_grade ys) (chain_small xs) (chain_small ys) xs ys all more.1)

types_one : (t u : TypeName) → type_name_row t ≡ type_name_row u → t ≡ u
types_one t u h = (type_name_peels none none (λ f e. cc) (λ f e. cc) t u (ap (λ r. r +++ none) h)).0

casts_one : (t u : TypeName) (x y : Expr) → type_name_row t +++ at_grade 0 (shape x) ≡ type_name_row u +++ at_grade 0 (shape y) → (t ≡ u) × (at_grade 0 (shape x) ≡ at_grade 0 (shape y))
casts_one t u x y = type_name_peels _ _ (lifted_no_star (0 - (shape x).grade) (shape x).grade (shape x).row) (lifted_no_star (0 - (shape y).grade) (shape y).grade (shape y).row) t u

choices_one : (a b c x y z : Expr) → One a → One b → One c → at_grade 10 (shape a) +++ whole (shape b) +++ whole (shape c) ≡ at_grade 10 (shape x) +++ whole (shape y) +++ whole (shape z) → (a ≡ x) × (b ≡ y) × (c ≡ z)
choices_one a b c x y z one two three h =
    let first = at_grade_peels 10 10 (shape a) (shape x) (whole (shape b) +++ whole (shape c)) (whole (shape y) +++ whole (shape z)) h in
    let second = at_grade_peels 11 11 (shape b) (shape y) (whole (shape c)) (whole (shape z)) first.1 in
    (child 10 10 a x (omega arith) (omega arith) one first.0, whole_child b y two second.0, whole_child c z three second.1)

-- ---- postfix expressions

abbrev NoArguments : Forest → Type 0
NoArguments f = (kids g : Forest) → f ≡ node part.Arguments kids g → ⊥

primaries_one : (p q : Primary Expr) (f g : Forest) → OfPrimary One p → start_of p ≡ start_of q → NoArguments f → NoArguments g → primary_row shape p +++ f ≡ primary_row shape q +++ g → (p ≡ q) × (f ≡ g)
primaries_one (primary.Number n) (primary.Number m) f g one k a b h = let same = number_peels n m f g h in (ap primary.Number same.0, same.1)
primaries_one (primary.Character at v) (primary.Character to w) f g one k a b h = (cc, cc)
primaries_one (primary.Constant at c) (primary.Constant to d) f g one k a b h = let same = constant_one c d (cc) in (cc, cc)
primaries_one (primary.Name n) (primary.Name m) f g one k a b h = let same = name_peels n m f g h in (ap primary.Name same.0, same.1)
primaries_one (primary.Call n xs) (primary.Call m ys) f g one k a b h =
    let first = name_peels n m (node part.Arguments (each expression_tree xs) f) (node part.Arguments (each expression_tree ys) g) h in
    let rest = all_one xs ys one (cc) in
    (λ i. primary.Call (first.0 i) (rest i), cc)
primaries_one (primary.Name n) (primary.Call m ys) f g one k a b h = absurd (a _ _ (name_peels n m f (node part.Arguments (each expression_tree ys) g) h).1)
primaries_one (primary.Call n xs) (primary.Name m) f g one k a b h = absurd (b _ _ (sym (name_peels n m (node part.Arguments (each expression_tree xs) f) g h).1))
primaries_one (primary.Malloc at x) (primary.Malloc to y) f g one k a b h =
    let more = at_grade_peels 11 11 (shape x) (shape y) f g (cc) in
    let same = whole_child x y one more.0 in
    (cc, more.1)
primaries_one (primary.Group at x) (primary.Group to y) f g one k a b h =
    let more = at_grade_peels 11 11 (shape x) (shape y) f g (cc) in
    let same = whole_child x y one more.0 in
    (cc, more.1)
primaries_one p q f g one k a b h = absurd (cc)

no_bracket : (a : Access) → class.LeftBracket ≡ access_class a → ⊥
no_bracket access.Dot h = cc
no_bracket access.Arrow h = cc

suffix_one : (s t : Suffix Expr) → OfSuffix One s → suffix_row shape s ≡ suffix_row shape t → s ≡ t
suffix_one (suffix.Index at x) (suffix.Index to y) one h = let same = whole_child x y one (cc) in cc
suffix_one (suffix.Member at a n) (suffix.Member to d m) one h =
    let way = access_one a d (cc) in
    let name = member_name_peels n m none none (ap (λ r. r +++ none) (cc)) in
    cc
suffix_one (suffix.Index at x) (suffix.Member to d m) one h = absurd (no_bracket d (cc))
suffix_one (suffix.Member at a n) (suffix.Index to y) one h = absurd (no_bracket a (cc))

suffixes_one : (xs ys : List (Suffix Expr)) → AllSuffixes One xs → each (suffix_tree shape) xs ≡ each (suffix_tree shape) ys → xs ≡ ys
suffixes_one [] [] one h = refl
suffixes_one [] (y ∷ ys) one h = absurd (cc)
suffixes_one (x ∷ xs) [] one h = absurd (cc)
suffixes_one (x ∷ xs) (y ∷ ys) one h =
    let same = suffix_one x y one.0 (cc) in
    let rest = suffixes_one xs ys one.1 (cc) in
    λ i. same i ∷ rest i

no_arguments : (xs : List (Suffix Expr)) → NoArguments (each (suffix_tree shape) xs)
no_arguments [] kids g h = cc
no_arguments (x ∷ xs) kids g h = cc

postfix_one : (p q : Primary Expr) (xs ys : List (Suffix Expr)) → OfPrimary One p → AllSuffixes One xs → start_of p ≡ start_of q → primary_row shape p +++ each (suffix_tree shape) xs ≡ primary_row shape q +++ each (suffix_tree shape) ys → (p ≡ q) × (xs ≡ ys)
postfix_one p q xs ys one all k h =
    let first = primaries_one p q (each (suffix_tree shape) xs) (each (suffix_tree shape) ys) one k (no_arguments xs) (no_arguments ys) h in
    (first.0, suffixes_one xs ys all first.1)

-- ---- one layer

starts_one : (a b : Start) → Postfix a ≡ Postfix b → a ≡ b
starts_one a b k = cc

map_start : (p : Primary Expr) (xs : List (Suffix Expr)) → form_of (map-Expr Expr Shape shape (Expr-F.Postfix p xs)) ≡ Postfix (start_of p)
map_start (primary.Number n) xs = refl
map_start (primary.Character at v) xs = refl
map_start (primary.Constant at c) xs = refl
map_start (primary.Name n) xs = refl
map_start (primary.Call n arguments) xs = refl
map_start (primary.Malloc at size) xs = refl
map_start (primary.Group at inner) xs = refl

abbrev step_of : Expr-F Expr → Shape
step_of x = shape_step (map-Expr Expr Shape shape x)

one_layer : (x z : Expr-F Expr) → OfParts One x → form_of (map-Expr Expr Shape shape x) ≡ form_of (map-Expr Expr Shape shape z) → (step_of x).row ≡ (step_of z).row → x ≡ z
one_layer (Expr-F.Postfix p xs) (Expr-F.Postfix q ys) one k h =
    let starts = starts_one (start_of p) (start_of q) (sym (map_start p xs) ∙ k ∙ map_start q ys) in
    let more = postfix_one p q xs ys one.0 one.1 starts (sym (ap (λ s. s.row) (postfix_step p xs)) ∙ h ∙ ap (λ s. s.row) (postfix_step q ys)) in
    cc
one_layer (Expr-F.SizeOf at t) (Expr-F.SizeOf to u) one k h = let same = types_one t u (cc) in cc
one_layer (Expr-F.Cast at t x) (Expr-F.Cast to u y) one k h =
    let more = casts_one t u x y (cc) in
    let same = unary_child x y one more.1 in
    cc
one_layer (Expr-F.Prefix at o x) (Expr-F.Prefix to p y) one k h = let same = unary_child x y one (cc) in cc
one_layer (Expr-F.Chain f xs) (Expr-F.Chain g ys) one k h =
    let more = chains_one f g xs ys one.0 one.1 (sym (ap (λ s. s.row) (chain_step f xs)) ∙ h ∙ ap (λ s. s.row) (chain_step g ys)) in
    cc
one_layer (Expr-F.Choice a b c) (Expr-F.Choice x y z) one k h =
    let more = choices_one a b c x y z one.0 one.1 one.2 h in
    cc
one_layer x z one k h = absurd (cc)

row_one : (c : Expr) → One c
row_one = by_parts One (λ x parts d h.
    let z = out-Expr d in
    let rows : (step_of x).row ≡ (step_of z).row = sym (ap (λ s. s.row) (shape_roll x)) ∙ h ∙ ap (λ s. s.row) (fold_out-Expr Shape shape_step d) in
    let forms = sym (form_step (map-Expr Expr Shape shape x)) ∙ ap form rows ∙ form_step (map-Expr Expr Shape shape z) in
    ap roll-Expr (one_layer x z parts forms rows) ∙ roll-out-Expr d)

pub expression_peels : Peels expression_tree
expression_peels x y f g h = let more = at_grade_peels 11 11 (shape x) (shape y) f g h in (whole_child x y (row_one x) more.0, more.1)

pub unary_peels : Peels unary_tree
unary_peels x y f g h = let more = at_grade_peels 0 0 (shape x) (shape y) f g h in (unary_child x y (row_one x) more.0, more.1)
