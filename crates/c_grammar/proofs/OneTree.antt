-- A program's parse tree fixes its items.
use Rattle.std.proofs.Common.{◌≡◌, ap, ◌∙◌, sym, ℕ, List}
use Rattle.c_tree.specs.declared.token.Class.TheVariants as class
use Rattle.c_tree.specs.declared.token.Header.{Header}
use Rattle.c_tree.specs.declared.tree.Heading.{Heading}
use Rattle.c_tree.specs.declared.tree.Item.{Item}
use Rattle.c_tree.specs.declared.tree.Item.TheVariants as item
use Rattle.c_tree.specs.declared.tree.MemberDeclaration.{MemberDeclaration}
use Rattle.c_tree.specs.declared.tree.Name.{Name}
use Rattle.c_tree.specs.declared.tree.PlainType.TheVariants as plain_type
use Rattle.c_tree.specs.declared.tree.TypeSpecifier.{TypeSpecifier}
use Rattle.c_tree.specs.declared.tree.TypeSpecifier.TheVariants as specifier
use Rattle.c_grammar.specs.Grammar as part
use Rattle.c_grammar.specs.Meaning.{Forest, none, node, ◌+++◌}
use Rattle.c_grammar.specs.Trees.{word, each, name_row, star_row, specifier_row, parameters_tree, parameter_tree, heading_row, members_tree, block_tree, statement_row, item_row, item_tree, IsFixed}
use Rattle.c_grammar.proofs.Grades.{none_right, forest_assoc}
use Rattle.c_grammar.proofs.Peels.{Peels, each_one, name_peels, stars_peel, specifier_peels}
use Rattle.c_grammar.proofs.OneDeclaration.{members_peels, parameter_peels}
use Rattle.c_grammar.proofs.OneStatement.{block_one}

-- ---- headings

parameters_one : (x y : Heading) → parameters_tree x.parameters ≡ parameters_tree y.parameters → x.parameters ≡ y.parameters
parameters_one x y h = each_one parameter_tree parameter_peels (λ p f e. cc) x.parameters y.parameters (cc)

heading_split : (x : Heading) (f : Forest) → heading_row x +++ f ≡ star_row x.stars +++ name_row x.name +++ parameters_tree x.parameters +++ f
heading_split x f = forest_assoc (star_row x.stars) (name_row x.name +++ parameters_tree x.parameters) f

abbrev function : Heading → Forest → Forest
function x f = specifier_row x.specifier +++ node part.Function (heading_row x +++ f) none

heading_one : (x y : Heading) (f g : Forest) → function x f ≡ function y g → (x ≡ y) × (f ≡ g)
heading_one x y f g h =
    let first = specifier_peels x.specifier y.specifier _ _ h in
    let row : heading_row x +++ f ≡ heading_row y +++ g = cc in
    let second = stars_peel _ _ (λ r e. cc) (λ r e. cc) x.stars y.stars (sym (heading_split x f) ∙ row ∙ heading_split y g) in
    let third = name_peels x.name y.name _ _ second.1 in
    let fourth = parameters_one x y (cc) in
    (λ i. record { specifier = first.0 i; stars = second.0 i; name = third.0 i; parameters = fourth i }, cc)

prototype : (x : Heading) → item_row (item.Prototype x) ≡ function x none
prototype x = ap (λ r. specifier_row x.specifier +++ node part.Function r none) (sym (none_right (heading_row x)))

-- ---- items

no_include : (s : TypeSpecifier) (f : Forest) (k : Header) (at : ℕ) → specifier_row s +++ f ≡ word (class.Include k) at none → ⊥
no_include (specifier.Plain to plain_type.Char) f k at h = cc
no_include (specifier.Plain to plain_type.Int) f k at h = cc
no_include (specifier.Plain to plain_type.Long) f k at h = cc
no_include (specifier.Plain to plain_type.Void) f k at h = cc
no_include (specifier.Plain to plain_type.Status) f k at h = cc
no_include (specifier.Struct to n) f k at h = cc

no_body : (s : TypeSpecifier) (f g : Forest) (n : Name) (at : ℕ) → specifier_row s +++ node part.Function f none ≡ word class.Struct at (name_row n +++ node part.StructBody g none) → ⊥
no_body (specifier.Plain to plain_type.Char) f g n at h = cc
no_body (specifier.Plain to plain_type.Int) f g n at h = cc
no_body (specifier.Plain to plain_type.Long) f g n at h = cc
no_body (specifier.Plain to plain_type.Void) f g n at h = cc
no_body (specifier.Plain to plain_type.Status) f g n at h = cc
no_body (specifier.Struct to m) f g n at h = cc

struct_one : (n m : Name) (at to : ℕ) (xs ys : List MemberDeclaration) → item_row (item.Struct at n xs) ≡ item_row (item.Struct to m ys) → item.Struct at n xs ≡ item.Struct to m ys
struct_one n m at to xs ys h =
    let first = name_peels n m (node part.StructBody (each members_tree xs) none) (node part.StructBody (each members_tree ys) none) (cc) in
    let rest = each_one members_tree members_peels (λ x f e. cc) xs ys (cc) in
    cc

item_one : (x y : Item) → item_row x ≡ item_row y → x ≡ y
item_one (item.Include at k) (item.Include to l) h = cc
item_one (item.Struct at n xs) (item.Struct to m ys) h = struct_one n m at to xs ys h
item_one (item.Prototype x) (item.Prototype y) h = ap item.Prototype (heading_one x y none none (sym (prototype x) ∙ h ∙ prototype y)).0
item_one (item.Function x b) (item.Function y c) h =
    let more = heading_one x y (block_tree statement_row b) (block_tree statement_row c) h in
    let body = block_one b c more.1 in
    λ i. item.Function (more.0 i) (body i)
item_one (item.Prototype x) (item.Function y c) h = absurd (let more = heading_one x y none (block_tree statement_row c) (sym (prototype x) ∙ h) in cc)
item_one (item.Function x b) (item.Prototype y) h = absurd (let more = heading_one x y (block_tree statement_row b) none (h ∙ prototype y) in cc)
item_one (item.Include at k) (item.Struct to m ys) h = absurd (cc)
item_one (item.Struct at n xs) (item.Include to l) h = absurd (cc)
item_one (item.Include at k) (item.Prototype y) h = absurd (no_include y.specifier _ k at (sym h))
item_one (item.Include at k) (item.Function y c) h = absurd (no_include y.specifier _ k at (sym h))
item_one (item.Prototype x) (item.Include to l) h = absurd (no_include x.specifier _ l to h)
item_one (item.Function x b) (item.Include to l) h = absurd (no_include x.specifier _ l to h)
item_one (item.Struct at n xs) (item.Prototype y) h = absurd (no_body y.specifier _ _ n at (sym h))
item_one (item.Struct at n xs) (item.Function y c) h = absurd (no_body y.specifier _ _ n at (sym h))
item_one (item.Prototype x) (item.Struct to m ys) h = absurd (no_body x.specifier _ _ m to h)
item_one (item.Function x b) (item.Struct to m ys) h = absurd (no_body x.specifier _ _ m to h)

item_peels : Peels item_tree
item_peels x y f g h = (item_one x y (cc), cc)

pub is_fixed : IsFixed
is_fixed a b h = each_one item_tree item_peels (λ x f e. cc) a b (cc)
