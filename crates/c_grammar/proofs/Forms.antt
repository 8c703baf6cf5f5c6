-- Which variant of an expression a row is of.
use Rattle.std.proofs.Common.{◌≡◌, refl, ap, ◌∙◌, ℕ, zero, suc, ◌+◌, ◌-◌, [], ◌∷◌, Bool, true, false}
use Rattle.c_tree.specs.declared.token.Class.{Class}
use Rattle.c_tree.specs.declared.token.Class.TheVariants as class
use Rattle.c_tree.specs.declared.tree.Constant.{Constant}
use Rattle.c_tree.specs.declared.tree.Constant.TheVariants as constant
use Rattle.c_tree.specs.declared.tree.Expr.TheOpen.{Expr-F}
use Rattle.c_tree.specs.declared.tree.Primary.{Primary}
use Rattle.c_tree.specs.declared.tree.Primary.TheVariants as primary
use Rattle.c_grammar.specs.Readers.{grade}
use Rattle.c_grammar.specs.Grammar as part
use Rattle.c_grammar.specs.Grammar.{Part}
use Rattle.c_grammar.specs.Meaning.{Forest, none, leaf, node, ◌+++◌}
use Rattle.c_grammar.specs.Trees.{Shape, shape_step, primary_row, part_of, lifted, number_class, constant_class}
use Rattle.c_grammar.proofs.Grades.{part_fails}

-- what a primary expression begins with
pub data Start : Type 0 where
  Number : Start
  Character : Start
  Constant' : Start
  Name : Start
  Malloc : Start
  Group : Start

pub data Form : Type 0 where
  Postfix : Start → Form
  SizeOf : Form
  Cast : Form
  Prefix : Form
  Chain : Form
  Choice : Form
  Other : Form

abbrev is_type : Part → Bool
is_type part.TypeSpecifier = true
is_type _ = false

abbrev after_paren : Forest → Form
after_paren (node p kids rest) = elim (is_type p) as (λ _. Form) [ true ↦ Cast | false ↦ Postfix Group ]
after_paren _ = Other

abbrev after_word : Class → Forest → Form
after_word class.Number rest = Postfix Number
after_word class.LongNumber rest = Postfix Number
after_word class.Character rest = Postfix Character
after_word class.Null rest = Postfix Constant'
after_word class.AnySource rest = Postfix Constant'
after_word class.AnyTag rest = Postfix Constant'
after_word class.ProcNull rest = Postfix Constant'
after_word class.Name rest = Postfix Name
after_word class.Malloc rest = Postfix Malloc
after_word class.SizeOf rest = SizeOf
after_word class.LeftParen rest = after_paren rest
after_word (class.Sign o) rest = Prefix
after_word _ rest = Other

abbrev after_node : Forest → Form
after_node none = Chain
after_node (leaf c v p rest) = Chain
after_node (node p kids rest) = Choice

abbrev pub form : Forest → Form
form none = Other
form (leaf c v p rest) = after_word c rest
form (node p kids rest) = after_node rest

abbrev pub start_of : {E : Type 0} → Primary E → Start
start_of (primary.Number n) = Number
start_of (primary.Character at v) = Character
start_of (primary.Constant at c) = Constant'
start_of (primary.Name n) = Name
start_of (primary.Call n arguments) = Name
start_of (primary.Malloc at size) = Malloc
start_of (primary.Group at inner) = Group

abbrev pub form_of : {E : Type 0} → Expr-F E → Form
form_of (Expr-F.Postfix p suffixes) = Postfix (start_of p)
form_of (Expr-F.SizeOf at t) = SizeOf
form_of (Expr-F.Cast at t x) = Cast
form_of (Expr-F.Prefix at o x) = Prefix
form_of (Expr-F.Chain first rest) = Chain
form_of (Expr-F.Choice test then otherwise) = Choice

number_form : (long : Bool) (rest : Forest) → after_word (number_class long) rest ≡ Postfix Number
number_form true rest = refl
number_form false rest = refl

constant_form : (c : Constant) (rest : Forest) → after_word (constant_class c) rest ≡ Postfix Constant'
constant_form constant.Null rest = refl
constant_form constant.AnySource rest = refl
constant_form constant.AnyTag rest = refl
constant_form constant.ProcNull rest = refl

no_type : (n : ℕ) → is_type (part_of n) ≡ false
no_type = part_fails is_type refl refl (λ g. refl)

group_form : (k g : ℕ) (row rest : Forest) → after_paren (lifted k g row +++ rest) ≡ Postfix Group
group_form zero g row rest = ap (λ b. elim b as (λ _. Form) [ true ↦ Cast | false ↦ Postfix Group ]) (no_type g)
group_form (suc k) g row rest = ap (λ b. elim b as (λ _. Form) [ true ↦ Cast | false ↦ Postfix Group ]) (no_type (suc k + g))

linked_form : (k g : ℕ) (row rest : Forest) → form (lifted k g row +++ rest) ≡ after_node rest
linked_form zero g row rest = refl
linked_form (suc k) g row rest = refl

two_form : (k g : ℕ) (row rest : Forest) → after_node (lifted k g row +++ rest) ≡ Choice
two_form zero g row rest = refl
two_form (suc k) g row rest = refl

primary_form : (p : Primary Shape) (rest : Forest) → form (primary_row (λ s. s) p +++ rest) ≡ Postfix (start_of p)
primary_form (primary.Number n) rest = number_form n.long rest
primary_form (primary.Character at v) rest = refl
primary_form (primary.Constant at c) rest = constant_form c rest
primary_form (primary.Name n) rest = refl
primary_form (primary.Call n arguments) rest = refl
primary_form (primary.Malloc at s) rest = refl
primary_form (primary.Group at s) rest = group_form (11 - s.grade) s.grade s.row rest

pub form_step : (x : Expr-F Shape) → form (shape_step x).row ≡ form_of x
form_step (Expr-F.Postfix p suffixes) = primary_form p _
form_step (Expr-F.SizeOf at t) = refl
form_step (Expr-F.Cast at t s) = refl
form_step (Expr-F.Prefix at o s) = refl
form_step (Expr-F.Chain s []) = linked_form (11 - s.grade) s.grade s.row none
form_step (Expr-F.Chain s (l ∷ rest)) = linked_form (grade l.operator - s.grade) s.grade s.row _
form_step (Expr-F.Choice s t u) = linked_form (10 - s.grade) s.grade s.row _ ∙ two_form (11 - t.grade) t.grade t.row _
