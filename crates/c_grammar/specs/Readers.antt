-- What stands in the parse tree for what a reader of one token gives.
use Rattle.std.specs.Prelude.{ℕ, ◌≡◌, List, [], ◌∷◌, Option, Some, None, true, false, Bool}
use Rattle.c_tree.specs.declared.token.Class.{Class}
use Rattle.c_tree.specs.declared.token.Class.TheVariants as class
use Rattle.c_tree.specs.declared.token.Operator.{Operator}
use Rattle.c_tree.specs.declared.token.Operator.TheVariants as operator
use Rattle.c_tree.specs.declared.token.Token.{Token}
use Rattle.c_tree.specs.declared.token.Value.{Value}
use Rattle.c_tree.specs.declared.token.Value.TheVariants as value
use Rattle.c_grammar.specs.declared.values.Integer.{Integer}
use Rattle.c_grammar.specs.declared.values.Literal.{Literal}
use Rattle.c_grammar.specs.declared.values.Literal.TheVariants as literal
use Rattle.c_grammar.specs.declared.values.MemberName.{MemberName}
use Rattle.c_grammar.specs.declared.values.MemberName.TheVariants as member
use Rattle.c_grammar.specs.Meaning.{next_in, fitting}

-- the next token is of that class
abbrev pub FirstIs : Class → List Token → Type 0
FirstIs c [] = ⊥
FirstIs c (t ∷ ts) = t.class ≡ c

-- the next token is of the classes, and of that one
abbrev pub IsNext : {X : Type 0} → (X → Class) → List Class → List Token → Option X → Type 0
IsNext kind cs ts None = next_in cs ts ≡ false
IsNext kind cs ts (Some x) = (next_in cs ts ≡ true) × FirstIs (kind x) ts

-- the next token has that class and value
abbrev pub FirstHas : Class → Value → List Token → Type 0
FirstHas c v [] = ⊥
FirstHas c v (t ∷ ts) = (t.class ≡ c) × (fitting t.class t.value ≡ v)

-- the same where it has a value; none: it is not of the classes, or it is a number of 2^63 or more
abbrev pub IsValue : {X : Type 0} → (X → Class) → (X → Value) → List Class → List Token → Option X → Type 0
IsValue kind worth cs ts None = next_in cs ts ≡ next_in (class.HugeNumber ∷ []) ts
IsValue kind worth cs ts (Some x) = (next_in cs ts ≡ true) × FirstHas (kind x) (worth x) ts

-- the grade of an operator, 10 where it has none
abbrev pub grade : Operator → ℕ
grade operator.Star = 0
grade operator.Slash = 0
grade operator.Percent = 0
grade operator.Plus = 1
grade operator.Minus = 1
grade operator.ShiftLeft = 2
grade operator.ShiftRight = 2
grade operator.Less = 3
grade operator.Greater = 3
grade operator.LessEqual = 3
grade operator.GreaterEqual = 3
grade operator.EqualEqual = 4
grade operator.NotEqual = 4
grade operator.And = 5
grade operator.Caret = 6
grade operator.Or = 7
grade operator.AndAnd = 8
grade operator.OrOr = 9
grade operator.Not = 10
grade operator.Tilde = 10

-- the class of an assignment: of = where there is no operator
abbrev pub assign_class : Option Operator → Class
assign_class None = class.Equal
assign_class (Some o) = class.Compound o

-- the class of a number, long or not
abbrev length_class : Bool → Class
length_class true = class.LongNumber
length_class false = class.Number

-- the class of a number
abbrev pub integer_class : Integer → Class
integer_class i = length_class i.long

-- its value
abbrev pub integer_value : Integer → Value
integer_value i = value.Number i.value

-- the class of a literal
abbrev pub literal_class : Literal → Class
literal_class (literal.Integer i) = integer_class i
literal_class (literal.Character c) = class.Character
literal_class literal.Null = class.Null
literal_class literal.AnySource = class.AnySource
literal_class literal.AnyTag = class.AnyTag
literal_class literal.ProcNull = class.ProcNull

-- its value
abbrev pub literal_value : Literal → Value
literal_value (literal.Integer i) = integer_value i
literal_value (literal.Character c) = value.Number c
literal_value _ = value.Nothing

-- the class of a member's name
abbrev pub member_class : MemberName → Class
member_class (member.Name bytes) = class.Name
member_class member.Source = class.SourceField
member_class member.Tag = class.TagField

-- its value
abbrev pub member_value : MemberName → Value
member_value (member.Name bytes) = value.Bytes bytes
member_value _ = value.Nothing
