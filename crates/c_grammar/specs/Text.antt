-- The tree of a text, or its first fault.
use Rattle.std.specs.Prelude.{ℕ, ◌≡◌, ◌<◌, ◌≤◌, Bool, true, false, List, [], ◌∷◌, ◌++◌, length}
use Rattle.std.specs.List.{list_any}
use Rattle.c_tree.specs.declared.kind.Kind.{Kind}
use Rattle.c_tree.specs.declared.kind.Kind.TheVariants as kind
use Rattle.c_tree.specs.declared.token.Class.{Class}
use Rattle.c_tree.specs.declared.token.Class.TheVariants as class
use Rattle.c_tree.specs.declared.token.Token.{Token}
use Rattle.c_tree.specs.declared.tree.Tree.{Tree}
use Rattle.c_tree.specs.Tokens.{Tokens}
use Rattle.c_grammar.specs.Meaning.{TooDeep, TooLarge}
use Rattle.c_grammar.specs.Program as program
use Rattle.c_grammar.specs.Program.{BeginsProgram, NoFurther, UnfitHere}
use Rattle.c_grammar.specs.Trees.{parse_tree}

-- the greatest length of a text
abbrev pub text_limit : ℕ
text_limit = 65536

-- the place of what is left of a text's tokens: its first token's, or the text's length
abbrev pub place_of : List ℕ → List Token → ℕ
place_of text [] = length text
place_of text (t ∷ ts) = t.place

-- the word MPI_ANY_SOURCE
abbrev pub is_any_source : Class → Bool
is_any_source class.AnySource = true
is_any_source _ = false

abbrev pub names_any : List Token → Bool
names_any ts = list_any (λ t. is_any_source t.class) ts

-- The text has the tree.
pub record HasTree (text : List ℕ) (tree : Tree) : Type 0 where
  pub short : length text ≤ text_limit
  pub tokens : List Token
  pub read : Tokens text tokens
  pub spelled : program.HasTree tokens (parse_tree tree.items)
  pub length_is : tree.length ≡ length text
  pub any_source_is : tree.any_source ≡ names_any tokens

-- after these tokens, which begin a program, the next is at fault
abbrev pub IsWrong : Kind → List Token → List Token → Type 0
IsWrong kind.Syntax front rest = BeginsProgram front × NoFurther front rest
IsWrong kind.TooDeep front rest = UnfitHere TooDeep front rest
IsWrong kind.NumberRange front rest = UnfitHere TooLarge front rest
IsWrong _ front rest = ⊥

-- The text's first fault is of this kind, at this place.
pub record HasFault (text : List ℕ) (what : Kind) (at : ℕ) : Type 0 where
  pub short : length text ≤ text_limit
  pub tokens : List Token
  pub read : Tokens text tokens
  pub front : List Token
  pub rest : List Token
  pub all : tokens ≡ front ++ rest
  pub wrong : IsWrong what front rest
  pub place : at ≡ place_of text rest

-- What a text is: a tree, or refused for a fault.
pub data Parsed : Type 0 where
  Whole : (tree : Tree) → Parsed
  Refused : (what : Kind) (at : ℕ) → Parsed

-- the text has the tree, is too long, or has the fault
abbrev pub Parses : List ℕ → Parsed → Type 0
Parses text (Whole tree) = HasTree text tree
Parses text (Refused kind.TextLimit at) = (text_limit < length text) × (at ≡ text_limit)
Parses text (Refused what at) = HasFault text what at

-- a text is one thing alone: it has one tree or one first fault, and never both
abbrev pub IsParsedOnce : Type 0
IsParsedOnce = (text : List ℕ) (p q : Parsed) → Parses text p → Parses text q → p ≡ q
