-- What a program is found to be: accepted with its typed program, or refused for the first broken rule.
use Rattle.std.specs.Prelude.{◌≡◌, ℕ, Bool, true, false, ◌||◌, ◌&&◌, List, [], ◌∷◌, ◌++◌, map, fold, length, nat_lt, ◌==◌, ◌⊎◌, Option, Some, None, option_map, if◌then◌else◌}
use Rattle.c_tree.specs.declared.tree.Tree.{Tree}
use Rattle.c_tree.specs.declared.tree.Item.{Item}
use Rattle.c_tree.specs.declared.tree.Item.TheVariants as item
use Rattle.c_tree.specs.declared.tree.Heading.{Heading}
use Rattle.c_tree.specs.declared.tree.BlockItem.{BlockItem}
use Rattle.c_tree.specs.declared.tree.BlockItem.TheVariants as block_item
use Rattle.c_tree.specs.declared.tree.Stmt.{Stmt}
use Rattle.c_tree.specs.declared.kind.Kind.{Kind}
use Rattle.c_tree.specs.declared.kind.Kind.TheVariants as kind
use Rattle.c_kernel.specs.declared.types.CType.{CType}
use Rattle.c_kernel.specs.declared.types.Struct.{Struct}
use Rattle.c_kernel.specs.declared.program.Program.{Program}
use Rattle.c_kernel.specs.declared.program.Function.{Function}
use Rattle.c_kernel.specs.declared.program.Stmt.{Stmt as Typed}
use Rattle.c_kernel.specs.declared.program.Stmt.TheVariants.{Actions}
use Rattle.c_rules.specs.declared.breach.Breach.{Breach}
use Rattle.c_rules.specs.declared.signature.Signature.{Signature}
use Rattle.c_rules.specs.Judged.{Judged, by, refused, after, of_parts, as_part, pair_of}
use Rattle.c_rules.specs.Scope.{Bytes, Scope, start}
use Rattle.c_rules.specs.Rules.{main_name}
use Rattle.c_rules.specs.Types.{first_structs}
use Rattle.c_check.specs.Statement.{Walk, walk_all, walk_as, walked, declaration}
use Rattle.c_check.specs.Structs.{with_item, all_structs, struct_rules}
use Rattle.c_check.specs.Functions.{is_main, parameters_of, result_of, with_parameters, heading_rules, signatures, number_in, next_number}

-- ---- a function: its parameters and its body's outermost declarations are one scope

module _ (functions : Bytes → Option Signature) (structs : List Struct) where
  abbrev pub body_item : CType → BlockItem Stmt → Walk Typed
  body_item result (block_item.Declaration d) = walk_as Actions (declaration functions structs d)
  body_item result (block_item.Statement x) = walked functions structs result x false

  abbrev pub made : Heading → Scope → List Typed → Scope → Function
  made h parameters steps inside = record {
    name = h.name.bytes;
    result = result_of structs h;
    parameters = length parameters.variables;
    variables = inside.variables;
    body = steps;
  }

  abbrev pub body : Heading → List (BlockItem Stmt) → Judged Function
  body h items =
      let parameters = with_parameters structs (is_main h) start (parameters_of h.parameters) in
      let inside = walk_all (map (body_item (result_of structs h)) items) parameters in
      as_part (λ steps. made h parameters steps inside.scope) inside.judged

  -- what an item adds, where k definitions stand before it: a definition one function
  abbrev pub item_judged : ℕ → Item → Judged (List Function)
  item_judged k (item.Include at header) = by [] []
  item_judged k (item.Struct at name members) = by (struct_rules structs name members) []
  item_judged k (item.Prototype h) = by (heading_rules functions structs k false h) []
  item_judged k (item.Function h b) = after (heading_rules functions structs k true h) (as_part (λ f. f ∷ []) (body h b.items))

-- ---- the items in order, where these structs and so many definitions stand before

abbrev pub items_judged : (Bytes → Option Signature) → List Struct → ℕ → List Item → Judged (List Function)
items_judged functions structs k [] = by [] []
items_judged functions structs k (i ∷ is) =
    of_parts (item_judged functions structs k i) (items_judged functions (with_item structs i) (next_number k i) is) (λ fs gs. by [] (fs ++ gs))

-- ---- the whole

abbrev pub main_in : ℕ → Option ℕ → Judged ℕ
main_in length None = refused kind.NoMain length
main_in length (Some k) = by [] k

-- the functions, and the number of main
abbrev pub judged_tree : Tree → Judged (List Function × ℕ)
judged_tree tree =
    let functions = signatures first_structs 0 tree.items in
    pair_of (items_judged functions first_structs 0 tree.items) (main_in tree.length (number_in (functions main_name)))

abbrev pub program_of : Tree → List Function × ℕ → Program
program_of tree parts = record { structs = all_structs first_structs tree.items; functions = parts.0; main = parts.1; any_source = tree.any_source }

-- ---- the first breach

-- the number of a rule in the table; what isn't built yet goes first
abbrev pub precedence : Kind → ℕ
precedence kind.NotYet = 0
precedence kind.TextLimit = 1
precedence kind.Syntax = 2
precedence kind.TooDeep = 3
precedence kind.NumberRange = 4
precedence kind.UnknownName = 5
precedence kind.Redeclared = 6
precedence kind.NoMain = 7
precedence kind.BadMain = 8
precedence kind.NotScalar = 9
precedence kind.NotInteger = 10
precedence kind.NotPointer = 11
precedence kind.NotStruct = 12
precedence kind.NotPlace = 13
precedence kind.TypeMismatch = 14
precedence kind.ArgumentCount = 15
precedence kind.CallPlace = 16
precedence kind.MallocPlace = 17
precedence kind.ReturnValue = 18
precedence kind.LoopWord = 19
precedence kind.ArraySize = 20
precedence kind.IncompleteType = 21
precedence kind.PrototypeDiffers = 22
precedence kind.Undefined = 23
precedence kind.FormatMismatch = 24
precedence kind.Datatype = 25

abbrev pub precedes : Breach → Breach → Bool
precedes f g = nat_lt f.at g.at || ((f.at == g.at) && nat_lt (precedence f.kind) (precedence g.kind))

abbrev pub sooner : Option Breach → Breach → Option Breach
sooner None g = Some g
sooner (Some f) g = Some (if precedes g f then g else f)

-- of the broken rules the one at the lowest offset, and there the first of the table
abbrev pub first : List Breach → Option Breach
first breaches = fold sooner None breaches

-- it is one of them, and none precedes it
abbrev pub Among : List Breach → Breach → Type 0
Among [] f = ⊥
Among (g ∷ gs) f = (f ≡ g) ⊎ Among gs f

abbrev pub NonePrecedes : List Breach → Breach → Type 0
NonePrecedes [] f = Unit {0}
NonePrecedes (g ∷ gs) f = (precedes g f ≡ false) × NonePrecedes gs f

abbrev pub IsLeast : List Breach → Breach → Type 0
IsLeast breaches f = Among breaches f × NonePrecedes breaches f

-- a tree that breaks no rule, with its typed program
abbrev pub Accepts : Tree → Program → Type 0
Accepts tree program = ((judged_tree tree).breaches ≡ []) × (option_map (program_of tree) (judged_tree tree).found ≡ Some program)

-- a tree that breaks one
abbrev pub Refuses : Tree → Breach → Type 0
Refuses tree breach = IsLeast (judged_tree tree).breaches breach
