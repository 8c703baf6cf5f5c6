-- What an expression is found to be, where names are in scope.
use Rattle.std.specs.Prelude.{ℕ, Bool, List, [], ◌∷◌, ◌++◌, map, Option, Some, None, option_map}
use Rattle.std.specs.Str.{bytes_eq}
use Rattle.c_tree.specs.declared.tree.Expr.{Expr}
use Rattle.c_tree.specs.declared.tree.Expr.TheFolds.{fold-Expr}
use Rattle.c_tree.specs.declared.tree.Expr.TheOpen.{Expr-F}
use Rattle.c_tree.specs.declared.tree.Expr.TheOpen as expr
use Rattle.c_tree.specs.declared.tree.Link.{Link}
use Rattle.c_tree.specs.declared.tree.Primary.{Primary}
use Rattle.c_tree.specs.declared.tree.Primary.TheVariants as primary
use Rattle.c_tree.specs.declared.tree.Suffix.{Suffix}
use Rattle.c_tree.specs.declared.tree.Suffix.TheVariants as suffix
use Rattle.c_tree.specs.declared.tree.Name.{Name}
use Rattle.c_tree.specs.declared.tree.MemberName.{MemberName}
use Rattle.c_tree.specs.declared.tree.Access.{Access}
use Rattle.c_tree.specs.declared.tree.TypeName.{TypeName}
use Rattle.c_tree.specs.declared.token.Operator.{Operator}
use Rattle.c_tree.specs.declared.kind.Kind.TheVariants.{UnknownName, MallocPlace}
use Rattle.c_kernel.specs.declared.types.CType.{CType}
use Rattle.c_kernel.specs.declared.types.Struct.{Struct}
use Rattle.c_rules.specs.declared.found.Found.{Found}
use Rattle.c_rules.specs.declared.found.Run.{Run}
use Rattle.c_rules.specs.declared.found.Right.{Right}
use Rattle.c_rules.specs.declared.found.Right.TheVariants as right_side
use Rattle.c_rules.specs.declared.found.Invocation.{Invocation}
use Rattle.c_rules.specs.declared.found.Allocation.{Allocation}
use Rattle.c_rules.specs.declared.found.Cast.{Cast}
use Rattle.c_rules.specs.declared.scope.Entity.{Entity}
use Rattle.c_rules.specs.declared.signature.Signature.{Signature}
use Rattle.c_rules.specs.Judged.{Judged, by, refused, after, given, both, of_part, of_parts, as_part, perhaps, together}
use Rattle.c_rules.specs.Scope.{Bytes, Scope, visible}
use Rattle.c_rules.specs.Types.{specifier_rules, type_of}
use Rattle.c_rules.specs.Rules as rules

-- ---- the parts of nodes

-- the type that a cast or sizeof names
abbrev pub named_type : List Struct → TypeName → Judged CType
named_type structs t = by (specifier_rules structs None t.specifier) (type_of structs None t.specifier t.stars)

module _ (structs : List Struct) where
  abbrev pub next : Operator → Option Run → Option Found → Judged Run
  next o a b = given (both a b) (λ p. rules.link structs o p.0 p.1)

  -- a chain goes on from the left
  abbrev pub chain : Option Run → List (Link (Judged Found)) → Judged Run
  chain a [] = record { breaches = []; found = a }
  chain a (l ∷ ls) =
      let here = next l.operator a l.operand.found in
      after (l.operand.breaches ++ here.breaches) (chain here.found ls)

-- and ends
abbrev pub ended : Option Run → Option Found
ended a = option_map (λ run. rules.plain run.at run.c_type (rules.closed run)) a

module _ (structs : List Struct) where
  abbrev pub whole_chain : Judged Found → List (Link (Judged Found)) → Judged Found
  whole_chain a ls =
      let run = chain structs (option_map rules.begin a.found) ls in
      record { breaches = a.breaches ++ run.breaches; found = ended run.found }

  abbrev pub whole_prefix : ℕ → Operator → Judged Found → Judged Found
  whole_prefix at o a = after a.breaches (rules.prefix structs at o a.found)

  abbrev pub whole_index : Judged Found → Judged Found → Judged Found
  whole_index a i = of_parts a i (rules.index structs)

  abbrev pub whole_member : Judged Found → Access → MemberName → Judged Found
  whole_member a how n = of_part a (λ x. rules.member structs how x n)

abbrev pub choice_of : Option Found → Option Found → Option Found → Judged Found
choice_of c a b = given (both c (both a b)) (λ p. rules.choice p.0 p.1.0 p.1.1)

abbrev pub whole_choice : Judged Found → Judged Found → Judged Found → Judged Found
whole_choice c a b = after (c.breaches ++ a.breaches ++ b.breaches) (choice_of c.found a.found b.found)

abbrev pub whole_cast : ℕ → Judged CType → Judged Found → Judged Found
whole_cast at t a = of_parts t a (rules.cast at)

-- ---- calls, and malloc

-- a call and what its arguments are found to be; its first byte may be a parenthesis
pub record Called : Type 0 where
  pub at : ℕ
  pub name : Name
  pub arguments : List (Judged Found)

abbrev pub in_group : ℕ → Called → Called
in_group at c = record c { at = at }

-- a malloc and how many bytes it asks for, perhaps with a cast and parentheses around; `at` is the first byte of all
pub record Allocated : Type 0 where
  pub at : ℕ
  pub malloc : ℕ
  pub cast : Option (ℕ × Judged CType)
  pub bytes : Judged Found

abbrev pub grouped : ℕ → Allocated → Allocated
grouped at m = record m { at = at }

-- one cast alone may stand before it
abbrev pub with_cast : ℕ → Judged CType → Allocated → Option Allocated
with_cast at t m = elim m.cast [
  | None ↦ Some (record { at = at; malloc = m.malloc; cast = Some (at, t); bytes = m.bytes })
  | Some other ↦ None
]

abbrev pub cast_before : Option Allocated → ℕ → Judged CType → Option Allocated
cast_before None at t = None
cast_before (Some m) at t = with_cast at t m

abbrev pub cast_of : ℕ × Judged CType → Judged Cast
cast_of c = as_part (λ c_type. record { at = c.0; c_type = c_type }) c.1

-- its parts: the cast and the bytes
abbrev pub allocation : Allocated → Judged Allocation
allocation m = of_parts (perhaps cast_of m.cast) m.bytes (λ cast bytes. by [] (record { at = m.malloc; cast = cast; bytes = bytes }))

-- an expression as a part of another, and as a call or a malloc where it is one
pub record Seen : Type 0 where
  pub part : Judged Found
  pub called : Option Called
  pub allocated : Option Allocated

abbrev pub parts : List Seen → List (Judged Found)
parts xs = map (λ x. x.part) xs

abbrev pub part_link : Link Seen → Link (Judged Found)
part_link l = record { operator = l.operator; operand = l.operand.part }

module _ (functions : Bytes → Option Signature) (s : Scope) where
  -- the function of a name that no variable hides
  abbrev pub function_of : Name → Option Entity → Judged Signature
  function_of n (Some x) = refused UnknownName n.at
  function_of n None = elim (functions n.bytes) [
    | Some f ↦ by [] f
    | None ↦ refused UnknownName n.at
  ]

  abbrev pub callee : Name → Judged Signature
  callee n = function_of n (visible s n.bytes)

abbrev pub is_main : Name → Bool
is_main n = bytes_eq n.bytes rules.main_name

module _ (functions : Bytes → Option Signature) (structs : List Struct) (s : Scope) where
  abbrev pub invoked : Called → Judged Invocation
  invoked c = of_parts (callee functions s c.name) (together c.arguments) (rules.call (is_main c.name) c.at c.name.at)

  -- a call stands as a statement or the whole right side of =, and so is no part
  abbrev pub misplaced : Called → Judged Found
  misplaced c = of_parts (callee functions s c.name) (together c.arguments) (rules.misplaced (is_main c.name) c.name.at)

  -- a malloc stands as the whole right side of =, and so is no part
  abbrev pub no_part : ℕ → Judged Found → Judged Found
  no_part at bytes = of_part bytes (λ x. refused MallocPlace at)

  -- ---- the nodes

  abbrev pub primary_of : Primary Seen → Judged Found
  primary_of (primary.Number n) = rules.number n
  primary_of (primary.Character at v) = rules.character at v
  primary_of (primary.Constant at c) = rules.constant_word at c
  primary_of (primary.Name n) = rules.name n.at (visible s n.bytes)
  primary_of (primary.Call n arguments) = misplaced (record { at = n.at; name = n; arguments = parts arguments })
  primary_of (primary.Malloc at a) = no_part at a.part
  primary_of (primary.Group at a) = of_part a.part (rules.group at)

  -- what is selected from an operand, from the left
  abbrev pub suffix_of : Judged Found → Suffix Seen → Judged Found
  suffix_of a (suffix.Index at i) = whole_index structs a i.part
  suffix_of a (suffix.Member at how n) = whole_member structs a how n

  abbrev pub suffixed : Judged Found → List (Suffix Seen) → Judged Found
  suffixed a [] = a
  suffixed a (x ∷ xs) = suffixed (suffix_of a x) xs

  abbrev pub part_of : Expr-F Seen → Judged Found
  part_of (expr.Postfix p suffixes) = suffixed (primary_of p) suffixes
  part_of (expr.SizeOf at t) = of_part (named_type structs t) (rules.size_of structs at)
  part_of (expr.Cast at t a) = whole_cast at (named_type structs t) a.part
  part_of (expr.Prefix at o a) = whole_prefix structs at o a.part
  part_of (expr.Chain first rest) = whole_chain structs first.part (map part_link rest)
  part_of (expr.Choice c a b) = whole_choice c.part a.part b.part

  -- parentheses are no part of a call
  abbrev pub call_alone : Primary Seen → Option Called
  call_alone (primary.Call n arguments) = Some (record { at = n.at; name = n; arguments = parts arguments })
  call_alone (primary.Group at a) = option_map (in_group at) a.called
  call_alone _ = None

  abbrev pub call_in : Expr-F Seen → Option Called
  call_in (expr.Postfix p []) = call_alone p
  call_in _ = None

  -- nor of a malloc, nor is its cast
  abbrev pub malloc_alone : Primary Seen → Option Allocated
  malloc_alone (primary.Malloc at a) = Some (record { at = at; malloc = at; cast = None; bytes = a.part })
  malloc_alone (primary.Group at a) = option_map (grouped at) a.allocated
  malloc_alone _ = None

  abbrev pub malloc_in : Expr-F Seen → Option Allocated
  malloc_in (expr.Postfix p []) = malloc_alone p
  malloc_in (expr.Cast at t a) = cast_before a.allocated at (named_type structs t)
  malloc_in _ = None

  abbrev pub node : Expr-F Seen → Seen
  node x = record { part = part_of x; called = call_in x; allocated = malloc_in x }

  abbrev pub seen : Expr → Seen
  seen = fold-Expr Seen node

  -- an expression that is a part of another or of a statement
  abbrev pub judged : Expr → Judged Found
  judged e = (seen e).part

  -- a primary expression, and what is selected from an operand that is found to be this
  abbrev pub seen_primary : Primary Expr → Primary Seen
  seen_primary (primary.Number n) = primary.Number n
  seen_primary (primary.Character at v) = primary.Character at v
  seen_primary (primary.Constant at c) = primary.Constant at c
  seen_primary (primary.Name n) = primary.Name n
  seen_primary (primary.Call n arguments) = primary.Call n (map seen arguments)
  seen_primary (primary.Malloc at e) = primary.Malloc at (seen e)
  seen_primary (primary.Group at e) = primary.Group at (seen e)

  abbrev pub judged_primary : Primary Expr → Judged Found
  judged_primary p = primary_of (seen_primary p)

  abbrev pub seen_suffix : Suffix Expr → Suffix Seen
  seen_suffix (suffix.Index at e) = suffix.Index at (seen e)
  seen_suffix (suffix.Member at how n) = suffix.Member at how n

  abbrev pub judged_suffix : Option Found → Suffix Expr → Judged Found
  judged_suffix a x = suffix_of (record { breaches = []; found = a }) (seen_suffix x)

  abbrev pub judged_suffixes : Option Found → List (Suffix Expr) → Judged Found
  judged_suffixes a xs = suffixed (record { breaches = []; found = a }) (map seen_suffix xs)

  -- several, a chain's operands, a call and a malloc
  abbrev pub judged_all : List Expr → List (Judged Found)
  judged_all es = parts (map seen es)

  abbrev pub seen_link : Link Expr → Link Seen
  seen_link l = record { operator = l.operator; operand = seen l.operand }

  abbrev pub judged_links : List (Link Expr) → List (Link (Judged Found))
  judged_links ls = map part_link (map seen_link ls)

  abbrev pub call_of : ℕ → Name → List Expr → Called
  call_of at n es = record { at = at; name = n; arguments = judged_all es }

  abbrev pub malloc_of : ℕ → ℕ → Option (ℕ × TypeName) → Expr → Allocated
  malloc_of at malloc cast e = record { at = at; malloc = malloc; cast = option_map (λ c. (c.0, named_type structs c.1)) cast; bytes = judged e }

  -- the whole right side of =
  abbrev pub right_of : Seen → Judged Right
  right_of x = elim x.allocated [
    | Some m ↦ as_part right_side.Memory (allocation m)
    | None ↦ elim x.called [
      | None ↦ as_part right_side.Value x.part
      | Some c ↦ as_part right_side.Result (invoked c)
    ]
  ]

  abbrev pub right : Expr → Judged Right
  right e = right_of (seen e)
