-- The rules at a call of MPI (MPI 3.1 3.2, 8.7), and what it is found to be.
use Rattle.std.specs.Prelude.{ℕ, Bool, true, false, not, nat_eq, List, [], ◌∷◌, ◌++◌, Option, Some, None}
use Rattle.c_tree.specs.declared.token.Datatype.{Datatype as Word}
use Rattle.c_tree.specs.declared.token.Datatype.TheVariants as word
use Rattle.c_tree.specs.declared.tree.Expr.{Expr}
use Rattle.c_tree.specs.declared.tree.Name.{Name}
use Rattle.c_tree.specs.declared.tree.MpiCall.{MpiCall}
use Rattle.c_tree.specs.declared.tree.MpiCall.TheVariants as mpi
use Rattle.c_tree.specs.declared.tree.Status.{Status}
use Rattle.c_tree.specs.declared.tree.Status.TheVariants as status
use Rattle.c_tree.specs.declared.kind.Kind.TheVariants.{BadMain, Datatype}
use Rattle.mpi_words.specs.declared.message.Datatype.{Datatype as Kind}
use Rattle.mpi_words.specs.declared.message.Datatype.TheVariants.{Char, Int, Long}
use Rattle.c_kernel.specs.declared.program.MpiFunction.{MpiFunction}
use Rattle.c_kernel.specs.declared.program.MpiFunction.TheVariants as function
use Rattle.c_kernel.specs.declared.program.Stmt.{Stmt as Typed}
use Rattle.c_kernel.specs.declared.program.Stmt.TheVariants as typed
use Rattle.c_rules.specs.declared.breach.Breach.{Breach}
use Rattle.c_rules.specs.declared.found.Found.{Found}
use Rattle.c_rules.specs.declared.scope.Entity.{Entity}
use Rattle.c_rules.specs.declared.scope.Entity.TheVariants.{Variable, Parameter}
use Rattle.c_rules.specs.Judged.{Judged, breaks, by, unless_broken}
use Rattle.c_rules.specs.Scope.{Bytes, Scope, visible}
use Rattle.c_rules.specs.Roles.{roles_of, roles_rules, roles_values}

-- a datatype (3.2.2)
abbrev pub kind_of : Word → Kind
kind_of word.Chars = Char
kind_of word.Ints = Int
kind_of word.Longs = Long

-- the function; the collective calls aren't built yet
abbrev pub function_of : MpiCall → Option MpiFunction
function_of (mpi.Init at names) = Some function.Init
function_of (mpi.Finalize at) = Some function.Finalize
function_of (mpi.CommRank at p) = Some function.CommRank
function_of (mpi.CommSize at p) = Some function.CommSize
function_of (mpi.Send at b to tag) = Some (function.Send (kind_of b.datatype.datatype))
function_of (mpi.Recv at b from tag st) = Some (function.Recv (kind_of b.datatype.datatype))
function_of (mpi.GetCount at st kind p) = Some (function.GetCount (kind_of kind.datatype))
function_of _ = None

-- the arguments that have values, in the text's order
abbrev pub given_status : Status → List Expr
given_status (status.Ignore at) = []
given_status (status.Given e) = e ∷ []

abbrev pub arguments_of : MpiCall → List Expr
arguments_of (mpi.CommRank at p) = p ∷ []
arguments_of (mpi.CommSize at p) = p ∷ []
arguments_of (mpi.Send at b to tag) = b.start ∷ b.count ∷ to ∷ tag ∷ []
arguments_of (mpi.Recv at b from tag st) = b.start ∷ b.count ∷ from ∷ tag ∷ given_status st
arguments_of (mpi.GetCount at st kind p) = given_status st ++ p ∷ []
arguments_of _ = []

-- the names whose addresses MPI_Init gets
abbrev pub given_names : Option (Name × Name) → List Bytes
given_names None = []
given_names (Some names) = names.0.bytes ∷ names.1.bytes ∷ []

abbrev pub names_of : MpiCall → List Bytes
names_of (mpi.Init at names) = given_names names
names_of _ = []

-- ---- the rules of words and names: MPI_Init's are main's two parameters in order, and MPI_Get_count has a status

abbrev pub is_parameter : ℕ → Option Entity → Bool
is_parameter k None = false
is_parameter k (Some (Variable v)) = false
is_parameter k (Some (Parameter n)) = nat_eq n k

abbrev pub name_rules : Scope → ℕ → Name → List Breach
name_rules s k name = breaks (not (is_parameter k (visible s name.bytes))) BadMain name.at

abbrev pub init_rules : Scope → Option (Name × Name) → List Breach
init_rules s None = []
init_rules s (Some names) = name_rules s 0 names.0 ++ name_rules s 1 names.1

abbrev pub status_rules : Status → List Breach
status_rules (status.Ignore at) = breaks true Datatype at
status_rules (status.Given e) = []

abbrev pub word_rules : Scope → MpiCall → List Breach
word_rules s (mpi.Init at names) = init_rules s names
word_rules s (mpi.GetCount at st kind p) = status_rules st
word_rules s _ = []

-- ---- the call, by what its arguments are found to be

abbrev pub call_rules : List Breach → MpiFunction → List Found → List Breach
call_rules words f vs = words ++ unless_broken words (roles_rules (roles_of f) vs)

unfoldable pub called : List Breach → List Bytes → MpiFunction → List Found → Judged Typed
called words names f vs = by (call_rules words f vs) (typed.Mpi (record { function = f; names = names; arguments = roles_values (roles_of f) vs }))
