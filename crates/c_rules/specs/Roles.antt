-- The arguments of MPI's calls (MPI 3.1 3.2): the rules of each, and its value.
use Rattle.std.specs.Prelude.{not, List, [], ◌∷◌, ◌++◌}
use Rattle.c_tree.specs.declared.kind.Kind.TheVariants.{NotPointer, Datatype}
use Rattle.c_kernel.specs.declared.types.CType.{CType}
use Rattle.c_kernel.specs.declared.types.IntegerType.TheVariants.{Int}
use Rattle.c_kernel.specs.declared.program.Expr.{Expr}
use Rattle.c_kernel.specs.declared.program.MpiFunction.{MpiFunction}
use Rattle.c_kernel.specs.declared.program.MpiFunction.TheVariants as function
use Rattle.c_kernel.specs.Elements.{element_type}
use Rattle.c_rules.specs.declared.breach.Breach.{Breach}
use Rattle.c_rules.specs.declared.found.Found.{Found}
use Rattle.c_rules.specs.declared.rules.roles.Role.{Role}
use Rattle.c_rules.specs.declared.rules.roles.Role.TheVariants as role
use Rattle.c_rules.specs.Judged.{breaks}
use Rattle.c_rules.specs.Types.{is_pointer, pointer_to, integer, status_type}
use Rattle.c_rules.specs.Rules.{c_type_of, value, value_in, scalar_rules, number_rules, are_alike}

-- what the arguments are, those that have values, in the text's order; the status may be left out
abbrev pub roles_of : MpiFunction → List Role
roles_of function.Init = []
roles_of function.Finalize = []
roles_of function.CommRank = role.Pointer (integer Int) ∷ []
roles_of function.CommSize = role.Pointer (integer Int) ∷ []
roles_of (function.Send kind) = role.Buffer (element_type kind) ∷ role.Number ∷ role.Number ∷ role.Number ∷ []
roles_of (function.Recv kind) = role.Buffer (element_type kind) ∷ role.Number ∷ role.Number ∷ role.Number ∷ role.Pointer status_type ∷ []
roles_of (function.GetCount kind) = role.Pointer status_type ∷ role.Pointer (integer Int) ∷ []

-- a pointer to objects of the type, or NULL
abbrev pub points_rules : CType → Found → List Breach
points_rules t a = breaks (not (are_alike (pointer_to t) (c_type_of a))) Datatype a.at

abbrev pub role_rules : Role → Found → List Breach
role_rules role.Number a = number_rules a.at (c_type_of a)
role_rules (role.Buffer kind) a = scalar_rules a.at (c_type_of a) ++ breaks (not (is_pointer (c_type_of a))) NotPointer a.at ++ points_rules (integer kind) a
role_rules (role.Pointer t) a = scalar_rules a.at (c_type_of a) ++ points_rules t a

-- numbers are converted to int
abbrev pub role_value : Role → Found → Expr
role_value role.Number a = value_in Int a
role_value (role.Buffer kind) a = value a
role_value (role.Pointer t) a = value a

abbrev pub roles_rules : List Role → List Found → List Breach
roles_rules (r ∷ rs) (a ∷ vs) = role_rules r a ++ roles_rules rs vs
roles_rules _ _ = []

abbrev pub roles_values : List Role → List Found → List Expr
roles_values (r ∷ rs) (a ∷ vs) = role_value r a ∷ roles_values rs vs
roles_values _ _ = []
