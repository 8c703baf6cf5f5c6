use Rattle.std.proofs.Common.{◌≡◌, ◌++◌, drop}
use Rattle.c_rules.specs.Roles.{roles_values}
use Rattle.c_rules.proofs.rules.roles.roles_values.Given as goal

abbrev pub invariant-loop-role : goal.invariant-loop-role
invariant-loop-role l = l.values ++ roles_values (drop l.role-index l.roles) l.rest ≡ roles_values l.roles l.fn.found
