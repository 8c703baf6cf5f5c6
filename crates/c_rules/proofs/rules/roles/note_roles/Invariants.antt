use Rattle.std.proofs.Common.{◌≡◌, ◌++◌, drop}
use Rattle.c_rules.specs.Roles.{roles_rules}
use Rattle.c_rules.proofs.rules.roles.note_roles.Given as goal

abbrev pub invariant-loop-role : goal.invariant-loop-role
invariant-loop-role l = l.breaches.items ++ roles_rules (drop l.role-index l.roles) l.rest ≡ l.fn.breaches.items ++ roles_rules l.roles l.found
