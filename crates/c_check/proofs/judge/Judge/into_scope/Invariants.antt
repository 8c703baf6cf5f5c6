use Rattle.std.proofs.Common.{◌≡◌, ◌++◌, drop}
use Rattle.c_rules.specs.Scope.{scope_of, start}
use Rattle.c_check.specs.Functions.{parameters_rules, with_parameters}
use Rattle.c_check.proofs.judge.Judge.into_scope.Given as goal

abbrev pub invariant-loop-p : goal.invariant-loop-p
invariant-loop-p l =
    let rest = drop l.p-index l.parameters in
    record {
      scope : with_parameters l.structs l.main (scope_of l.scope) rest ≡ with_parameters l.structs l.main start l.parameters;
      breaches : l.self.breaches.items ++ parameters_rules l.structs l.main l.defined (scope_of l.scope) rest ≡ l.fn.self.breaches.items ++ parameters_rules l.structs l.main l.defined start l.parameters;
    }
