use Rattle.std.proofs.Common.{◌≡◌, ◌+◌, ◌*◌, ◌++◌, max, drop}
use Rattle.c_tree.proofs.tree.Expr.TheLaws.{the_size}
use Rattle.c_tree.specs.declared.tree.Expr.TheShapes as shapes
use Rattle.c_rules.specs.Judged.{together}
use Rattle.c_check.specs.Expression.{chain, judged_suffixes, judged_links, judged_all}
use Rattle.c_check.specs.Told.{among}
use Rattle.c_check.proofs.Steps.{Goes}
use Rattle.c_check.proofs.judge.Judge.+walk.Given as goal

-- an expression's depth, and how near a function is to the expression that it goes down to

abbrev pub decreases-expression : goal.decreases-expression
decreases-expression l = 8 * goal.size-expression l

abbrev pub decreases-no_part : goal.decreases-no_part
decreases-no_part l = 8 * goal.size-no_part l + 1

abbrev pub decreases-whole_cast : goal.decreases-whole_cast
decreases-whole_cast l = 8 * goal.size-whole_cast l + 1

abbrev pub decreases-primary : goal.decreases-primary
decreases-primary l = 8 * goal.size-primary l + 3

abbrev pub decreases-suffix : goal.decreases-suffix
decreases-suffix l = 8 * goal.size-suffix l + 1

abbrev pub decreases-suffixed : goal.decreases-suffixed
decreases-suffixed l = 8 * goal.size-suffixed l + 2

abbrev pub decreases-chain : goal.decreases-chain
decreases-chain l = 8 * goal.size-chain l + 1

abbrev pub decreases-whole_chain : goal.decreases-whole_chain
decreases-whole_chain l = 8 * max (goal.size-whole_chain l) (shapes.weighed-Expr-Chain-1.weight _ the_size l.rest.now) + 2

abbrev pub decreases-expressions : goal.decreases-expressions
decreases-expressions l = 8 * goal.size-expressions l + 1

abbrev pub decreases-misplaced : goal.decreases-misplaced
decreases-misplaced l = 8 * goal.size-misplaced l + 2

abbrev pub invariant-suffixed-loop-x : goal.invariant-suffixed-loop-x
invariant-suffixed-loop-x l =
    let rest = among l.names judged_suffixes l.found (drop l.x-index l.suffixes) in
    let whole = among l.names judged_suffixes l.fn.a l.suffixes in
    record {
      found : rest.found ≡ whole.found;
      breaches : l.self.breaches.items ++ rest.breaches ≡ l.fn.self.breaches.items ++ whole.breaches;
    }

abbrev pub invariant-chain-loop-x : goal.invariant-chain-loop-x
invariant-chain-loop-x l =
    let rest = chain l.names.known.structs.now l.run (among l.names judged_links (drop l.x-index l.links)) in
    let whole = chain l.names.known.structs.now l.fn.first (among l.names judged_links l.links) in
    record {
      found : rest.found ≡ whole.found;
      breaches : l.self.breaches.items ++ rest.breaches ≡ l.fn.self.breaches.items ++ whole.breaches;
    }

abbrev pub invariant-expressions-loop-e : goal.invariant-expressions-loop-e
invariant-expressions-loop-e l =
    Goes l.fn.self l.self l.found
    (together (among l.names judged_all (drop l.e-index l.es)))
    (together (among l.names judged_all l.es))
