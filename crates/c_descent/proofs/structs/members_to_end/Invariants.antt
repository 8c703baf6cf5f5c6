use Rattle.std.proofs.Common.{◌≤◌, length}
use Rattle.c_grammar.specs.Grammar as grammar
use Rattle.c_grammar.specs.Grammar.{Ref}
use Rattle.c_grammar.specs.Trees.{members_tree}
use Rattle.c_descent.proofs.ItemRows.{Grown}
use Rattle.c_descent.proofs.structs.members_to_end.Given as goal

abbrev pub invariant-more : goal.invariant-more
invariant-more l =
    record {
      grown : Grown members_tree l.level (Ref grammar.MemberDeclaration) l.initial.rest l.rest l.initial.members l.members;
      shorter : length l.rest ≤ length l.initial.rest;
    }

abbrev pub decreases-more : goal.decreases-more
decreases-more l = length l.rest
