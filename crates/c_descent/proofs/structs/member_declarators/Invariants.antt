use Rattle.std.proofs.Common.{◌≤◌, length}
use Rattle.c_tree.specs.declared.token.Class.TheVariants as class
use Rattle.c_grammar.specs.Grammar as grammar
use Rattle.c_grammar.specs.Grammar.{Ref, ◌⊳◌, word}
use Rattle.c_grammar.specs.Trees.{member_tree}
use Rattle.c_descent.proofs.ItemRows.{Grown}
use Rattle.c_descent.proofs.structs.member_declarators.Given as goal

abbrev pub invariant-more : goal.invariant-more
invariant-more l =
    record {
      grown : Grown member_tree l.level (word class.Comma ⊳ Ref grammar.MemberDeclarator) l.initial.rest l.rest l.initial.declarators l.declarators;
      shorter : length l.rest ≤ length l.initial.rest;
    }

abbrev pub decreases-more : goal.decreases-more
decreases-more l = length l.rest
