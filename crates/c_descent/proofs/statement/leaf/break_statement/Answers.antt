use Rattle.std.proofs.Common.{refl, sym, [], ◌∷◌}
use Rattle.std.proofs.lemmas.Result.{err_from_is_err_and}
use Rattle.c_tree.specs.declared.token.Class.TheVariants.{Break, Continue}
use Rattle.c_grammar.proofs.Views.{row_break}
use Rattle.c_descent.proofs.StatementChoices.{at_break, only, word_of}
use Rattle.c_grammar.proofs.Steps.{stops_from, r_end, r_same, r_ref, f_ref, f_first, f_second}
use Rattle.c_descent.proofs.statement.leaf.break_statement.Goals as goal

pub returns-in_err-at-clause-reads : goal.returns-in_err-at-clause-reads
returns-in_err-at-clause-reads c q =
    let w = err_from_is_err_and c.from_residual.result c.from_residual.ensures.1 in
    rw (w.1, w.2) (stops_from _ (λ k z h. f_ref (at_break q (f_first (word_of (only Break) (Break ∷ Continue ∷ []) refl q h)))) c.in_err-at.ensures.reads)

pub returns-in_err-rest-clause-reads : goal.returns-in_err-rest-clause-reads
returns-in_err-rest-clause-reads c q =
    let w = err_from_is_err_and c.from_residual-in_err-rest.result c.from_residual-in_err-rest.ensures.1 in
    rw (w.1, w.2) (stops_from _ (λ k z h. f_ref (at_break q (f_second (word_of (only Break) (Break ∷ Continue ∷ []) refl q c.in_ok-at.ensures.reads) h))) c.in_err-rest.ensures.reads)

pub returns-clause-reads : goal.returns-clause-reads
returns-clause-reads c q =
    r_same (r_ref (at_break q (r_end (word_of (only Break) (Break ∷ Continue ∷ []) refl q c.in_ok-at.ensures.reads) c.in_ok-rest.ensures.reads))) (sym (row_break c.in_ok-at.at))
