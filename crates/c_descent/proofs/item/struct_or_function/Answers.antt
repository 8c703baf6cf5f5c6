use Rattle.std.proofs.Common.{◌≡◌, ◌∷◌, [], true, false, sym}
use Rattle.c_tree.specs.declared.token.Class.TheVariants as class
use Rattle.c_grammar.specs.Meaning.{next_in}
use Rattle.c_grammar.proofs.Steps.{r_seq, r_same, r_left, r_right}
use Rattle.c_descent.proofs.item.struct_or_function.Goals as goal

pub returns-then-next_is-clause-reads : goal.returns-then-next_is-clause-reads
returns-then-next_is-clause-reads c =
    let q : next_in (class.LeftBrace ∷ []) c.in_ok-name.rest.now ≡ true = cc in
    r_seq c.in_ok-at.ensures.reads (r_seq c.in_ok-name.ensures.reads (r_left q c.in_ok-members.ensures.reads))

pub returns-clause-reads : goal.returns-clause-reads
returns-clause-reads c =
    let q : next_in (class.LeftBrace ∷ []) c.in_ok-name.rest.now ≡ false = cc in
    r_same (r_seq c.in_ok-at.ensures.reads (r_seq c.in_ok-name.ensures.reads (r_right q c.in_ok-item.ensures.reads))) (sym c.in_ok-item.ensures.row)
