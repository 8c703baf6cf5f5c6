use Rattle.std.proofs.Common.{◌≡◌, ◌∷◌, [], true, false, sym, ap}
use Rattle.c_tree.specs.declared.token.Class.TheVariants as class
use Rattle.c_grammar.specs.Grammar as grammar
use Rattle.c_grammar.specs.Meaning.{Forest, node, none, next_in, ◌+++◌}
use Rattle.c_grammar.specs.Trees.{star_row, name_row, parameters_tree, block_tree, statement_row}
use Rattle.c_grammar.proofs.Steps.{r_ref, r_seq, r_same, r_left, r_right, r_deeper, forest_assoc}
use Rattle.c_descent.proofs.item.function.Goals as goal

pub returns-then-next_is-clause-reads : goal.returns-then-next_is-clause-reads
returns-then-next_is-clause-reads c =
    let q : next_in (class.Semicolon ∷ []) c.in_ok-parameters.rest.now ≡ true = cc in
    r_ref (r_seq c.in_ok-stars.ensures.reads (r_seq c.in_ok-name.ensures.reads (r_seq c.in_ok-parameters.ensures.reads (r_left q c.in_ok-rest.ensures.reads))))

pub returns-clause-reads : goal.returns-clause-reads
returns-clause-reads c =
    let q : next_in (class.Semicolon ∷ []) c.in_ok-parameters.rest.now ≡ false = cc in
    r_same (r_ref (r_seq c.in_ok-stars.ensures.reads (r_seq c.in_ok-name.ensures.reads (r_seq c.in_ok-parameters.ensures.reads (r_right q (r_deeper c.in_ok-body.ensures.reads))))))
    (ap (λ (f : Forest). node grammar.Function f none) (sym (forest_assoc (star_row c.in_ok-stars.stars) (name_row c.in_ok-name.name +++ parameters_tree c.in_ok-parameters.parameters) (block_tree statement_row c.in_ok-body.body))))
