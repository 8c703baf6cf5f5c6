use Rattle.std.proofs.Common.{◌≡◌, ◌∷◌, [], true, false, arith, subst}
use Rattle.c_tree.specs.declared.token.Class.TheVariants as class
use Rattle.c_tree.specs.declared.token.Operator.TheVariants as operator
use Rattle.c_grammar.specs.Grammar.{shown}
use Rattle.c_grammar.specs.Meaning.{Forest, next_in}
use Rattle.c_grammar.proofs.Steps.{stop_found, stops_from, Past, past_fault, past_step, past_stop}
use Rattle.c_descent.proofs.ItemRows.{star_more}
use Rattle.c_descent.proofs.types.stars.Goals as goal

pub returns-in_err-rest-clause-reads : goal.returns-in_err-rest-clause-reads
returns-in_err-rest-clause-reads c =
    let q : next_in (class.Sign operator.Star ∷ []) c.stars.rest.now ≡ true = cc in
    stop_found _ _ _ _ _ _ _ c.from_residual.ensures.1 (stops_from _ (λ k z h. past_fault c.stars.invariant.past q h) c.in_err-rest.ensures.reads)

pub stars-preserved : goal.stars-preserved
stars-preserved c =
    let q : next_in (class.Sign operator.Star ∷ []) c.stars.rest.now ≡ true = cc in
    record {
      past = subst (λ (f : Forest). Past c.args.level (shown (class.Sign operator.Star)) c.args.tokens.now c.in_ok-rest.rest.now f) (star_more c.stars.count) (past_step c.stars.invariant.past q c.in_ok-rest.ensures.reads);
      fits = omega (arith, c.stars.invariant.fits, c.in_ok-rest.ensures.shorter);
    }

pub returns-clause-reads : goal.returns-clause-reads
returns-clause-reads c =
    let q : next_in (class.Sign operator.Star ∷ []) c.stars.rest.now ≡ false = cc in
    past_stop c.stars.invariant.past q
