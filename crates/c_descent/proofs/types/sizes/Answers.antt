use Rattle.std.proofs.Common.{◌≡◌, ◌∷◌, [], true, false, arith}
use Rattle.c_tree.specs.declared.token.Class.TheVariants as class
use Rattle.c_grammar.specs.Grammar.{size}
use Rattle.c_grammar.specs.Meaning.{next_in}
use Rattle.c_grammar.specs.Trees.{number_row}
use Rattle.c_grammar.proofs.Steps.{stop_passed_on, stops_from, past_fault, past_stop, r_same}
use Rattle.c_descent.proofs.ItemRows.{grown_start, grown_step, all_of_them}
use Rattle.c_descent.proofs.types.sizes.Goals as goal

pub returns-in_err-next-clause-reads : goal.returns-in_err-next-clause-reads
returns-in_err-next-clause-reads c =
    let q : next_in (class.LeftBracket ∷ []) c.sizes.rest.now ≡ true = cc in
    stop_passed_on _ _ _ _ _ _ _ c.from_residual.ensures.1 (stops_from _ (λ k z h. past_fault c.sizes.invariant.grown.past q h) c.in_err-next.ensures.reads)

pub sizes-init : goal.sizes-init
sizes-init c = record { grown = grown_start number_row c.args.level size c.args.tokens.now _; shorter = omega arith }

pub sizes-preserved : goal.sizes-preserved
sizes-preserved c =
    let q : next_in (class.LeftBracket ∷ []) c.sizes.rest.now ≡ true = cc in
    record {
      grown = grown_step c.in_ok-next.next c.sizes.invariant.grown q c.in_ok-next.ensures.reads c.in_ok-push.ensures.ok;
      shorter = omega (arith, c.sizes.invariant.shorter, c.in_ok-next.ensures.shorter);
    }

pub returns-clause-reads : goal.returns-clause-reads
returns-clause-reads c =
    let q : next_in (class.LeftBracket ∷ []) c.sizes.rest.now ≡ false = cc in
    r_same (past_stop c.sizes.invariant.grown.past q) (all_of_them c.new-sizes.ensures c.sizes.invariant.grown)
