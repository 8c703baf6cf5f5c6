use Rattle.std.proofs.Common.{◌≡◌, true, false, [], ◌∷◌}
use Rattle.c_tree.specs.declared.token.Class.TheVariants as class
use Rattle.c_grammar.specs.Grammar.{Mark, MpiCall}
use Rattle.c_grammar.specs.Meaning.{begins, next_in}
use Rattle.c_grammar.proofs.Steps.{stop_passed_on}
use Rattle.c_descent.proofs.StatementChoices.{no_leaf}
use Rattle.c_descent.proofs.statement.leaf.leaf_statement.Goals as goal

pub returns-then-next_is-clause-reads : goal.returns-then-next_is-clause-reads
returns-then-next_is-clause-reads c q =
    let p : next_in (class.Semicolon ∷ []) c.args.tokens.now ≡ true = cc in
    c.in_ok-leaf.ensures.reads p

pub returns-then-next_is-2-clause-reads : goal.returns-then-next_is-2-clause-reads
returns-then-next_is-2-clause-reads c q =
    let p : next_in (class.Break ∷ []) c.args.tokens.now ≡ true = cc in
    c.in_ok-leaf-2.ensures.reads p

pub returns-then-next_is-3-clause-reads : goal.returns-then-next_is-3-clause-reads
returns-then-next_is-3-clause-reads c q =
    let p : next_in (class.Continue ∷ []) c.args.tokens.now ≡ true = cc in
    c.in_ok-leaf-3.ensures.reads p

pub returns-then-next_is-4-clause-reads : goal.returns-then-next_is-4-clause-reads
returns-then-next_is-4-clause-reads c q =
    let p : next_in (class.Return ∷ []) c.args.tokens.now ≡ true = cc in
    c.return_statement.ensures.reads p

pub returns-then-next_is-5-clause-reads : goal.returns-then-next_is-5-clause-reads
returns-then-next_is-5-clause-reads c q =
    let p : next_in (class.Printf ∷ []) c.args.tokens.now ≡ true = cc in
    c.print_statement.ensures.reads p

pub returns-then-next_is-6-clause-reads : goal.returns-then-next_is-6-clause-reads
returns-then-next_is-6-clause-reads c q =
    let p : next_in (class.Free ∷ []) c.args.tokens.now ≡ true = cc in
    c.free_statement.ensures.reads p

pub returns-then-at_mark-clause-reads : goal.returns-then-at_mark-clause-reads
returns-then-at_mark-clause-reads c q =
    let p : next_in (begins Mark) c.args.tokens.now ≡ true = cc in
    c.in_ok-leaf-4.ensures.reads p

pub returns-then-at_mpi_call-clause-reads : goal.returns-then-at_mpi_call-clause-reads
returns-then-at_mpi_call-clause-reads c q =
    let p : next_in (begins MpiCall) c.args.tokens.now ≡ true = cc in
    c.call_statement.ensures.reads p

pub returns-in_err-leaf-clause-reads : goal.returns-in_err-leaf-clause-reads
returns-in_err-leaf-clause-reads c q =
    let p : next_in (class.Semicolon ∷ []) c.args.tokens.now ≡ true = cc in
    stop_passed_on _ _ _ _ _ _ _ c.from_residual.ensures.1 (c.in_err-leaf.ensures.reads p)

pub returns-in_err-leaf-2-clause-reads : goal.returns-in_err-leaf-2-clause-reads
returns-in_err-leaf-2-clause-reads c q =
    let p : next_in (class.Break ∷ []) c.args.tokens.now ≡ true = cc in
    stop_passed_on _ _ _ _ _ _ _ c.from_residual-in_err-leaf-2.ensures.1 (c.in_err-leaf-2.ensures.reads p)

pub returns-in_err-leaf-3-clause-reads : goal.returns-in_err-leaf-3-clause-reads
returns-in_err-leaf-3-clause-reads c q =
    let p : next_in (class.Continue ∷ []) c.args.tokens.now ≡ true = cc in
    stop_passed_on _ _ _ _ _ _ _ c.from_residual-in_err-leaf-3.ensures.1 (c.in_err-leaf-3.ensures.reads p)

pub returns-in_err-leaf-4-clause-reads : goal.returns-in_err-leaf-4-clause-reads
returns-in_err-leaf-4-clause-reads c q =
    let p : next_in (begins Mark) c.args.tokens.now ≡ true = cc in
    stop_passed_on _ _ _ _ _ _ _ c.from_residual-in_err-leaf-4.ensures.1 (c.in_err-leaf-4.ensures.reads p)

pub returns-clause-reads : goal.returns-clause-reads
returns-clause-reads c q =
    let p0 : next_in (class.Semicolon ∷ []) c.args.tokens.now ≡ false = cc in
    let p1 : next_in (class.Break ∷ []) c.args.tokens.now ≡ false = cc in
    let p2 : next_in (class.Continue ∷ []) c.args.tokens.now ≡ false = cc in
    let p3 : next_in (class.Return ∷ []) c.args.tokens.now ≡ false = cc in
    let p4 : next_in (class.Printf ∷ []) c.args.tokens.now ≡ false = cc in
    let p5 : next_in (class.Free ∷ []) c.args.tokens.now ≡ false = cc in
    let p6 : next_in (begins Mark) c.args.tokens.now ≡ false = cc in
    let p7 : next_in (begins MpiCall) c.args.tokens.now ≡ false = cc in
    c.remaining_statement.ensures.reads (no_leaf c.args.tokens.now q p0 p1 p2 p3 p4 p5 p6 p7)
