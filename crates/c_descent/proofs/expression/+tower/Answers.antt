use Rattle.std.proofs.Common.{◌≡◌, ◌∷◌, [], ◌-◌, true, false, refl, sym, ap, subst, arith, suc, List}
use Rattle.c_tree.specs.declared.token.Class.TheVariants as class
use Rattle.c_tree.specs.declared.tree.Expr.{Expr}
use Rattle.c_tree.specs.declared.tree.Link.{Link}
use Rattle.c_grammar.specs.Grammar.{operators, literals}
use Rattle.c_grammar.specs.Meaning.{none, node, ◌+++◌, next_in, starts}
use Rattle.c_grammar.specs.Trees.{Shape, shape, primary_row, suffix_tree, whole, word, each, link_row, name_row, expression_tree}
use Rattle.c_grammar.specs.Grammar as grammar
use Rattle.c_grammar.proofs.Steps.{passed_on, stop_passed_on, fails_from, stops_from, r_same, r_ref, f_ref, r_seq, f_first, f_second, r_left, r_right, r_yes, r_no, r_deeper, r_skip, r_end, past_start, past_step, past_stop, past_fault, none_right}
use Rattle.c_descent.proofs.ExpressionSteps.{r_row, whole_alone, r_binary, f_binary_first, f_binary_second, more_after, gives_unary, row_more, first_push, more_more, more_passed_on, gives_operand, row_push, row_one, past_same, more_stop_passed_on}
use Rattle.c_descent.specs.More.{FirstOf}
use Rattle.c_descent.proofs.expression.+tower.Goals as goal

pub expression-returns-then-not-next_is-clause-reads : goal.expression-returns-then-not-next_is-clause-reads
expression-returns-then-not-next_is-clause-reads t c =
    let q : next_in (class.Question ∷ []) c.in_ok-test.rest.now ≡ false = cc in
    r_same (r_ref (r_seq c.in_ok-test.ensures.reads (r_no q))) (whole_alone (shape c.in_ok-test.test) c.in_ok-test.ensures.grade)

pub expression-returns-in_err-test-clause-reads : goal.expression-returns-in_err-test-clause-reads
expression-returns-in_err-test-clause-reads t c =
    passed_on _ _ _ _ _ _ _ c.from_residual.ensures.1 (fails_from _ (λ k z h. f_ref (f_first h)) c.in_err-test.ensures.reads)

pub expression-returns-in_err-then-clause-reads : goal.expression-returns-in_err-then-clause-reads
expression-returns-in_err-then-clause-reads t c =
    let q : next_in (class.Question ∷ []) c.in_ok-test.rest.now ≡ true = cc in
    passed_on _ _ _ _ _ _ _ c.from_residual-in_err-then.ensures.1 (fails_from _ (λ k z h. f_ref (f_second c.in_ok-test.ensures.reads (r_yes q h))) c.in_err-then.ensures.reads)

pub expression-returns-clause-reads : goal.expression-returns-clause-reads
expression-returns-clause-reads t c =
    let q : next_in (class.Question ∷ []) c.in_ok-test.rest.now ≡ true = cc in
    r_same (r_ref (r_seq c.in_ok-test.ensures.reads (r_yes q c.in_ok-then.ensures.reads))) (sym (ap whole c.in_ok-choice.ensures))

pub choice_arms-returns-in_err-otherwise-clause-reads : goal.choice_arms-returns-in_err-otherwise-clause-reads
choice_arms-returns-in_err-otherwise-clause-reads t c =
    passed_on _ _ _ _ _ _ _ c.from_residual-in_err-otherwise.ensures.1 (fails_from _ (λ k z h. f_second c.in_ok-rest.ensures.reads (f_second (r_deeper c.in_ok-then.ensures.reads) (f_second c.in_ok-rest-2.ensures.reads (r_deeper h)))) c.in_err-otherwise.ensures.reads)

pub choice_arms-returns-clause-reads : goal.choice_arms-returns-clause-reads
choice_arms-returns-clause-reads t c =
    r_skip c.in_ok-rest.ensures.reads (r_seq (r_deeper c.in_ok-then.ensures.reads) (r_skip c.in_ok-rest-2.ensures.reads (r_deeper c.in_ok-otherwise.ensures.reads)))

pub choice_arms-returns-in_err-rest-clause-reads : goal.choice_arms-returns-in_err-rest-clause-reads
choice_arms-returns-in_err-rest-clause-reads t c =
    stop_passed_on _ _ _ _ _ _ _ c.from_residual.ensures.1 (stops_from _ (λ k z h. f_first h) c.in_err-rest.ensures.reads)

pub choice_arms-returns-in_err-then-clause-reads : goal.choice_arms-returns-in_err-then-clause-reads
choice_arms-returns-in_err-then-clause-reads t c =
    passed_on _ _ _ _ _ _ _ c.from_residual-in_err-then.ensures.1 (fails_from _ (λ k z h. f_second c.in_ok-rest.ensures.reads (f_first (r_deeper h))) c.in_err-then.ensures.reads)

pub choice_arms-returns-in_err-rest-2-clause-reads : goal.choice_arms-returns-in_err-rest-2-clause-reads
choice_arms-returns-in_err-rest-2-clause-reads t c =
    stop_passed_on _ _ _ _ _ _ _ c.from_residual-in_err-rest-2.ensures.1 (stops_from _ (λ k z h. f_second c.in_ok-rest.ensures.reads (f_second (r_deeper c.in_ok-then.ensures.reads) (f_first h))) c.in_err-rest-2.ensures.reads)

pub binary-returns-in_err-links-clause-reads : goal.binary-returns-in_err-links-clause-reads
binary-returns-in_err-links-clause-reads t c =
    passed_on _ _ _ _ _ _ _ c.from_residual-in_err-links.ensures.1 (fails_from _ (λ k z h. f_binary_second c.args.grade c.requires.grade c.in_ok-first.ensures.reads h) c.in_err-links.ensures.reads)

pub binary-returns-clause-reads : goal.binary-returns-clause-reads
binary-returns-clause-reads t c =
    r_binary c.args.grade c.requires.grade c.in_ok-first.ensures.reads c.in_ok-links.ensures.reads c.in_ok-chain.ensures.tree

pub binary-returns-in_err-first-clause-reads : goal.binary-returns-in_err-first-clause-reads
binary-returns-in_err-first-clause-reads t c =
    passed_on _ _ _ _ _ _ _ c.from_residual.ensures.1 (fails_from _ (λ k z h. f_binary_first c.args.grade c.requires.grade h) c.in_err-first.ensures.reads)

pub operand-returns-then-grade-eq0-clause-reads : goal.operand-returns-then-grade-eq0-clause-reads
operand-returns-then-grade-eq0-clause-reads t c =
    gives_operand _ c.args.grade 0 _ _ c.unary.result c.if-grade-eq0.true c.unary.ensures.reads

pub operand-returns-clause-reads : goal.operand-returns-clause-reads
operand-returns-clause-reads t c =
    gives_operand _ c.args.grade (suc (c.args.grade - 1)) _ _ c.binary.result (omega arith) c.binary.ensures.reads

pub links-returns-in_err-operator-clause-reads : goal.links-returns-in_err-operator-clause-reads
links-returns-in_err-operator-clause-reads t c =
    let q : next_in (operators c.args.grade) c.links.rest.now ≡ true = cc in
    stop_passed_on _ _ _ _ _ _ _ c.from_residual.ensures.1 (stops_from _ (λ k z h. past_fault c.links.invariant.past q (f_first h)) c.in_err-operator.ensures.reads)

pub links-returns-in_err-operand-clause-reads : goal.links-returns-in_err-operand-clause-reads
links-returns-in_err-operand-clause-reads t c =
    let q : next_in (operators c.args.grade) c.links.rest.now ≡ true = cc in
    passed_on _ _ _ _ _ _ _ c.from_residual-in_err-operand.ensures.1 (fails_from _ (λ k z h. past_fault c.links.invariant.past q (f_second c.in_ok-operator.ensures.reads h)) c.in_err-operand.ensures.reads)

pub links-links-preserved : goal.links-links-preserved
links-links-preserved t c =
    let q : next_in (operators c.args.grade) c.links.rest.now ≡ true = cc in
    record {
      past = past_same (past_step c.links.invariant.past q (r_seq c.in_ok-operator.ensures.reads c.in_ok-operand.ensures.reads)) (row_push (link_row shape c.args.grade) _ _ (record { operator = c.in_ok-operator.operator; operand = c.in_ok-operand.operand }) (rw (sym c.into_inner.ensures) c.in_ok-push.ensures.ok));
      grade = subst (λ (xs : List (Link Expr)). FirstOf c.args.grade xs) (sym c.in_ok-push.ensures.ok) (first_push c.args.grade _ _ c.links.invariant.grade c.in_ok-operator.ensures.grade);
      shorter = omega (arith, c.links.invariant.shorter, c.in_ok-operator.ensures.shorter, c.in_ok-operand.ensures.shorter);
    }

pub links-returns-clause-reads : goal.links-returns-clause-reads
links-returns-clause-reads t c =
    let q : next_in (operators c.args.grade) c.links.rest.now ≡ false = cc in
    past_stop c.links.invariant.past q

pub unary-returns-then-at_literal-clause-reads : goal.unary-returns-then-at_literal-clause-reads
unary-returns-then-at_literal-clause-reads t c =
    let q0 : next_in literals c.args.tokens.now ≡ true = cc in
    gives_unary _ c.constant.result (λ w h. r_left q0 h) c.constant.ensures.reads c.constant.ensures.grade

pub unary-returns-then-next_is-clause-reads : goal.unary-returns-then-next_is-clause-reads
unary-returns-then-next_is-clause-reads t c =
    let q0 : next_in literals c.args.tokens.now ≡ false = cc in
    let q1 : next_in (class.Name ∷ []) c.args.tokens.now ≡ true = cc in
    gives_unary _ c.named.result (λ w h. r_right q0 (r_left q1 h)) c.named.ensures.reads c.named.ensures.grade

pub unary-returns-then-next_is-2-clause-reads : goal.unary-returns-then-next_is-2-clause-reads
unary-returns-then-next_is-2-clause-reads t c =
    let q0 : next_in literals c.args.tokens.now ≡ false = cc in
    let q1 : next_in (class.Name ∷ []) c.args.tokens.now ≡ false = cc in
    let q2 : next_in (class.Malloc ∷ []) c.args.tokens.now ≡ true = cc in
    gives_unary _ c.allocation.result (λ w h. r_right q0 (r_right q1 (r_left q2 h))) c.allocation.ensures.reads c.allocation.ensures.grade

pub unary-returns-then-next_is-3-clause-reads : goal.unary-returns-then-next_is-3-clause-reads
unary-returns-then-next_is-3-clause-reads t c =
    let q0 : next_in literals c.args.tokens.now ≡ false = cc in
    let q1 : next_in (class.Name ∷ []) c.args.tokens.now ≡ false = cc in
    let q2 : next_in (class.Malloc ∷ []) c.args.tokens.now ≡ false = cc in
    let q3 : next_in (class.SizeOf ∷ []) c.args.tokens.now ≡ true = cc in
    gives_unary _ c.size_of.result (λ w h. r_right q0 (r_right q1 (r_right q2 (r_left q3 h)))) c.size_of.ensures.reads c.size_of.ensures.grade

pub unary-returns-then-next_is-4-clause-reads : goal.unary-returns-then-next_is-4-clause-reads
unary-returns-then-next_is-4-clause-reads t c =
    let q0 : next_in literals c.args.tokens.now ≡ false = cc in
    let q1 : next_in (class.Name ∷ []) c.args.tokens.now ≡ false = cc in
    let q2 : next_in (class.Malloc ∷ []) c.args.tokens.now ≡ false = cc in
    let q3 : next_in (class.SizeOf ∷ []) c.args.tokens.now ≡ false = cc in
    let q4 : next_in (class.LeftParen ∷ []) c.args.tokens.now ≡ true = cc in
    gives_unary _ c.parenthesis.result (λ w h. r_right q0 (r_right q1 (r_right q2 (r_right q3 (r_left q4 h))))) c.parenthesis.ensures.reads c.parenthesis.ensures.grade

pub unary-returns-clause-reads : goal.unary-returns-clause-reads
unary-returns-clause-reads t c =
    let q0 : next_in literals c.args.tokens.now ≡ false = cc in
    let q1 : next_in (class.Name ∷ []) c.args.tokens.now ≡ false = cc in
    let q2 : next_in (class.Malloc ∷ []) c.args.tokens.now ≡ false = cc in
    let q3 : next_in (class.SizeOf ∷ []) c.args.tokens.now ≡ false = cc in
    let q4 : next_in (class.LeftParen ∷ []) c.args.tokens.now ≡ false = cc in
    gives_unary _ c.prefixed.result (λ w h. r_right q0 (r_right q1 (r_right q2 (r_right q3 (r_right q4 h))))) c.prefixed.ensures.reads c.prefixed.ensures.grade

pub constant-returns-clause-reads : goal.constant-returns-clause-reads
constant-returns-clause-reads t c =
    more_after _ _ _ (primary_row shape c.in_ok-primary.primary) c.postfix.result refl
    (λ g zs h. r_seq c.in_ok-primary.ensures.reads h)
    (λ k zs h. f_second c.in_ok-primary.ensures.reads h)
    c.postfix.ensures.reads

pub constant-returns-in_err-primary-clause-reads : goal.constant-returns-in_err-primary-clause-reads
constant-returns-in_err-primary-clause-reads t c =
    passed_on _ _ _ _ _ _ _ c.from_residual.ensures.1 (fails_from _ (λ k z h. f_first h) c.in_err-primary.ensures.reads)

pub named-returns-then-not-next_is-clause-reads : goal.named-returns-then-not-next_is-clause-reads
named-returns-then-not-next_is-clause-reads t c =
    let q : next_in (class.LeftParen ∷ []) c.in_ok-name.rest.now ≡ false = cc in
    more_after _ _ _ (name_row c.in_ok-name.name) c.postfix.result c.in_ok-primary.ensures
    (λ g zs h. r_seq c.in_ok-name.ensures.reads (r_seq (r_no q) h))
    (λ k zs h. f_second c.in_ok-name.ensures.reads (f_second (r_no q) h))
    c.postfix.ensures.reads

pub named-returns-clause-reads : goal.named-returns-clause-reads
named-returns-clause-reads t c =
    let q : next_in (class.LeftParen ∷ []) c.in_ok-name.rest.now ≡ true = cc in
    more_after _ _ _ (name_row c.in_ok-name.name +++ node grammar.Arguments (each expression_tree c.in_ok-arguments.arguments) none) c.postfix-2.result c.in_ok-primary-2.ensures
    (λ g zs h. r_seq c.in_ok-name.ensures.reads (r_seq (r_yes q c.in_ok-arguments.ensures.reads) h))
    (λ k zs h. f_second c.in_ok-name.ensures.reads (f_second (r_yes q c.in_ok-arguments.ensures.reads) h))
    c.postfix-2.ensures.reads

pub named-returns-in_err-name-clause-reads : goal.named-returns-in_err-name-clause-reads
named-returns-in_err-name-clause-reads t c =
    passed_on _ _ _ _ _ _ _ c.from_residual.ensures.1 (fails_from _ (λ k z h. f_first h) c.in_err-name.ensures.reads)

pub named-returns-in_err-arguments-clause-reads : goal.named-returns-in_err-arguments-clause-reads
named-returns-in_err-arguments-clause-reads t c =
    let q : next_in (class.LeftParen ∷ []) c.in_ok-name.rest.now ≡ true = cc in
    passed_on _ _ _ _ _ _ _ c.from_residual-in_err-arguments.ensures.1 (fails_from _ (λ k z h. f_second c.in_ok-name.ensures.reads (f_first (r_yes q h))) c.in_err-arguments.ensures.reads)

pub arguments-returns-clause-reads : goal.arguments-returns-clause-reads
arguments-returns-clause-reads t c =
    r_ref (r_skip c.in_ok-rest.ensures.reads (r_end (r_deeper c.in_ok-arguments.ensures.reads) c.in_ok-rest-2.ensures.reads))

pub arguments-returns-in_err-rest-clause-reads : goal.arguments-returns-in_err-rest-clause-reads
arguments-returns-in_err-rest-clause-reads t c =
    stop_passed_on _ _ _ _ _ _ _ c.from_residual.ensures.1 (stops_from _ (λ k z h. f_ref (f_first h)) c.in_err-rest.ensures.reads)

pub arguments-returns-in_err-arguments-clause-reads : goal.arguments-returns-in_err-arguments-clause-reads
arguments-returns-in_err-arguments-clause-reads t c =
    passed_on _ _ _ _ _ _ _ c.from_residual-in_err-arguments.ensures.1 (fails_from _ (λ k z h. f_ref (f_second c.in_ok-rest.ensures.reads (f_first (r_deeper h)))) c.in_err-arguments.ensures.reads)

pub arguments-returns-in_err-rest-2-clause-reads : goal.arguments-returns-in_err-rest-2-clause-reads
arguments-returns-in_err-rest-2-clause-reads t c =
    stop_passed_on _ _ _ _ _ _ _ c.from_residual-in_err-rest-2.ensures.1 (stops_from _ (λ k z h. f_ref (f_second c.in_ok-rest.ensures.reads (f_second (r_deeper c.in_ok-arguments.ensures.reads) h))) c.in_err-rest-2.ensures.reads)

pub argument_list-returns-clause-reads : goal.argument_list-returns-clause-reads
argument_list-returns-clause-reads t c =
    let q : starts (grammar.Ref grammar.Expression) c.args.tokens.now ≡ true = cc in
    more_after _ _ _ (expression_tree c.in_ok-first.first) c.more_arguments.result (row_one expression_tree c.new-arguments.result _ c.in_ok-first.first c.new-arguments.ensures (rw (sym c.into_inner.ensures) c.in_ok-push.ensures.ok))
    (λ g zs h. r_yes q (r_seq c.in_ok-first.ensures.reads h))
    (λ k zs h. r_yes q (f_second c.in_ok-first.ensures.reads h))
    c.more_arguments.ensures.reads

pub argument_list-returns-then-not-at_operand-clause-reads : goal.argument_list-returns-then-not-at_operand-clause-reads
argument_list-returns-then-not-at_operand-clause-reads t c =
    let q : starts (grammar.Ref grammar.Expression) c.args.tokens.now ≡ false = cc in
    r_same (r_no q) (sym (ap (each expression_tree) c.new-arguments.ensures))

pub argument_list-returns-in_err-first-clause-reads : goal.argument_list-returns-in_err-first-clause-reads
argument_list-returns-in_err-first-clause-reads t c =
    let q : starts (grammar.Ref grammar.Expression) c.args.tokens.now ≡ true = cc in
    passed_on _ _ _ _ _ _ _ c.from_residual.ensures.1 (fails_from _ (λ k z h. r_yes q (f_first h)) c.in_err-first.ensures.reads)

pub more_arguments-arguments-init : goal.more_arguments-arguments-init
more_arguments-arguments-init t c =
    record { past = (none, sym (none_right _), past_start _ _ _); shorter = omega arith }

pub more_arguments-returns-in_err-after-clause-reads : goal.more_arguments-returns-in_err-after-clause-reads
more_arguments-returns-in_err-after-clause-reads t c =
    let q : next_in (class.Comma ∷ []) c.arguments.rest.now ≡ true = cc in
    more_stop_passed_on _ _ _ _ _ _ _ _ c.from_residual.ensures.1 (stops_from _ (λ k z h. past_fault c.arguments.invariant.past.2 q (f_first h)) c.in_err-after.ensures.reads)

pub more_arguments-returns-in_err-argument-clause-reads : goal.more_arguments-returns-in_err-argument-clause-reads
more_arguments-returns-in_err-argument-clause-reads t c =
    let q : next_in (class.Comma ∷ []) c.arguments.rest.now ≡ true = cc in
    more_passed_on _ _ _ _ _ _ _ _ c.from_residual-in_err-argument.ensures.1 (fails_from _ (λ k z h. past_fault c.arguments.invariant.past.2 q (f_second c.in_ok-after.ensures.reads h)) c.in_err-argument.ensures.reads)

pub more_arguments-arguments-preserved : goal.more_arguments-arguments-preserved
more_arguments-arguments-preserved t c =
    let q : next_in (class.Comma ∷ []) c.arguments.rest.now ≡ true = cc in
    record {
      past = (_, row_more _ _ c.arguments.invariant.past.0 (expression_tree c.in_ok-argument.argument) _ (row_push expression_tree _ _ c.in_ok-argument.argument (rw (sym c.into_inner.ensures) c.in_ok-push.ensures.ok)) c.arguments.invariant.past.1, past_step c.arguments.invariant.past.2 q (r_skip c.in_ok-after.ensures.reads c.in_ok-argument.ensures.reads));
      shorter = omega (arith, c.arguments.invariant.shorter, c.in_ok-after.ensures.shorter, c.in_ok-argument.ensures.shorter);
    }

pub more_arguments-returns-clause-reads : goal.more_arguments-returns-clause-reads
more_arguments-returns-clause-reads t c =
    let q : next_in (class.Comma ∷ []) c.arguments.rest.now ≡ false = cc in
    (c.arguments.invariant.past.0, c.arguments.invariant.past.1, past_stop c.arguments.invariant.past.2 q)

pub allocation-returns-clause-reads : goal.allocation-returns-clause-reads
allocation-returns-clause-reads t c =
    more_after _ _ _ (word class.Malloc c.in_ok-at.at (expression_tree c.in_ok-size.size)) c.postfix.result c.in_ok-primary.ensures
    (λ g zs h. r_seq c.in_ok-at.ensures.reads (r_seq c.in_ok-size.ensures.reads h))
    (λ k zs h. f_second c.in_ok-at.ensures.reads (f_second c.in_ok-size.ensures.reads h))
    c.postfix.ensures.reads

pub allocation-returns-in_err-at-clause-reads : goal.allocation-returns-in_err-at-clause-reads
allocation-returns-in_err-at-clause-reads t c =
    stop_passed_on _ _ _ _ _ _ _ c.from_residual.ensures.1 (stops_from _ (λ k z h. f_first h) c.in_err-at.ensures.reads)

pub allocation-returns-in_err-size-clause-reads : goal.allocation-returns-in_err-size-clause-reads
allocation-returns-in_err-size-clause-reads t c =
    passed_on _ _ _ _ _ _ _ c.from_residual-in_err-size.ensures.1 (fails_from _ (λ k z h. f_second c.in_ok-at.ensures.reads (f_first h)) c.in_err-size.ensures.reads)

pub inside-returns-clause-reads : goal.inside-returns-clause-reads
inside-returns-clause-reads t c =
    r_skip c.in_ok-rest.ensures.reads (r_end (r_deeper c.in_ok-inner.ensures.reads) c.in_ok-rest-2.ensures.reads)

pub inside-returns-in_err-rest-clause-reads : goal.inside-returns-in_err-rest-clause-reads
inside-returns-in_err-rest-clause-reads t c =
    stop_passed_on _ _ _ _ _ _ _ c.from_residual.ensures.1 (stops_from _ (λ k z h. f_first h) c.in_err-rest.ensures.reads)

pub inside-returns-in_err-inner-clause-reads : goal.inside-returns-in_err-inner-clause-reads
inside-returns-in_err-inner-clause-reads t c =
    passed_on _ _ _ _ _ _ _ c.from_residual-in_err-inner.ensures.1 (fails_from _ (λ k z h. f_second c.in_ok-rest.ensures.reads (f_first (r_deeper h))) c.in_err-inner.ensures.reads)

pub inside-returns-in_err-rest-2-clause-reads : goal.inside-returns-in_err-rest-2-clause-reads
inside-returns-in_err-rest-2-clause-reads t c =
    stop_passed_on _ _ _ _ _ _ _ c.from_residual-in_err-rest-2.ensures.1 (stops_from _ (λ k z h. f_second c.in_ok-rest.ensures.reads (f_second (r_deeper c.in_ok-inner.ensures.reads) h)) c.in_err-rest-2.ensures.reads)

pub parenthesis-returns-then-at_type-clause-reads : goal.parenthesis-returns-then-at_type-clause-reads
parenthesis-returns-then-at_type-clause-reads t c =
    let q : starts (grammar.Ref grammar.TypeSpecifier) c.in_ok-at.rest.now ≡ true = cc in
    more_after _ _ _ (word class.LeftParen c.in_ok-at.at none) c.cast.result refl
    (λ g zs h. r_seq c.in_ok-at.ensures.reads (r_left q h))
    (λ k zs h. f_second c.in_ok-at.ensures.reads (r_left q h))
    c.cast.ensures.reads

pub parenthesis-returns-clause-reads : goal.parenthesis-returns-clause-reads
parenthesis-returns-clause-reads t c =
    let q : starts (grammar.Ref grammar.TypeSpecifier) c.in_ok-at.rest.now ≡ false = cc in
    more_after _ _ _ (word class.LeftParen c.in_ok-at.at none) c.group.result refl
    (λ g zs h. r_seq c.in_ok-at.ensures.reads (r_right q h))
    (λ k zs h. f_second c.in_ok-at.ensures.reads (r_right q h))
    c.group.ensures.reads

pub parenthesis-returns-in_err-at-clause-reads : goal.parenthesis-returns-in_err-at-clause-reads
parenthesis-returns-in_err-at-clause-reads t c =
    stop_passed_on _ _ _ _ _ _ _ c.from_residual.ensures.1 (stops_from _ (λ k z h. f_first h) c.in_err-at.ensures.reads)

pub cast-returns-clause-reads : goal.cast-returns-clause-reads
cast-returns-clause-reads t c =
    (_, (ap (λ (s : Shape). s.row) c.in_ok-cast.ensures), r_seq (r_deeper c.in_ok-name.ensures.reads) (r_skip c.in_ok-rest.ensures.reads (r_deeper c.in_ok-operand.ensures.reads)))

pub cast-returns-in_err-name-clause-reads : goal.cast-returns-in_err-name-clause-reads
cast-returns-in_err-name-clause-reads t c =
    more_passed_on _ _ (word class.LeftParen c.args.at none) _ _ _ _ _ c.from_residual.ensures.1 (fails_from _ (λ k z h. f_first (r_deeper h)) c.in_err-name.ensures.reads)

pub cast-returns-in_err-rest-clause-reads : goal.cast-returns-in_err-rest-clause-reads
cast-returns-in_err-rest-clause-reads t c =
    more_stop_passed_on _ _ (word class.LeftParen c.args.at none) _ _ _ _ _ c.from_residual-in_err-rest.ensures.1 (stops_from _ (λ k z h. f_second (r_deeper c.in_ok-name.ensures.reads) (f_first h)) c.in_err-rest.ensures.reads)

pub cast-returns-in_err-operand-clause-reads : goal.cast-returns-in_err-operand-clause-reads
cast-returns-in_err-operand-clause-reads t c =
    more_passed_on _ _ (word class.LeftParen c.args.at none) _ _ _ _ _ c.from_residual-in_err-operand.ensures.1 (fails_from _ (λ k z h. f_second (r_deeper c.in_ok-name.ensures.reads) (f_second c.in_ok-rest.ensures.reads (r_deeper h))) c.in_err-operand.ensures.reads)

pub group-returns-clause-reads : goal.group-returns-clause-reads
group-returns-clause-reads t c =
    more_more _ _ (word class.LeftParen c.args.at none) (primary_row shape c.in_ok-primary.primary) (expression_tree c.in_ok-inner.inner) c.postfix.result c.in_ok-primary.ensures
    (λ g zs h. r_seq (r_deeper c.in_ok-inner.ensures.reads) (r_skip c.in_ok-rest.ensures.reads h))
    (λ k zs h. f_second (r_deeper c.in_ok-inner.ensures.reads) (f_second c.in_ok-rest.ensures.reads h))
    c.postfix.ensures.reads

pub group-returns-in_err-inner-clause-reads : goal.group-returns-in_err-inner-clause-reads
group-returns-in_err-inner-clause-reads t c =
    more_passed_on _ _ (word class.LeftParen c.args.at none) _ _ _ _ _ c.from_residual.ensures.1 (fails_from _ (λ k z h. f_first (r_deeper h)) c.in_err-inner.ensures.reads)

pub group-returns-in_err-rest-clause-reads : goal.group-returns-in_err-rest-clause-reads
group-returns-in_err-rest-clause-reads t c =
    more_stop_passed_on _ _ (word class.LeftParen c.args.at none) _ _ _ _ _ c.from_residual-in_err-rest.ensures.1 (stops_from _ (λ k z h. f_second (r_deeper c.in_ok-inner.ensures.reads) (f_first h)) c.in_err-rest.ensures.reads)

pub prefixed-returns-clause-reads : goal.prefixed-returns-clause-reads
prefixed-returns-clause-reads t c =
    r_row c.in_ok-prefixed.prefixed (r_seq c.in_ok-at.ensures.reads (r_deeper c.in_ok-operand.ensures.reads)) c.in_ok-prefixed.ensures

pub prefixed-returns-in_err-at-clause-reads : goal.prefixed-returns-in_err-at-clause-reads
prefixed-returns-in_err-at-clause-reads t c =
    stop_passed_on _ _ _ _ _ _ _ c.from_residual.ensures.1 (stops_from _ (λ k z h. f_first h) c.in_err-at.ensures.reads)

pub prefixed-returns-in_err-operand-clause-reads : goal.prefixed-returns-in_err-operand-clause-reads
prefixed-returns-in_err-operand-clause-reads t c =
    passed_on _ _ _ _ _ _ _ c.from_residual-in_err-operand.ensures.1 (fails_from _ (λ k z h. f_second c.in_ok-at.ensures.reads (r_deeper h)) c.in_err-operand.ensures.reads)

pub postfix-returns-clause-reads : goal.postfix-returns-clause-reads
postfix-returns-clause-reads t c =
    (_, ap (λ (s : Shape). s.row) c.in_ok-postfix.ensures, c.in_ok-suffixes.ensures.reads)

pub postfix-returns-in_err-suffixes-clause-reads : goal.postfix-returns-in_err-suffixes-clause-reads
postfix-returns-in_err-suffixes-clause-reads t c =
    more_passed_on _ _ (primary_row shape c.args.primary) _ _ _ _ _ c.from_residual.ensures.1 c.in_err-suffixes.ensures.reads

pub suffixes-returns-in_err-suffix-clause-reads : goal.suffixes-returns-in_err-suffix-clause-reads
suffixes-returns-in_err-suffix-clause-reads t c =
    let q : starts (grammar.Ref grammar.Suffix) c.suffixes.rest.now ≡ true = cc in
    passed_on _ _ _ _ _ _ _ c.from_residual.ensures.1 (fails_from _ (λ k z h. past_fault c.suffixes.invariant.past q h) c.in_err-suffix.ensures.reads)

pub suffixes-suffixes-preserved : goal.suffixes-suffixes-preserved
suffixes-suffixes-preserved t c =
    let q : starts (grammar.Ref grammar.Suffix) c.suffixes.rest.now ≡ true = cc in
    record {
      past = past_same (past_step c.suffixes.invariant.past q c.in_ok-suffix.ensures.reads) (row_push (suffix_tree shape) _ _ c.in_ok-suffix.suffix (rw (sym c.into_inner.ensures) c.in_ok-push.ensures.ok));
      shorter = omega (arith, c.suffixes.invariant.shorter, c.in_ok-suffix.ensures.shorter);
    }

pub suffixes-returns-clause-reads : goal.suffixes-returns-clause-reads
suffixes-returns-clause-reads t c =
    let q : starts (grammar.Ref grammar.Suffix) c.suffixes.rest.now ≡ false = cc in
    past_stop c.suffixes.invariant.past q

pub suffix-returns-then-next_is-clause-reads : goal.suffix-returns-then-next_is-clause-reads
suffix-returns-then-next_is-clause-reads t c =
    let q : next_in (class.LeftBracket ∷ []) c.args.tokens.now ≡ true = cc in
    r_ref (r_left q c.in_ok-element.ensures.reads)

pub suffix-returns-clause-reads : goal.suffix-returns-clause-reads
suffix-returns-clause-reads t c =
    let q : next_in (class.LeftBracket ∷ []) c.args.tokens.now ≡ false = cc in
    r_ref (r_right q c.in_ok-member.ensures.reads)

pub suffix-returns-in_err-element-clause-reads : goal.suffix-returns-in_err-element-clause-reads
suffix-returns-in_err-element-clause-reads t c =
    let q : next_in (class.LeftBracket ∷ []) c.args.tokens.now ≡ true = cc in
    passed_on _ _ _ _ _ _ _ c.from_residual.ensures.1 (fails_from _ (λ k z h. f_ref (r_left q h)) c.in_err-element.ensures.reads)

pub suffix-returns-in_err-member-clause-reads : goal.suffix-returns-in_err-member-clause-reads
suffix-returns-in_err-member-clause-reads t c =
    let q : next_in (class.LeftBracket ∷ []) c.args.tokens.now ≡ false = cc in
    passed_on _ _ _ _ _ _ _ c.from_residual-in_err-member.ensures.1 (fails_from _ (λ k z h. f_ref (r_right q h)) c.in_err-member.ensures.reads)

pub subscript-returns-clause-reads : goal.subscript-returns-clause-reads
subscript-returns-clause-reads t c =
    r_same (r_seq c.in_ok-at.ensures.reads (r_end (r_deeper c.in_ok-index.ensures.reads) c.in_ok-rest.ensures.reads)) (sym c.in_ok-subscript.ensures)

pub subscript-returns-in_err-at-clause-reads : goal.subscript-returns-in_err-at-clause-reads
subscript-returns-in_err-at-clause-reads t c =
    stop_passed_on _ _ _ _ _ _ _ c.from_residual.ensures.1 (stops_from _ (λ k z h. f_first h) c.in_err-at.ensures.reads)

pub subscript-returns-in_err-index-clause-reads : goal.subscript-returns-in_err-index-clause-reads
subscript-returns-in_err-index-clause-reads t c =
    passed_on _ _ _ _ _ _ _ c.from_residual-in_err-index.ensures.1 (fails_from _ (λ k z h. f_second c.in_ok-at.ensures.reads (f_first (r_deeper h))) c.in_err-index.ensures.reads)

pub subscript-returns-in_err-rest-clause-reads : goal.subscript-returns-in_err-rest-clause-reads
subscript-returns-in_err-rest-clause-reads t c =
    stop_passed_on _ _ _ _ _ _ _ c.from_residual-in_err-rest.ensures.1 (stops_from _ (λ k z h. f_second c.in_ok-at.ensures.reads (f_second (r_deeper c.in_ok-index.ensures.reads) h)) c.in_err-rest.ensures.reads)
