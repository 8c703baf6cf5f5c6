use Rattle.std.proofs.Common.{◌≡◌, ◌+◌, ◌∙◌, List, Option, drop, arith, ap, sym}
use Rattle.c_tree.specs.declared.tree.Expr.{Expr}
use Rattle.c_tree.specs.declared.tree.Suffix.{Suffix}
use Rattle.c_rules.specs.declared.found.Found.{Found}
use Rattle.c_rules.specs.Judged.{Judged}
use Rattle.c_rules.specs.Rules as rules
use Rattle.c_rules.specs.Scope.{scope_of}
use Rattle.c_check.specs.Expression.{judged, judged_primary, judged_suffix, judged_suffixes, judged_links, whole_prefix, whole_chain, whole_choice}
use Rattle.c_check.specs.Told.{table}
use Rattle.c_check.proofs.Nodes.{suffix_step, judged_postfix, judged_prefix, judged_chain, judged_choice, rest_noted}
use Rattle.c_check.proofs.Steps.{told_same, told_after, told_choice}
use Rattle.c_check.proofs.judge.Judge.+walk.Goals as goal

pub suffixed-loop-x-preserved : goal.suffixed-loop-x-preserved
suffixed-loop-x-preserved t c =
    let f = table c.args.names.known in
    let structs = c.args.names.known.structs.now in
    let s = scope_of c.args.names.scope.now in
    let i = c.loop-x.x-index in
    let x = c.x-item.result in
    let rest = λ (a : Option Found). judged_suffixes f structs s a (drop (i + 1) c.args.suffixes.now) in
    let next = suffix_step f structs s c.args.suffixes.now i x c.loop-x.found (omega arith) c.x-item.is in
    record {
      found =
          ap (λ (a : Option Found). (rest a).found) c.in_ok-found.ensures.found
          ∙ sym (ap (λ (j : Judged Found). j.found) next)
          ∙ c.loop-x.invariant.found;
      breaches =
          rest_noted (judged_suffix f structs s c.loop-x.found x) _ c.in_ok-found.found rest c.loop-x.self.breaches.items c.suffix.new.self.breaches.items
          next c.in_ok-found.ensures.found c.in_ok-found.ensures.breaches
          ∙ c.loop-x.invariant.breaches;
    }

pub expression-returns-in_ok-a-in-Postfix : goal.expression-returns-in_ok-a-in-Postfix
expression-returns-in_ok-a-in-Postfix t c =
    let f = table c.args.names.known in
    let structs = c.args.names.known.structs.now in
    let s = scope_of c.args.names.scope.now in
    let whole = ap (judged f structs s) c.in-Postfix.is ∙ judged_postfix f structs s c.in-Postfix.primary c.in-Postfix.suffixes in
    told_same c.suffixed.result c.args.self.now c.suffixed.new.self _ _ (sym whole)
    (told_after c.suffixed.result c.args.self.now c.primary.new.self c.suffixed.new.self (judged_primary f structs s c.in-Postfix.primary) c.in_ok-a-in-Postfix.a
    (λ a. judged_suffixes f structs s a c.in-Postfix.suffixes)
    c.in_ok-a-in-Postfix.ensures
    (told_same c.suffixed.result c.primary.new.self c.suffixed.new.self _ _ (ap (λ (xs : List (Suffix Expr)). judged_suffixes f structs s c.in_ok-a-in-Postfix.a xs) c.as_slice.ensures) c.suffixed.ensures))

pub expression-returns-in_ok-a-in-Prefix : goal.expression-returns-in_ok-a-in-Prefix
expression-returns-in_ok-a-in-Prefix t c =
    let f = table c.args.names.known in
    let structs = c.args.names.known.structs.now in
    let s = scope_of c.args.names.scope.now in
    let whole =
    ap (judged f structs s) c.in-Prefix.is
    ∙ judged_prefix f structs s c.in-Prefix.at c.in-Prefix.operator c.in-Prefix.operand
    ∙ ap (λ (e : Expr). whole_prefix structs c.in-Prefix.at c.in-Prefix.operator (judged f structs s e)) (sym c.get-in-Prefix.ensures) in
    told_same c.prefix.result c.args.self.now c.prefix.new.self _ _ (sym whole)
    (told_after c.prefix.result c.args.self.now c.expression.new.self c.prefix.new.self (judged f structs s c.get-in-Prefix.result.now) c.in_ok-a-in-Prefix.a
    (rules.prefix structs c.in-Prefix.at c.in-Prefix.operator)
    c.in_ok-a-in-Prefix.ensures c.prefix.ensures)

pub expression-returns-in-Chain : goal.expression-returns-in-Chain
expression-returns-in-Chain t c =
    let f = table c.args.names.known in
    let structs = c.args.names.known.structs.now in
    let s = scope_of c.args.names.scope.now in
    told_same c.whole_chain.result c.args.self.now c.whole_chain.new.self _ _
    (ap (λ (e : Expr). whole_chain structs (judged f structs s e) (judged_links f structs s c.in-Chain.rest)) c.get-in-Chain.ensures
    ∙ sym (ap (judged f structs s) c.in-Chain.is ∙ judged_chain f structs s c.in-Chain.first c.in-Chain.rest))
    c.whole_chain.ensures

pub expression-returns-in_ok-b-in-Choice : goal.expression-returns-in_ok-b-in-Choice
expression-returns-in_ok-b-in-Choice t c =
    let f = table c.args.names.known in
    let structs = c.args.names.known.structs.now in
    let s = scope_of c.args.names.scope.now in
    let j = judged f structs s in
    let parts : whole_choice (j c.get-in-Choice.result.now) (j c.get-in-Choice-2.result.now) (j c.get-in-Choice-3.result.now) ≡ whole_choice (j c.in-Choice.test) (j c.in-Choice.then) (j c.in-Choice.otherwise) =
    ap (λ (e : Expr). whole_choice (j e) (j c.get-in-Choice-2.result.now) (j c.get-in-Choice-3.result.now)) c.get-in-Choice.ensures
    ∙ ap (λ (e : Expr). whole_choice (j c.in-Choice.test) (j e) (j c.get-in-Choice-3.result.now)) c.get-in-Choice-2.ensures
    ∙ ap (λ (e : Expr). whole_choice (j c.in-Choice.test) (j c.in-Choice.then) (j e)) c.get-in-Choice-3.ensures in
    told_same c.choice_of.result c.args.self.now c.choice_of.new.self _ _
    (parts ∙ sym (ap j c.in-Choice.is ∙ judged_choice f structs s c.in-Choice.test c.in-Choice.then c.in-Choice.otherwise))
    (told_choice c.choice_of.result c.args.self.now c.expression-in-Choice.new.self c.expression-in-Choice-2.new.self c.expression-in-Choice-3.new.self c.choice_of.new.self
    (j c.get-in-Choice.result.now) (j c.get-in-Choice-2.result.now) (j c.get-in-Choice-3.result.now)
    c.in_ok-c-in-Choice.c c.in_ok-a-in-Choice.a c.in_ok-b-in-Choice.b
    c.in_ok-c-in-Choice.ensures c.in_ok-a-in-Choice.ensures c.in_ok-b-in-Choice.ensures c.choice_of.ensures)
