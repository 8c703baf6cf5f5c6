use Rattle.std.proofs.Common.{◌≡◌, refl, sym, ap, ◌∙◌, subst}
use Rattle.mpi_words.specs.declared.operation.Want.TheVariants.{Paused, Wants, Ended}
use Rattle.rank_image.specs.declared.process.State.{State}
use Rattle.rank_image.specs.Rank.{MayRun, Runs, IsSound}
use Rattle.rank_image.specs.States.{rank_of}
use Rattle.rank_image.proofs.Turned.{has_turned, goes_from, ends_from}
use Rattle.rank_image.proofs.process.RankProcessProcess.turn.Goals as goal

pub invariant_of-self-in-Ok-Paused : goal.invariant_of-self-in-Ok-Paused
invariant_of-self-in-Ok-Paused c =
    let s = c.in-Runs.machine in
    let m = c.turn.new.self in
    let sound : MayRun s = subst (λ (x : State). IsSound (rank_of x)) c.in-Runs.is c.self.invariant in
    let old = ap rank_of (sym c.in-Runs.is) ∙ c.self.view_is in
    let know = c.in-Ok-Paused.ensures in
    let has = has_turned c.args.limit s m c.in-Ok-Paused.field-0 (Paused) c.in-Ok-Paused.field-0-is c.requires.limit sound know.functions know.turn know.function know.end know.left know.begun in
    (goes_from c.args.limit c.args.self.now s m (Paused) old refl has).sound

pub returns-in-Ok-Paused : goal.returns-in-Ok-Paused
returns-in-Ok-Paused c =
    let s = c.in-Runs.machine in
    let m = c.turn.new.self in
    let sound : MayRun s = subst (λ (x : State). IsSound (rank_of x)) c.in-Runs.is c.self.invariant in
    let old = ap rank_of (sym c.in-Runs.is) ∙ c.self.view_is in
    let know = c.in-Ok-Paused.ensures in
    let has = has_turned c.args.limit s m c.in-Ok-Paused.field-0 (Paused) c.in-Ok-Paused.field-0-is c.requires.limit sound know.functions know.turn know.function know.end know.left know.begun in
    let g = goes_from c.args.limit c.args.self.now s m (Paused) old refl has in
    record { turned = g.turned; fits = g.fits; pending = g.pending; ended = refl; among = g.among; bytes = g.bytes; serial = g.serial }

pub invariant_of-self-in-Ok-Wants : goal.invariant_of-self-in-Ok-Wants
invariant_of-self-in-Ok-Wants c =
    let s = c.in-Runs.machine in
    let m = c.turn.new.self in
    let sound : MayRun s = subst (λ (x : State). IsSound (rank_of x)) c.in-Runs.is c.self.invariant in
    let old = ap rank_of (sym c.in-Runs.is) ∙ c.self.view_is in
    let know = c.in-Ok-Wants.ensures in
    let has = has_turned c.args.limit s m c.in-Ok-Wants.field-0 (Wants c.in-Ok-Wants.op) c.in-Ok-Wants.field-0-is c.requires.limit sound know.functions know.turn know.function know.end know.left know.begun in
    (goes_from c.args.limit c.args.self.now s m (Wants c.in-Ok-Wants.op) old refl has).sound

pub returns-in-Ok-Wants : goal.returns-in-Ok-Wants
returns-in-Ok-Wants c =
    let s = c.in-Runs.machine in
    let m = c.turn.new.self in
    let sound : MayRun s = subst (λ (x : State). IsSound (rank_of x)) c.in-Runs.is c.self.invariant in
    let old = ap rank_of (sym c.in-Runs.is) ∙ c.self.view_is in
    let know = c.in-Ok-Wants.ensures in
    let has = has_turned c.args.limit s m c.in-Ok-Wants.field-0 (Wants c.in-Ok-Wants.op) c.in-Ok-Wants.field-0-is c.requires.limit sound know.functions know.turn know.function know.end know.left know.begun in
    let g = goes_from c.args.limit c.args.self.now s m (Wants c.in-Ok-Wants.op) old refl has in
    record { turned = g.turned; fits = g.fits; pending = g.pending; ended = refl; among = g.among; bytes = g.bytes; serial = g.serial }

pub returns-in-Ok-Ended-clause-turned : goal.returns-in-Ok-Ended-clause-turned
returns-in-Ok-Ended-clause-turned c =
    let s = c.in-Runs.machine in
    let m = c.turn.new.self in
    let sound : MayRun s = subst (λ (x : State). IsSound (rank_of x)) c.in-Runs.is c.self.invariant in
    let old = ap rank_of (sym c.in-Runs.is) ∙ c.self.view_is in
    let know = c.in-Ok-Ended.ensures in
    let has = has_turned c.args.limit s m c.in-Ok-Ended.field-0 (Ended c.in-Ok-Ended.end) c.in-Ok-Ended.field-0-is c.requires.limit sound know.functions know.turn know.function know.end know.left know.begun in
    (ends_from c.args.limit c.args.self.now s m c.in-Ok-Ended.end c.ranks-ranks.result c.printed-bytes.result old c.ranks-ranks.ensures c.printed-bytes.ensures has).turned

pub returns-in-Ok-Ended-clause-among : goal.returns-in-Ok-Ended-clause-among
returns-in-Ok-Ended-clause-among c =
    let s = c.in-Runs.machine in
    let m = c.turn.new.self in
    let sound : MayRun s = subst (λ (x : State). IsSound (rank_of x)) c.in-Runs.is c.self.invariant in
    let old = ap rank_of (sym c.in-Runs.is) ∙ c.self.view_is in
    let know = c.in-Ok-Ended.ensures in
    let has = has_turned c.args.limit s m c.in-Ok-Ended.field-0 (Ended c.in-Ok-Ended.end) c.in-Ok-Ended.field-0-is c.requires.limit sound know.functions know.turn know.function know.end know.left know.begun in
    (ends_from c.args.limit c.args.self.now s m c.in-Ok-Ended.end c.ranks-ranks.result c.printed-bytes.result old c.ranks-ranks.ensures c.printed-bytes.ensures has).among

pub returns-in-Ok-Ended-clause-bytes : goal.returns-in-Ok-Ended-clause-bytes
returns-in-Ok-Ended-clause-bytes c =
    let s = c.in-Runs.machine in
    let m = c.turn.new.self in
    let sound : MayRun s = subst (λ (x : State). IsSound (rank_of x)) c.in-Runs.is c.self.invariant in
    let old = ap rank_of (sym c.in-Runs.is) ∙ c.self.view_is in
    let know = c.in-Ok-Ended.ensures in
    let has = has_turned c.args.limit s m c.in-Ok-Ended.field-0 (Ended c.in-Ok-Ended.end) c.in-Ok-Ended.field-0-is c.requires.limit sound know.functions know.turn know.function know.end know.left know.begun in
    (ends_from c.args.limit c.args.self.now s m c.in-Ok-Ended.end c.ranks-ranks.result c.printed-bytes.result old c.ranks-ranks.ensures c.printed-bytes.ensures has).bytes
