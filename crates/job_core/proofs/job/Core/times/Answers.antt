use Rattle.std.proofs.Common.{◌≡◌, ◌++◌, sym, refl, ap, arith}
use Rattle.core_laws.specs.CoreEvents.{times}
use Rattle.job_core.specs.Sweeping.{taken}
use Rattle.std.proofs.lemmas.List.{append-nil}
use Rattle.job_network.specs.Members.{stepping_of}
use Rattle.job_core.proofs.Sweeps.{ranks_kept, still_now, still_then, swept_as, swept_times}
use Rattle.job_core.proofs.job.Core.times.Goals as goal

pub loop-init : goal.loop-init
loop-init g c = (record { stands = c.requires.stands; events = refl; ranks = refl }, λ begin n first m es kept h. swept_as (sym (append-nil es)) h)

pub take-requires-clause-few : goal.take-requires-clause-few
take-requires-clause-few g c = omega (arith, c.loop.invariant.0.events, c.requires.few)

pub take-requires-clause-stands : goal.take-requires-clause-stands
take-requires-clause-stands g c = still_now g.P.Process.ended g.P.Process.bytes g.P.Process.among g.P.Process.serial g.P.Process.turned g.P.Process.answered g.P.Process.again c.args.self.now c.loop.self c.loop.invariant.0

pub loop-preserved : goal.loop-preserved
loop-preserved g c = (
  still_then g.P.Process.ended g.P.Process.bytes g.P.Process.among g.P.Process.serial g.P.Process.turned g.P.Process.answered g.P.Process.again c.args.self.now c.loop.self c.take.new.self c.loop.invariant.0 c.in_ok-more.ensures.stands c.in_ok-more.ensures.events
      (ranks_kept g.P.Process.ended g.P.Process.bytes g.P.Process.among g.P.Process.serial g.P.Process.saved g.P.Process.turned g.P.Process.answered g.P.Process.again c.loop.self.events c.args.traffic c.args.from c.args.to c.loop.self c.take.new.self c.in_ok-more.more (still_now g.P.Process.ended g.P.Process.bytes g.P.Process.among g.P.Process.serial g.P.Process.turned g.P.Process.answered g.P.Process.again c.args.self.now c.loop.self c.loop.invariant.0) c.in_ok-more.ensures.comes),
  λ begin n first m es kept h. swept_times g.P.Process.ended g.P.Process.bytes g.P.Process.among g.P.Process.saved (stepping_of begin g.P.Process.turned g.P.Process.answered g.P.Process.again) n first m es c.loop.counter c.args.traffic c.args.from c.args.to c.loop.self c.take.new.self c.loop.effects c.in_ok-more.more c.add.new.effects c.in_ok-add.ensures kept (c.loop.invariant.1 begin n first m es kept h) c.in_ok-more.ensures.comes,
)

pub returns-clause-comes : goal.returns-clause-comes
returns-clause-comes g c begin n first m es kept h =
    let all : c.loop.counter ≡ c.args.count = omega arith in
    swept_as (ap (λ z. es ++ times z (taken c.args.traffic c.args.from c.args.to)) all) (c.loop.invariant.1 begin n first m es kept h)
