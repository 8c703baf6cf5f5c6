use Rattle.std.proofs.Common.{◌≡◌, suc, [], ◌∷◌}
use Rattle.std.proofs.lemmas.Result.{IfOk-weaker}
use Rattle.core_laws.specs.CoreTies.{EachIs}
use Rattle.core_laws.specs.Effects.{Saves}
use Rattle.job_core.specs.declared.effect.Effect.TheVariants.{Save}
use Rattle.job_core.specs.Effects.{IsEffect}
use Rattle.job_core.proofs.Turnings.{save_written}
use Rattle.job_core.proofs.turns.saved.Goals as goal

pub returns : goal.returns
returns g c n p logs k line first h b machine mail at counted = IfOk-weaker c.one.result
    (λ effects. effects ≡ Save c.args.rank c.in_ok-image.image ∷ [])
    (λ effects. EachIs (IsEffect g.P.Process.saved n line first) effects (Saves c.args.rank k (p.layer c.args.rank).early ∷ []))
    (λ effects made. save_written g.P.Process.saved n c.args.rank c.args.member.now.ops (suc (p.layer c.args.rank).epoch) line first k (p.layer c.args.rank).early c.in_ok-image.image effects at counted (c.in_ok-image.ensures n p logs k h b machine mail) made)
    c.one.ensures
