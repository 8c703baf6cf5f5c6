use Rattle.std.proofs.Common.{refl}
use Rattle.job_core.proofs.Beginnings.{none_told}
use Rattle.job_core.proofs.begin.network.Goals as goal

pub returns : goal.returns
returns c = record {
  ranks = refl;
  stands = record {
    layers = c.in_ok-layers.ensures;
    channels = c.in_ok-channels.ensures;
    controls = none_told c.args.ranks c.in_ok-controls.controls c.in_ok-controls.ensures;
    wave = record { line = refl; noted = c.in_ok-wave.ensures 0 };
  };
}
