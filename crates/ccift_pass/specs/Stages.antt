-- Where the calls of a machine stand.
use Rattle.std.specs.Prelude.{List, map, reverse}
use Rattle.flat_code.specs.Machine.{Frame}
use Rattle.flat_code.specs.Restart.{Stage}

abbrev pub stage : Frame → Stage
stage f = record { function = f.function; place = f.place }

-- the oldest call first
abbrev pub stages_of : List Frame → List Stage
stages_of frames = reverse (map stage frames)
