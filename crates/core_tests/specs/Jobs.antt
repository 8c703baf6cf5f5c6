-- A job of scripts.
use Rattle.std.specs.Prelude.{ℕ}
use Rattle.job_core.specs.declared.job.Core.{Core}
use Rattle.job_core.specs.Cores.{StandsSo}
use Rattle.core_tests.specs.declared.script.Script.{Script}
use Rattle.core_tests.specs.Script.{ended, bytes, among, serial, turned, answered}
use Rattle.core_tests.specs.Again.{again}

abbrev pub Stands : Core Script → Type 0
Stands k = StandsSo ended bytes among serial turned answered again k.events k
