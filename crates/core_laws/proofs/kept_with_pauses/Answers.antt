use Rattle.core_laws.proofs.PausingCore.{start_pausing, next_pausing, saved_pausing, restarts_pausing, session_from_start, lag_pausing, live_pausing}
use Rattle.core_laws.proofs.PausedRuns.{reached_pausing}
use Rattle.core_laws.proofs.kept_with_pauses.Goals as goal

pub returns : goal.returns
returns c d = record {
  begins = start_pausing;
  next = next_pausing;
  saved = saved_pausing;
  restart = restarts_pausing;
  session = session_from_start;
  reached = reached_pausing;
  lag = lag_pausing;
  live = live_pausing;
}
