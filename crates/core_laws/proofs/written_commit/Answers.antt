use Rattle.core_laws.proofs.CommitEffects.{next_commits}
use Rattle.core_laws.proofs.written_commit.Goals as goal

pub returns : goal.returns
returns c d P n core e h = next_commits P n core e h
