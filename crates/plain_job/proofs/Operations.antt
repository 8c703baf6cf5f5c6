-- What an operation comes to.
use Rattle.std.proofs.Common.{◌≡◌, Bool, true, false, List, [], Result, Ok, Err}
use Rattle.std.specs.Prelude.{IfOk}
use Rattle.plain_job.specs.Job.{Rank}
use Rattle.plain_job.specs.Members.{progress_if}
use Rattle.plain_job.specs.declared.member.Progress.{Progress}
use Rattle.plain_job.specs.declared.member.Progress.TheVariants.{Went}

ended_if : (A : Type 0) (did : Progress) (b : Bool) → did ≡ progress_if b → did ≡ Went → A
ended_if A did true e h = absurd cc
ended_if A did false e h = absurd cc

-- no operation leaves a turn to go on
pub never_went : {E : Type 0} (A : Type 0) (result : Result Progress E) (possible : List Rank → Bool) → IfOk result (λ did. (ranks : List Rank) → did ≡ progress_if (possible ranks)) → IfOk result (λ did. did ≡ Went → A)
never_went A (Ok did) possible h = ended_if A did (possible []) (h [])
never_went A (Err e) possible h = h
