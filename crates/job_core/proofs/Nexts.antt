-- An event, and the core with one event more counted.
use Rattle.std.proofs.Common.{◌≡◌, ℕ, List, [], Option, Result, IfOk, sym, subst}
use Rattle.mpi_words.specs.declared.operation.End.{End}
use Rattle.mpi_words.specs.declared.operation.Reply.{Reply}
use Rattle.image_text.specs.declared.state.RankState.{RankState}
use Rattle.core_laws.specs.Process.{Ranks, Want}
use Rattle.core_laws.specs.Pausing.{Asks, Stepped}
use Rattle.core_laws.specs.Core as definition
use Rattle.core_laws.specs.CoreEvents.{Core_event}
use Rattle.job_core.specs.declared.job.Core.{Core}
use Rattle.job_core.specs.declared.effect.Effect.{Effect}
use Rattle.job_core.specs.Cores.{Comes, StandsSo}

-- the event that is meant
pub comes_as : {S E : Type 0} (ended : S → Option End) (bytes among : S → ℕ) (saved : S → RankState) (P : Ranks S) (n : ℕ) (first : ℕ → ℕ) (c : definition.Core S) (e x : Core_event) (k : Core S) (result : Result (List Effect) E) → e ≡ x → IfOk result (λ effects. Comes ended bytes among saved P n first c x k effects) → IfOk result (λ effects. Comes ended bytes among saved P n first c e k effects)
comes_as ended bytes among saved P n first c e x k result is h = subst (λ z. IfOk result (λ effects. Comes ended bytes among saved P n first c z k effects)) (sym is) h

pub comes_quiet : {S : Type 0} (ended : S → Option End) (bytes among : S → ℕ) (saved : S → RankState) (P : Ranks S) (n : ℕ) (first : ℕ → ℕ) (c : definition.Core S) (e x : Core_event) (k : Core S) (effects : List Effect) → e ≡ x → effects ≡ [] → Comes ended bytes among saved P n first c x k [] → Comes ended bytes among saved P n first c e k effects
comes_quiet ended bytes among saved P n first c e x k effects is none h = subst (λ z. Comes ended bytes among saved P n first c e k z) (sym none) (subst (λ z. Comes ended bytes among saved P n first c z k []) (sym is) h)

pub comes_counted : {S : Type 0} (ended : S → Option End) (bytes among : S → ℕ) (saved : S → RankState) (P : Ranks S) (n : ℕ) (first : ℕ → ℕ) (c : definition.Core S) (e : Core_event) (k : Core S) (count : ℕ) (effects : List Effect) → Comes ended bytes among saved P n first c e k effects → Comes ended bytes among saved P n first c e (record k { events = count }) effects
comes_counted ended bytes among saved P n first c e k count effects h = record { ranks = h.ranks; does = h.does; members = h.members }

pub stands_counted : {S : Type 0} (ended : S → Option End) (bytes among serial : S → ℕ) (turned : ℕ → S → Stepped S) (answered : S → Reply → S) (again : (limit : ℕ) (s : S) (w : Want) → (turned limit s).stop ≡ Asks w → turned limit (turned limit s).machine ≡ turned limit s) (events : ℕ) (k : Core S) (count : ℕ) → StandsSo ended bytes among serial turned answered again events k → StandsSo ended bytes among serial turned answered again events (record k { events = count })
stands_counted ended bytes among serial turned answered again events k count h = (h.0, h.1, h.2, record { ranks = h.3.ranks; members = h.3.members; holds = h.3.holds }, h.4, h.5, h.6, h.7, h.8)
