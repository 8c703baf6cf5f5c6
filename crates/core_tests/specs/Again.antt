-- A rank that wants something wants it again, and stays.
use Rattle.std.proofs.Common.{◌≡◌, ℕ, Option, Some, None, List, refl, sym, ap, ◌∙◌}
use Rattle.mpi_words.specs.declared.operation.Op.{Op}
use Rattle.mpi_words.specs.declared.operation.End.{End}
use Rattle.core_laws.specs.Process.{Want, Ended}
use Rattle.core_laws.specs.Pausing.{Asks}
use Rattle.core_tests.specs.declared.script.Script.{Script}
use Rattle.core_tests.specs.declared.script.Stage.{Stage}
use Rattle.core_tests.specs.declared.script.Stage.TheVariants.{Ready, PastMark, Waits, Over}
use Rattle.core_tests.specs.Script.{asks, ended, ended_at, first_of, next_of, turned}

-- what was wanted at a stage is wanted again while it waits
waits_so : (s : Script) (stage : Stage) (op : Op) → next_of s stage ≡ Some op → first_of s.ranks s.bytes s.rest ≡ Some op
waits_so s Ready op e = e
waits_so s PastMark op e = e
waits_so s Waits op e = e
waits_so s Over op e = absurd cc

asked_again : (limit : ℕ) (s : Script) (next : Option Op) → next_of s s.stage ≡ next → turned limit (asks s next).machine ≡ asks s next
asked_again limit s None e = refl
asked_again limit s (Some op) e = ap (asks s) (waits_so s s.stage op e)

pub again : (limit : ℕ) (s : Script) (w : Want) → (turned limit s).stop ≡ Asks w → turned limit (turned limit s).machine ≡ turned limit s
again limit s w e = asked_again limit s (next_of s s.stage) refl

stays : (limit : ℕ) (s : Script) (stage : Stage) (end : End) → s.stage ≡ stage → ended_at stage ≡ Some end → turned limit s ≡ record { machine = s; stop = Asks Ended }
stays limit s Ready end at e = absurd cc
stays limit s PastMark end at e = absurd cc
stays limit s Waits end at e = absurd cc
stays limit s Over end at e = ap (λ stage. asks (record s { stage = stage }) (next_of s stage)) at ∙ ap (λ stage. record { machine = record s { stage = stage }; stop = Asks Ended }) (sym at)

pub rests : (limit : ℕ) (s : Script) (end : End) → ended s ≡ Some end → turned limit s ≡ record { machine = s; stop = Asks Ended }
rests limit s end e = stays limit s s.stage end refl e
