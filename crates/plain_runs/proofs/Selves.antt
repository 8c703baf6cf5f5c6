-- The source itself, with the choices of the plain job's turns, is a machine that follows the source.
use Rattle.std.proofs.Common.{◌≡◌, ℕ, Bool, refl, sym, ap, ◌∙◌, subst}
use Rattle.mpi_words.specs.declared.message.Message.{Message}
use Rattle.mpi_words.specs.declared.operation.End.{End}
use Rattle.c_kernel.specs.declared.program.Program.{Program}
use Rattle.c_memory.specs.Memory.{is_full}
use Rattle.c_meaning.specs.State.{State, Outcome}
use Rattle.c_meaning.specs.Step.{step}
use Rattle.c_meaning.proofs.Choices.{one_choice}
use Rattle.runs.specs.Job.{Want, Send, Receive, Output, Local, Chooses, Ended, Done}
use Rattle.runs.specs.Follow.{Here, Local_pace, Choice_pace, Matching, Follows}
use Rattle.runs.specs.Fine.{Fine, At, Asking, Over, fine_of, machine}
use Rattle.plain_runs.specs.Source.{act_of, refuses, source_of}
use Rattle.plain_runs.specs.Laws.{turning, IsSourceReached}
use Rattle.plain_runs.proofs.Picks.{pick_for, pick_back}
use Rattle.plain_runs.proofs.Reached.{quiet_reached}

abbrev Fines : Type 0
Fines = Fine State Message End

abbrev is_same : Fines → Fines → Type 0
is_same a b = a ≡ b

abbrev at_matching : (p : Program) (n : ℕ) (s : State) → Matching (λ x. x) (machine (turning p n)) (source_of p n) is_same (At s) (At s)
at_matching p n s =
    let c = one_choice p.functions is_full s in
    record {
      state = fine_of (act_of (step p.functions (λ m cells. refuses (pick_for c.0)) s));
      paces = Choice_pace (pick_for c.0) refl Here;
      matched = ap (λ (o : Outcome). fine_of (act_of o)) c.1 ∙ ap (λ (b : Bool). fine_of (act_of (step p.functions (λ m cells. b) s))) (sym (pick_back c.0));
    }

asking_matching : (p : Program) (n : ℕ) (w : Want Message) (s : State) → Matching (λ x. x) (machine (turning p n)) (source_of p n) is_same (Asking w s) (Asking w s)
asking_matching p n (Send to x) s = record { state = Asking (Send to x) s; paces = Here; matched = (x, refl, refl, refl) }
asking_matching p n (Receive x) s = record { state = Asking (Receive x) s; paces = Here; matched = (x, record { source = λ s. refl; fits = λ x. refl }, refl, λ a m _ _. refl) }
asking_matching p n (Output bytes) s = record { state = Asking (Output bytes) s; paces = Here; matched = (refl, refl) }
asking_matching p n Local s = record { state = (source_of p n).answer (Asking Local s) Done; paces = Local_pace refl Here; matched = refl }
asking_matching p n Chooses s = record { state = Asking Chooses s; paces = Here; matched = (refl, λ pick. refl) }
asking_matching p n (Ended code) s = record { state = Asking (Ended code) s; paces = Here; matched = refl }

self_matching : (p : Program) (n : ℕ) (m : Fines) → Matching (λ x. x) (machine (turning p n)) (source_of p n) is_same m m
self_matching p n (At s) = at_matching p n s
self_matching p n (Asking w s) = asking_matching p n w s
self_matching p n (Over e) = record { state = Over e; paces = Here; matched = refl }

self_follows : (p : Program) (n : ℕ) → Follows (λ x. x) (machine (turning p n)) (source_of p n) is_same
self_follows p n = record { begins = λ r. refl; goes = λ m s e. subst (Matching (λ x. x) (machine (turning p n)) (source_of p n) is_same m) e (self_matching p n m) }

pub source_reached : IsSourceReached
source_reached begins limit p n = quiet_reached (λ x. x) (turning p n) begins limit p n is_same (self_follows p n)
