-- What is due settles what is written and when each answer comes.
use Rattle.std.proofs.Common.{◌≡◌, ◌≤◌, ◌<◌, ℕ, Bool, true, false, ◌∙◌, List, Some, None, length, refl, sym, ap, subst, inl, inr, arith}
use Rattle.std.specs.Prelude.{Option, IfSome, ◌⊎◌, flat_map}
use Rattle.std.specs.Io.KnownBytes.{Appends}
use Rattle.c_tree.specs.declared.kind.Kind.{Kind}
use Rattle.c_tree.specs.declared.kind.Kind.TheVariants.{NotYet}
use Rattle.c_kernel.specs.declared.program.Program.{Program}
use Rattle.c_check.specs.Check.{Verdict, Accepted}
use Rattle.c_check.specs.Check as checked
use Rattle.job_schedule.specs.declared.schedule.Entry.{Entry}
use Rattle.job_schedule.specs.Events.{events_of}
use Rattle.job_schedule.specs.Schedule.{Answer, Whole, BadEvent, Reads}
use Rattle.job_schedule.specs.Schedule as schedule
use Rattle.plain_job.specs.Job.{Job, start_job}
use Rattle.plain_job.specs.Turn.{AreTurns}
use Rattle.plain_job.proofs.Runs.{turns_same}
use Rattle.c3_top.specs.declared.command.Command.{Command}
use Rattle.c3_top.specs.declared.command.Command.TheVariants.{Plain, Check, Pass}
use Rattle.c3_top.specs.declared.status.Status.{Status}
use Rattle.c3_top.specs.declared.status.Status.TheVariants.{Done, Unfinished, Usage, Refused, BadSchedule, TooMany, InputLimit, ReadFault, WriteFault, NoMemory}
use Rattle.c3_top.specs.Command.{IsCommand, IsNoCommand}
use Rattle.c3_top.specs.Input.{parts_of, turn_in}
use Rattle.c3_top.specs.Run.{all_ended}
use Rattle.c3_top.specs.Text.{IsVerdict}
use Rattle.c3_top.specs.Answer.{IsBadSchedule, IsDone, IsDue, IsFault, IsLeft, IsRefused, IsResult, IsRun, IsTooMany, OfInput, Writes, Exactly, input_limit}
use Rattle.c3_top.proofs.Counts.{one_command}
use Rattle.c3_top.proofs.Verdicts.{read_once, verdict_once}

pub written_from_due : (words : List (List ℕ)) (input : Option (List ℕ)) (before now : ℕ) (old new : Option (List ℕ)) (status : Status) (text : List ℕ) → IsDue words input before now status text
    → Appends old new text → Writes (IsDue words input before now) old new status
written_from_due words input before now old new Done text due out = (text, due, out)
written_from_due words input before now old new Unfinished text due out = (text, due, out)
written_from_due words input before now old new Usage text due out = (text, due, out)
written_from_due words input before now old new (Refused kind at) text due out = (text, due, out)
written_from_due words input before now old new (BadSchedule at) text due out = (text, due, out)
written_from_due words input before now old new (TooMany count) text due out = (text, due, out)
written_from_due words input before now old new InputLimit text due out = (text, due, out)
written_from_due words input before now old new ReadFault text due out = (text, due, out)
written_from_due words input before now old new (WriteFault n) text due out = absurd due.3
written_from_due words input before now old new NoMemory text due out = absurd due.3

-- ---- what an answer says of a command and an input

abbrev pub Says : Status → Command → List ℕ → Type 0
Says Done c i = IsDone c i
Says Unfinished c i = IsLeft c i
Says (Refused kind at) c i = IsRefused kind at i
Says (BadSchedule at) c i = IsBadSchedule at i
Says (TooMany count) c i = IsTooMany count i
Says InputLimit c i = input_limit < length i
Says _ c i = ⊥

-- ---- an input within the limit has one answer: by its schedule, then by its text, then by its run

abbrev by_end : Bool → Status
by_end true = Done
by_end false = Unfinished

abbrev by_text : Verdict → Bool → Status
by_text (Accepted p) ended = by_end ended
by_text (checked.Refused kind at) ended = Refused kind at

abbrev by_schedule : Answer → Verdict → Bool → Status
by_schedule (Whole entries) v ended = by_text v ended
by_schedule (BadEvent at) v ended = BadSchedule at
by_schedule (schedule.TooMany count) v ended = TooMany count

-- whether the ranks end; a text that is only checked counts as one whose ranks do
abbrev EndsSo : Command → List ℕ → Bool → Type 0
EndsSo (Plain ranks) i ended = (job : Job) × IsRun ranks job i × (all_ended job.ranks ≡ ended)
EndsSo Check i ended = ended ≡ true
EndsSo Pass i ended = ended ≡ true

abbrev RunsSo : Command → List ℕ → Verdict → Bool → Type 0
RunsSo c i (Accepted p) ended = EndsSo c i ended
RunsSo c i (checked.Refused kind at) ended = Unit {0}

abbrev ReadsSo : Command → List ℕ → Answer → Verdict → Bool → Type 0
ReadsSo c i (Whole entries) v ended = IsVerdict (parts_of i).text v × RunsSo c i v ended
ReadsSo c i (BadEvent at) v ended = Unit {0}
ReadsSo c i (schedule.TooMany count) v ended = Unit {0}

record Grounds (c : Command) (i : List ℕ) (s : Status) : Type 0 where
  short : length i ≤ input_limit
  answer : Answer
  read : Reads (parts_of i).schedule answer
  verdict : Verdict
  ended : Bool
  so : ReadsSo c i answer verdict ended
  told : by_schedule answer verdict ended ≡ s

run_grounds : (n : ℕ) (i : List ℕ) (job : Job) (ended : Bool) (s : Status) → IsRun n job i → all_ended job.ranks ≡ ended → by_end ended ≡ s → Grounds (Plain n) i s
run_grounds n i job ended s r e told = record { short = r.short; answer = Whole r.entries; read = r.read; verdict = Accepted r.program; ended = ended; so = (r.is, (job, r, e)); told = told }

done_grounds : (c : Command) (i : List ℕ) → IsDone c i → Grounds c i Done
done_grounds (Plain n) i h = run_grounds n i h.0 true Done h.1 h.2 refl
done_grounds Check i h = record { short = h.0; answer = Whole h.1.0; read = h.1.1; verdict = Accepted h.2.0; ended = true; so = (h.2.1, refl); told = refl }
done_grounds Pass i h = record { short = h.0; answer = Whole h.1.0; read = h.1.1; verdict = Accepted h.2.0; ended = true; so = (h.2.1, refl); told = refl }

left_grounds : (c : Command) (i : List ℕ) → IsLeft c i → Grounds c i Unfinished
left_grounds (Plain n) i h = run_grounds n i h.0 false Unfinished h.1 h.2 refl
left_grounds Check i h = absurd h
left_grounds Pass i h = absurd h

refused_grounds : (c : Command) (i : List ℕ) (kind : Kind) (at : ℕ) → IsRefused kind at i → Grounds c i (Refused kind at)
refused_grounds c i kind at h = record { short = h.0; answer = Whole h.1.0; read = h.1.1; verdict = checked.Refused kind at; ended = false; so = (h.2, tt); told = refl }

bad_grounds : (c : Command) (i : List ℕ) (at : ℕ) → IsBadSchedule at i → Grounds c i (BadSchedule at)
bad_grounds c i at h = record { short = h.0; answer = BadEvent at; read = h.1; verdict = checked.Refused NotYet 0; ended = false; so = tt; told = refl }

many_grounds : (c : Command) (i : List ℕ) (count : ℕ) → IsTooMany count i → Grounds c i (TooMany count)
many_grounds c i count h = record { short = h.0; answer = schedule.TooMany count; read = h.1; verdict = checked.Refused NotYet 0; ended = false; so = tt; told = refl }

programs : (p q : Program) → Accepted p ≡ Accepted q → p ≡ q
programs p q e = cc

wholes : (a b : List Entry) → Whole a ≡ Whole b → a ≡ b
wholes a b e = cc

one_job : (ranks : ℕ) (i : List ℕ) (a b : Job) → IsRun ranks a i → IsRun ranks b i → a ≡ b
one_job ranks i a b h k =
    let p : k.program ≡ h.program = programs k.program h.program (verdict_once (parts_of i).text (Accepted k.program) (Accepted h.program) k.is h.is) in
    let es : k.entries ≡ h.entries = wholes k.entries h.entries (read_once (parts_of i).schedule (Whole k.entries) (Whole h.entries) k.read h.read) in
    let events : List Entry → List ℕ = λ l. flat_map turn_in (events_of ranks l) in
    turns_same h.program.functions (start_job h.program ranks) (events h.entries) a b h.turns
    (subst (λ l. AreTurns h.program.functions (start_job h.program ranks) (events l) b) es (subst (λ q. AreTurns q.functions (start_job q ranks) (events k.entries) b) p k.turns))

one_end : (c : Command) (i : List ℕ) (x y : Bool) → EndsSo c i x → EndsSo c i y → x ≡ y
one_end (Plain n) i x y h k = sym h.2 ∙ ap (λ (j : Job). all_ended j.ranks) (one_job n i h.0 k.0 h.1 k.1) ∙ k.2
one_end Check i x y h k = h ∙ sym k
one_end Pass i x y h k = h ∙ sym k

by_same_text : (c : Command) (i : List ℕ) (v : Verdict) (x y : Bool) → RunsSo c i v x → RunsSo c i v y → by_text v x ≡ by_text v y
by_same_text c i (Accepted p) x y h k = ap by_end (one_end c i x y h k)
by_same_text c i (checked.Refused kind at) x y h k = refl

by_same_schedule : (c : Command) (i : List ℕ) (a : Answer) (v w : Verdict) (x y : Bool) → ReadsSo c i a v x → ReadsSo c i a w y → by_schedule a v x ≡ by_schedule a w y
by_same_schedule c i (Whole entries) v w x y h k =
    let same : v ≡ w = verdict_once (parts_of i).text v w h.0 k.0 in
    ap (λ u. by_text u x) same ∙ by_same_text c i w x y (subst (λ u. RunsSo c i u x) same h.1) k.1
by_same_schedule c i (BadEvent at) v w x y h k = refl
by_same_schedule c i (schedule.TooMany count) v w x y h k = refl

by_grounds : (c : Command) (i : List ℕ) (s t : Status) → Grounds c i s → Grounds c i t → s ≡ t
by_grounds c i s t g h =
    let same : g.answer ≡ h.answer = read_once (parts_of i).schedule g.answer h.answer g.read h.read in
    sym g.told ∙ ap (λ a. by_schedule a g.verdict g.ended) same ∙ by_same_schedule c i h.answer g.verdict h.verdict g.ended h.ended (subst (λ a. ReadsSo c i a g.verdict g.ended) same g.so) h.so ∙ h.told

-- an input past the limit has another
abbrev Told : Command → List ℕ → Status → Type 0
Told c i s = Grounds c i s ⊎ ((s ≡ InputLimit) × (input_limit < length i))

told : (c : Command) (i : List ℕ) (s : Status) → Says s c i → Told c i s
told c i Done h = inl (done_grounds c i h)
told c i Unfinished h = inl (left_grounds c i h)
told c i (Refused kind at) h = inl (refused_grounds c i kind at h)
told c i (BadSchedule at) h = inl (bad_grounds c i at h)
told c i (TooMany count) h = inl (many_grounds c i count h)
told c i InputLimit h = inr (refl, h)
told c i Usage h = absurd h
told c i ReadFault h = absurd h
told c i (WriteFault out) h = absurd h
told c i NoMemory h = absurd h

told_once : (c : Command) (i : List ℕ) (s t : Status) → Told c i s → Told c i t → s ≡ t
told_once c i s t (inl g) (inl h) = by_grounds c i s t g h
told_once c i s t (inl g) (inr h) = let short = g.short in let long = h.1 in absurd (omega (arith, short, long))
told_once c i s t (inr g) (inl h) = let short = h.short in let long = g.1 in absurd (omega (arith, short, long))
told_once c i s t (inr g) (inr h) = g.0 ∙ sym h.0

said_once : (c : Command) (i : List ℕ) (s t : Status) → Says s c i → Says t c i → s ≡ t
said_once c i s t h k = told_once c i s t (told c i s h) (told c i t k)

-- ---- what is due says so

-- of words and an input
abbrev pub Due : List (List ℕ) → List ℕ → Status → Type 0
Due words i Usage = IsNoCommand words
Due words i ReadFault = Unit {0}
Due words i Done = (c : Command) × IsCommand words c × Says Done c i
Due words i Unfinished = (c : Command) × IsCommand words c × Says Unfinished c i
Due words i (Refused kind at) = (c : Command) × IsCommand words c × Says (Refused kind at) c i
Due words i (BadSchedule at) = (c : Command) × IsCommand words c × Says (BadSchedule at) c i
Due words i (TooMany count) = (c : Command) × IsCommand words c × Says (TooMany count) c i
Due words i InputLimit = (c : Command) × IsCommand words c × Says InputLimit c i
Due words i _ = ⊥

is_done : (c : Command) (text i : List ℕ) → IsResult Done c text i → IsDone c i
is_done (Plain n) text i h = (h.0, h.1, h.2)
is_done Check text i h = h.0
is_done Pass text i h = (h.1.0, h.1.1, (h.0, h.1.2))

is_left : (c : Command) (text i : List ℕ) → IsResult Unfinished c text i → IsLeft c i
is_left (Plain n) text i h = (h.0, h.1, h.2)
is_left Check text i h = h
is_left Pass text i h = h

of_input : (P : List ℕ → Type 0) (i : List ℕ) → OfInput (Some i) P → P i
of_input P i h = subst P h.1 h.2

due_says : (words : List (List ℕ)) (before now : ℕ) (i : List ℕ) (status : Status) (text : List ℕ) → IsDue words (Some i) before now status text → Due words i status
due_says words before now i Done text due = (due.0, due.1, is_done due.0 text i (of_input (IsResult Done due.0 text) i due.3))
due_says words before now i Unfinished text due = (due.0, due.1, is_left due.0 text i (of_input (IsResult Unfinished due.0 text) i due.3))
due_says words before now i (Refused kind at) text due = (due.0, due.1, (of_input (IsResult (Refused kind at) due.0 text) i due.3).0)
due_says words before now i (BadSchedule at) text due = (due.0, due.1, (of_input (IsResult (BadSchedule at) due.0 text) i due.3).0)
due_says words before now i (TooMany count) text due = (due.0, due.1, (of_input (IsResult (TooMany count) due.0 text) i due.3).0)
due_says words before now i InputLimit text due = (due.0, due.1, subst (λ b. input_limit < length b) due.3.0.1 due.3.0.2)
due_says words before now i Usage text due = due.0
due_says words before now i ReadFault text due = tt
due_says words before now i (WriteFault out) text due = absurd due.3
due_says words before now i NoMemory text due = absurd due.3

-- ---- when each answer comes

abbrev Asks : List (List ℕ) → List ℕ → Status → Type 0
Asks words i s = (c : Command) × IsCommand words c × Says s c i

-- both say the same of the command that the words ask for
same_said : (words : List (List ℕ)) (i : List ℕ) (s t : Status) → Asks words i s → Asks words i t → s ≡ t
same_said words i s t h k = said_once k.0 i s t (subst (λ c. Says s c i) (one_command words h.0 k.0 h.1 k.1) h.2) k.2

comes : (words : List (List ℕ)) (i : List ℕ) (answer status : Status) → Due words i status → Asks words i answer → (status ≡ answer) ⊎ IsFault status
comes words i answer Done due h = inl (same_said words i Done answer due h)
comes words i answer Unfinished due h = inl (same_said words i Unfinished answer due h)
comes words i answer (Refused kind at) due h = inl (same_said words i (Refused kind at) answer due h)
comes words i answer (BadSchedule at) due h = inl (same_said words i (BadSchedule at) answer due h)
comes words i answer (TooMany count) due h = inl (same_said words i (TooMany count) answer due h)
comes words i answer InputLimit due h = inl (same_said words i InputLimit answer due h)
comes words i answer Usage due h = absurd (due h.0 h.1)
comes words i answer ReadFault due h = inr tt
comes words i answer (WriteFault out) due h = absurd due
comes words i answer NoMemory due h = absurd due

-- what is due where an answer comes is what the answer says
abbrev pub IsTold : Status → Type 0
IsTold answer = (words : List (List ℕ)) (i : List ℕ) → Due words i answer → Asks words i answer

pub exact_from_due : (words : List (List ℕ)) (input : Option (List ℕ)) (before now : ℕ) (answer status : Status) (text : List ℕ) → IsTold answer → IsDue words input before now status text
    → IfSome input (λ i. Exactly ((c : Command) × IsCommand words c × Says answer c i) answer status)
exact_from_due words None before now answer status text is due = tt
exact_from_due words (Some i) before now answer status text is due =
    let says = due_says words before now i status text due in
    record { only = λ e. is words i (subst (Due words i) e says); always = comes words i answer status says }

-- a fault comes in the place of any answer
pub fault_in_place : (input : Option (List ℕ)) (P : List ℕ → Type 0) (answer status : Status) → (status ≡ answer → ⊥) → IsFault status → IfSome input (λ i. Exactly (P i) answer status)
fault_in_place None P answer status other fault = tt
fault_in_place (Some i) P answer status other fault = record { only = λ e. absurd (other e); always = λ c. inr fault }
