-- Turns of events, one after the other.
use Rattle.std.proofs.Common.{◌≡◌, ℕ, ◌+◌, ◌<◌, List, [], ◌∷◌, ◌++◌, flat_map, take, get_or, length, append-nil, ap, sym, subst, ◌∙◌}
use Rattle.std.proofs.lemmas.Grind.{flat_map-append}
use Rattle.std.proofs.lemmas.List.{take_more}
use Rattle.c_kernel.specs.declared.program.Function.{Function}
use Rattle.job_core.specs.declared.event.Event.{Event}
use Rattle.plain_job.specs.Job.{Job}
use Rattle.plain_job.specs.Turn.{AreTurns}
use Rattle.c3_top.specs.Input.{turn_in}

-- the turns among these events lead from a job to another
abbrev pub Leads : List Function → Job → List Event → Job → Type 0
Leads functions start events after = AreTurns functions start (flat_map turn_in events) after

together : (functions : List Function) (a b c : Job) (ks ls : List ℕ) → AreTurns functions a ks b → AreTurns functions b ls c → AreTurns functions a (ks ++ ls) c
together functions a b c [] ls h k = subst (λ j. AreTurns functions j ls c) h k
together functions a b c (x ∷ ks) ls h k = (h.0, h.1, together functions h.0 b c ks ls h.2 k)

-- a further event
pub one_event_more : (functions same : List Function) (start now next : Job) (at : ℕ) (events : List Event) (d : Event) → at < length events → same ≡ functions → Leads functions start (take at events) now → AreTurns same now (turn_in (get_or events at d)) next
    → Leads functions start (take (at + 1) events) next
one_event_more functions same start now next at events d within f h k =
    let event : Event = get_or events at d in
    let more : flat_map turn_in (take (at + 1) events) ≡ flat_map turn_in (take at events) ++ turn_in event =
    ap (flat_map turn_in) (take_more events at d within) ∙ flat_map-append turn_in (take at events) (event ∷ []) ∙ ap (λ l. flat_map turn_in (take at events) ++ l) (append-nil (turn_in event)) in
    subst (λ ks. AreTurns functions start ks next) (sym more) (together functions start now next (flat_map turn_in (take at events)) (turn_in event) h (subst (λ fs. AreTurns fs now (turn_in event) next) f k))
