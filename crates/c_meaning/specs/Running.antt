-- What a program that runs stands for.
use Rattle.std.specs.Prelude.{ℕ, false, List, [], ◌∷◌, map, reverse, Option, Some, None, Result}
use Rattle.mpi_words.specs.declared.operation.End.{End}
use Rattle.c_kernel.specs.declared.program.Function.{Function}
use Rattle.c_kernel.specs.declared.program.Stmt.{Stmt}
use Rattle.c_meaning.specs.declared.level.Level.{Level}
use Rattle.c_meaning.specs.declared.level.Stage.{Stage}
use Rattle.c_meaning.specs.declared.frame.Frame.{Frame}
use Rattle.c_meaning.specs.declared.frame.Entry.{Entry}
use Rattle.c_meaning.specs.declared.running.Running.{Running}
use Rattle.c_meaning.specs.declared.running.Step.{Step}
use Rattle.c_meaning.specs.declared.running.Step.TheVariants.{Local, Wants, Ended}
use Rattle.c_meaning.specs.declared.running.Change.{Change}
use Rattle.c_meaning.specs.declared.running.Change.TheVariants as change
use Rattle.c_meaning.specs.Level.{block_at, items_of, level_items}
use Rattle.c_meaning.specs.State.{Item, Body, State, Outcome, Goes, Asks, Ends}
use Rattle.c_meaning.specs.State as state
use Rattle.c_meaning.specs.Step.{body_of, returned, with_ok}

-- what follows in a function
abbrev pub todo_of : List Stmt → List Level → List Item
todo_of body levels = items_of body levels []

-- what follows in a call, and the block that its last level stands in
abbrev pub todo : List Function → Frame → List Item
todo functions frame = todo_of (body_of functions frame.function) frame.levels.items

abbrev pub block_of : List Function → Frame → List Stmt
block_of functions frame = block_at (body_of functions frame.function) frame.levels.items

abbrev pub call_of : List Function → Frame → state.Call
call_of functions frame = record { todo = todo functions frame; variables = frame.variables }

-- the last is the newest, which comes first
abbrev pub calls_of : List Function → List Frame → List state.Call
calls_of functions frames = map (call_of functions) (reverse frames)

abbrev pub below : List Function → Running → List state.Call
below functions run = calls_of functions run.frames.items

abbrev pub state_of : List Function → Running → State
state_of functions run = record {
  calls = calls_of functions run.frames.items;
  memory = run.world.memory;
  seat = run.world.requests.seat;
  phase = run.world.requests.phase;
  printed = run.world.requests.printed;
  asked = run.world.requests.asked;
}

-- a call that begins
abbrev pub entered : List Function → Entry → state.Call
entered functions e = record { todo = Body (body_of functions e.function) ∷ []; variables = e.variables }

-- with an operation that waits for its reply
abbrev pub waiting : State → Outcome
waiting s = elim s.asked [ None ↦ Goes false s | Some q ↦ Asks q.operation s ]

-- what the answer of a step says, with the state after it
abbrev pub outcome_of : Step → State → Outcome
outcome_of (Local began) s = Goes began s
outcome_of Wants s = waiting s
outcome_of (Ended end) s = Ends end

-- the state with the newest call, which was taken from the others
abbrev pub state_with : List Function → Running → Frame → State
state_with functions run frame = record (state_of functions run) { calls = call_of functions frame ∷ below functions run }

-- what a change of the newest call says, with the state after it
abbrev pub outcome_by : List Function → Change → Running → Frame → Outcome
outcome_by functions (change.Goes began) run frame = Goes began (state_with functions run frame)
outcome_by functions change.Asks run frame = waiting (state_with functions run frame)
outcome_by functions (change.Ends end) run frame = Ends end
outcome_by functions (change.Enters e) run frame = Goes false (record (state_of functions run) { calls = entered functions e ∷ call_of functions frame ∷ below functions run })
outcome_by functions (change.Returns v) run frame = returned (state_of functions run) (call_of functions frame) (below functions run) v

-- what a result that comes back to a call says, with the state after it
abbrev pub goes_back : {A : Type 0} → List Function → Result A ℕ → Running → Frame → Outcome
goes_back functions did run frame = with_ok did (λ done. Goes false (state_with functions run frame))

-- what is said of a reply, with the state after it
abbrev pub answer_of : Option End → State → Outcome
answer_of None s = Goes false s
answer_of (Some end) s = Ends end

-- a step in the newest call, which was taken from the others
abbrev pub in_call : {A : Type 0} → (State → state.Call → List state.Call → A) → List Function → Running → Frame → A
in_call go functions run frame = go (state_of functions run) (call_of functions frame) (below functions run)

-- what follows in a call with one more level
abbrev pub standing : List Function → Frame → ℕ → Stage → List Item
standing functions frame next stage = level_items (block_of functions frame) next stage (todo functions frame)
