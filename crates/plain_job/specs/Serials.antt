-- The serials that a rank of a regular program uses: at most 8,192 for each statement that begins.
use Rattle.std.specs.Prelude.{◌≡◌, ℕ, ◌+◌, ◌*◌, ◌^◌, ◌<◌, ◌≤◌, true, List, [], ◌∷◌, length, ⊤}
use Rattle.std.specs.List.{list_all, AllByRecursion}
use Rattle.c_kernel.specs.Regular.{is_regular}
use Rattle.c_meaning.specs.State.{Item, Body, Rest, Begun, Acting, Awaiting, Testing, Stepping, State, Call}
use Rattle.plain_job.specs.Job.{Standing, Runs, Ended, Rank}

-- ---- calls in a regular program, whose frames fit the stack

-- what follows in a function with so many variables
abbrev pub IsRegularItem : ℕ → Item → Type 0
IsRegularItem n (Body ss) = list_all (is_regular n) ss ≡ true
IsRegularItem n (Rest ss) = list_all (is_regular n) ss ≡ true
IsRegularItem n (Begun x) = is_regular n x ≡ true
IsRegularItem n (Acting actions) = ⊤
IsRegularItem n (Awaiting t) = ⊤
IsRegularItem n (Testing x) = is_regular n x ≡ true
IsRegularItem n (Stepping x) = is_regular n x ≡ true

abbrev pub AreRegularItems : ℕ → List Item → Type 0
AreRegularItems n todo = AllByRecursion (IsRegularItem n) todo

pub record Fits (c : Call) : Type 0 where
  pub room : c.variables.count < 8192
  pub regular : AreRegularItems c.variables.count c.todo

abbrev pub Fit : List Call → Type 0
Fit calls = AllByRecursion Fits calls

-- ---- serials

-- at most how many actions an item does before another statement begins. Each uses a serial or begins a call
abbrev pub actions_of : Item → ℕ
actions_of (Body ss) = 0
actions_of (Rest ss) = 0
actions_of (Begun x) = 8191
actions_of (Acting actions) = length actions
actions_of (Awaiting t) = 0
actions_of (Testing x) = 0
actions_of (Stepping x) = 1

abbrev pub pending : List Item → ℕ
pending [] = 0
pending (i ∷ todo) = actions_of i + pending todo

abbrev pub pending_in : List Call → ℕ
pending_in [] = 0
pending_in (c ∷ calls) = pending c.todo + pending_in calls

-- what is kept for the next statement: nothing where a body begins, whose variables have used it, and one less where any other begins, for the last clause of a for
abbrev pub kept : List Item → ℕ
kept [] = 8192
kept (Body ss ∷ todo) = 0
kept (Rest [] ∷ todo) = 8192
kept (Rest (x ∷ xs) ∷ todo) = 8191
kept (Begun x ∷ todo) = 8192
kept (Acting actions ∷ todo) = 8192
kept (Awaiting t ∷ todo) = 8192
kept (Testing x ∷ todo) = 8192
kept (Stepping x ∷ todo) = 8192

abbrev pub kept_in : List Call → ℕ
kept_in [] = 8192
kept_in (c ∷ calls) = kept c.todo

-- a bound of the next serial: a statement that begins raises it by at most 8,192, and nothing else does
abbrev pub reserved : State → ℕ
reserved s = s.memory.next + pending_in s.calls + kept_in s.calls

pub record IsWithin (limit : ℕ) (s : State) : Type 0 where
  pub fit : Fit s.calls
  pub serials : reserved s ≤ limit

-- the serials of a rank stay within a limit until another statement begins
abbrev pub StaysWithin : ℕ → Standing → Type 0
StaysWithin limit (Runs s) = IsWithin limit s
StaysWithin limit (Ended e) = ⊤

-- a rank has room for an operation and the serials of so many statements that begin
pub record HasRoom (n : ℕ) (r : Rank) : Type 0 where
  pub limit : ℕ
  pub serials : StaysWithin limit r.standing
  pub room : limit + n * 8192 < 2 ^ 62
  pub few : r.ops < 2 ^ 62

-- how many operations it has completed after so many turns of the job, and which serials it uses
pub record IsAfter (turns : ℕ) (r : Rank) : Type 0 where
  pub few : r.ops ≤ turns
  pub serials : StaysWithin (8193 + turns * 2 ^ 25) r.standing
