-- The machine with the places of its objects: it gives NULL exactly where no place fits.
use Rattle.std.specs.Prelude.{◌≡◌, ℕ, ◌+◌, ◌-◌, nat_eq, nat_lt, if◌then◌else◌, Bool, true, false, List, [], ◌∷◌, ◌++◌, length, take, Option, Some, None, Ok, Err}
use Rattle.mpi_words.specs.declared.operation.Op.{Op}
use Rattle.mpi_words.specs.declared.operation.Reply.{Reply}
use Rattle.c_memory.specs.Memory.{Memory, used, cells_asked}
use Rattle.c_values.specs.Value.{value_of}
use Rattle.flat_code.specs.declared.code.FlatFunction.{FlatFunction}
use Rattle.flat_code.specs.declared.code.Instr.{Instr}
use Rattle.flat_code.specs.declared.code.Instr.TheVariants.{Call, Malloc, Free, Return}
use Rattle.flat_code.specs.Machine.{Frame, Machine, Goes, Asks, lengths_in, instr_at, step, answered}

-- where an object stands
pub record Block : Type 0 where
  pub serial : ℕ
  pub place : ℕ
  pub length : ℕ

-- the lowest place, from a first one on, where so many cells fit among 65,536
abbrev pub first_fit : List Block → ℕ → ℕ → Option ℕ
first_fit [] from n = if nat_lt 65536 (from + n) then None else Some from
first_fit (b ∷ bs) from n = if nat_lt b.place (from + n) then first_fit bs (b.place + b.length) n else Some from

abbrev pub insert_block : Block → List Block → List Block
insert_block b [] = b ∷ []
insert_block b (c ∷ cs) = if nat_lt b.place c.place then b ∷ c ∷ cs else c ∷ insert_block b cs

abbrev pub without_block : List Block → ℕ → List Block
without_block [] serial = []
without_block (b ∷ bs) serial = if nat_eq b.serial serial then bs else b ∷ without_block bs serial

-- the variables from the bottom, and the heap by ascending places
pub record Placed : Type 0 where
  pub machine : Machine
  pub stack : List Block
  pub heap : List Block

-- malloc's choice
abbrev pub none_fits : List Block → Memory → ℕ → Bool
none_fits heap m n = elim (first_fit heap 0 n) [ None ↦ true | Some at ↦ false ]

-- a frame's own cell, and each variable after the one before
abbrev pub stacked : ℕ → ℕ → List ℕ → List Block
stacked serial at [] = []
stacked serial at (n ∷ ns) = record { serial = serial; place = at; length = n } ∷ stacked (serial + 1) (at + n) ns

abbrev pub stack_by : List FlatFunction → Memory → Frame → List Block → Option Instr → List Block
stack_by functions m top stack (Some (Call into g arguments)) = stack ++ stacked m.next (used m + 1) (lengths_in functions g)
stack_by functions m top stack (Some (Return e)) = take (length stack - top.variables.count) stack
stack_by functions m top stack other = stack

abbrev pub placed_at : ℕ → Option ℕ → List Block → Option ℕ → List Block
placed_at serial None heap at = heap
placed_at serial (Some n) heap None = heap
placed_at serial (Some n) heap (Some at) = insert_block (record { serial = serial; place = at; length = n }) heap

abbrev pub allocated : List Block → ℕ → Option ℕ → List Block
allocated heap serial None = heap
allocated heap serial (Some n) = placed_at serial (Some n) heap (first_fit heap 0 n)

abbrev pub heap_by : Memory → Frame → List Block → Option Instr → List Block
heap_by m top heap (Some (Malloc place bytes each)) = elim (value_of bytes top.variables m) [ Err code ↦ heap | Ok c ↦ allocated heap m.next (cells_asked c.word each) ]
heap_by m top heap (Some (Free e)) = elim (value_of e top.variables m) [ Err code ↦ heap | Ok c ↦ without_block heap c.serial ]
heap_by m top heap other = heap

abbrev pub stack_in : List FlatFunction → Placed → List Frame → List Block
stack_in functions p [] = p.stack
stack_in functions p (top ∷ below) = stack_by functions p.machine.memory top p.stack (instr_at functions top)

abbrev pub heap_in : List FlatFunction → Placed → List Frame → List Block
heap_in functions p [] = p.heap
heap_in functions p (top ∷ below) = heap_by p.machine.memory top p.heap (instr_at functions top)

-- with the machine after an instruction
abbrev pub after : List FlatFunction → Placed → Machine → Placed
after functions p m = record { machine = m; stack = stack_in functions p p.machine.frames; heap = heap_in functions p p.machine.frames }

-- its state after each instruction is a function of the state before it and the reply
pub data PlacedRan (code : List FlatFunction) : Placed → List (Op × Reply) → Placed → Type 0 where
  stayed : (p : Placed) → PlacedRan code p [] p
  went : (p q : Placed) (mid : Machine) (asked : List (Op × Reply)) (began : Bool) → step code (none_fits p.heap) p.machine ≡ Goes began mid → PlacedRan code (after code p mid) asked q → PlacedRan code p asked q
  did : (p q : Placed) (mid next : Machine) (asked : List (Op × Reply)) (o : Op) (reply : Reply) (began : Bool) → step code (none_fits p.heap) p.machine ≡ Asks o mid → answered mid reply ≡ Goes began next →
      PlacedRan code (record (after code p mid) { machine = next }) asked q → PlacedRan code p ((o, reply) ∷ asked) q
