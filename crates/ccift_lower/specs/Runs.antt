-- Runs of a program and of a machine: the operations that they ask for, each with its reply.
use Rattle.std.specs.Prelude.{◌≡◌, ℕ, Bool, List, [], ◌∷◌}
use Rattle.mpi_words.specs.declared.operation.Op.{Op}
use Rattle.mpi_words.specs.declared.operation.End.{End}
use Rattle.mpi_words.specs.declared.operation.Reply.{Reply}
use Rattle.c_kernel.specs.declared.program.Function.{Function}
use Rattle.c_memory.specs.Memory.{Memory}
use Rattle.c_meaning.specs.State.{State}
use Rattle.c_meaning.specs.State as state
use Rattle.c_meaning.specs.Step as source
use Rattle.flat_code.specs.declared.code.FlatFunction.{FlatFunction}
use Rattle.flat_code.specs.Machine.{Machine, Goes, Asks, Ends, step, answered}

pub data Run (functions : List Function) : State → List (Op × Reply) → State → Type 0 where
  stays : (s : State) → Run functions s [] s
  goes : (s mid t : State) (asked : List (Op × Reply)) (refuses : Memory → ℕ → Bool) (began : Bool) → source.step functions refuses s ≡ state.Goes began mid → Run functions mid asked t → Run functions s asked t
  asks : (s mid next t : State) (asked : List (Op × Reply)) (refuses : Memory → ℕ → Bool) (o : Op) (reply : Reply) (began : Bool) →
      source.step functions refuses s ≡ state.Asks o mid → source.answered mid reply ≡ state.Goes began next → Run functions next asked t → Run functions s ((o, reply) ∷ asked) t

pub data Ran (code : List FlatFunction) : Machine → List (Op × Reply) → Machine → Type 0 where
  stayed : (m : Machine) → Ran code m [] m
  went : (m mid n : Machine) (asked : List (Op × Reply)) (refuses : Memory → ℕ → Bool) (began : Bool) → step code refuses m ≡ Goes began mid → Ran code mid asked n → Ran code m asked n
  did : (m mid next n : Machine) (asked : List (Op × Reply)) (refuses : Memory → ℕ → Bool) (o : Op) (reply : Reply) (began : Bool) →
      step code refuses m ≡ Asks o mid → answered mid reply ≡ Goes began next → Ran code next asked n → Ran code m ((o, reply) ∷ asked) n

-- how they end: by a step, or by a reply
pub data Finishes (functions : List Function) : State → List (Op × Reply) → End → Type 0 where
  stops : (s : State) (refuses : Memory → ℕ → Bool) (e : End) → source.step functions refuses s ≡ state.Ends e → Finishes functions s [] e
  by_reply : (s mid : State) (refuses : Memory → ℕ → Bool) (o : Op) (reply : Reply) (e : End) → source.step functions refuses s ≡ state.Asks o mid → source.answered mid reply ≡ state.Ends e → Finishes functions s ((o, reply) ∷ []) e

pub data Finished (code : List FlatFunction) : Machine → List (Op × Reply) → End → Type 0 where
  stopped : (m : Machine) (refuses : Memory → ℕ → Bool) (e : End) → step code refuses m ≡ Ends e → Finished code m [] e
  refused : (m mid : Machine) (refuses : Memory → ℕ → Bool) (o : Op) (reply : Reply) (e : End) → step code refuses m ≡ Asks o mid → answered mid reply ≡ Ends e → Finished code m ((o, reply) ∷ []) e
