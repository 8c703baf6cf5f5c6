-- A machine that runs, by its parts.
use Rattle.std.proofs.Common.{◌≡◌, ℕ, List, Option, ap, ◌∙◌}
use Rattle.mpi_words.specs.declared.operation.End.{End}
use Rattle.flat_code.specs.declared.code.FlatFunction.{FlatFunction}
use Rattle.flat_code.specs.Machine.{Machine}
use Rattle.flat_code.specs.Placed.{Block}
use Rattle.rank_machine.specs.Placing.{Placing, Standing}

abbrev placing : Machine → List Block → List Block → Placing
placing m stack heap = record { machine = m; stack = stack; heap = heap }

pub same_placing : (p q : Placing) → p.machine ≡ q.machine → p.stack ≡ q.stack → p.heap ≡ q.heap → p ≡ q
same_placing p q m s h =
    ap (λ x. placing x p.stack p.heap) m ∙ ap (λ x. placing q.machine x p.heap) s ∙ ap (λ x. placing q.machine q.stack x) h

abbrev standing : List FlatFunction → Placing → Option End → Option (List ℕ) → ℕ → Standing
standing functions p end left begun = record { functions = functions; placing = p; end = end; left = left; begun = begun }

pub same_standing : (a b : Standing) → a.functions ≡ b.functions → a.placing ≡ b.placing → a.end ≡ b.end → a.left ≡ b.left → a.begun ≡ b.begun → a ≡ b
same_standing a b f p e l n =
    ap (λ x. standing x a.placing a.end a.left a.begun) f
    ∙ ap (λ x. standing b.functions x a.end a.left a.begun) p
    ∙ ap (λ x. standing b.functions b.placing x a.left a.begun) e
    ∙ ap (λ x. standing b.functions b.placing b.end x a.begun) l
    ∙ ap (λ x. standing b.functions b.placing b.end b.left x) n
