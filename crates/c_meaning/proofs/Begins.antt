-- A statement begins.
use Rattle.std.proofs.Common.{◌≡◌, ℕ, zero, suc, ◌<◌, ◌≤◌, ◌+◌, ◌-◌, Bool, true, false, nat_lt, List, [], ◌∷◌, length, drop, get_or, if◌then◌else◌, Result, Ok, Err, refl, ap, sym, subst, ◌∙◌, arith, add-one}
use Rattle.std.proofs.lemmas.Bool.Decides.{nat_tests}
use Rattle.std.specs.Prelude.{slice_get}
use Rattle.c3_base.specs.declared.cell.Cell.{Cell}
use Rattle.c_kernel.specs.declared.program.Arm.{Arm}
use Rattle.c_kernel.specs.declared.program.Function.{Function}
use Rattle.c_kernel.specs.declared.program.Stmt.{Stmt}
use Rattle.c_meaning.specs.declared.level.Stage.TheVariants as stage
use Rattle.c_values.specs.declared.value.Variables.{Variables}
use Rattle.c_memory.specs.Memory.{Memory}
use Rattle.c_values.specs.Value.{Found, value_of, is_false}
use Rattle.c_meaning.specs.State.{Item, Rest, State, Goes}
use Rattle.c_meaning.specs.State as state
use Rattle.c_meaning.specs.Level.{level_items, statement_before, or_break, branch_of}
use Rattle.c_meaning.specs.Step.{goes_on, begins_first, branch}
use Rattle.c_meaning.proofs.Same.{called}

in_block : (block : List Stmt) (next : ℕ) (todo : List Item) → next < length block → begins_first (Rest (drop next block) ∷ todo) ≡ true
in_block [] next todo h = absurd (omega arith)
in_block (x ∷ block) zero todo h = refl
in_block (x ∷ block) (suc next) todo h = in_block block next todo (omega arith)

past_block : (block : List Stmt) (next : ℕ) (todo : List Item) → length block ≤ next → begins_first (Rest (drop next block) ∷ todo) ≡ false
past_block [] zero todo h = refl
past_block [] (suc next) todo h = refl
past_block (x ∷ block) zero todo h = absurd (omega arith)
past_block (x ∷ block) (suc next) todo h = past_block block next todo (omega arith)

rest_by : (block : List Stmt) (next : ℕ) (todo : List Item) (t : Bool) → nat_lt next (length block) ≡ t → begins_first (Rest (drop next block) ∷ todo) ≡ t
rest_by block next todo true e = in_block block next todo (grind (arith, nat_tests, e))
rest_by block next todo false e = past_block block next todo (grind (arith, nat_tests, e))

pub rest_begins : (block : List Stmt) (next : ℕ) (todo : List Item) → begins_first (Rest (drop next block) ∷ todo) ≡ nat_lt next (length block)
rest_begins block next todo = rest_by block next todo (nat_lt next (length block)) refl

first_of : (block : List Stmt) (next : ℕ) → next < length block → drop next block ≡ or_break (slice_get block next) ∷ drop (suc next) block
first_of [] next h = absurd (omega arith)
first_of (x ∷ block) zero h = refl
first_of (x ∷ block) (suc next) h = first_of block next (omega arith)

first_left : (block : List Stmt) (next : ℕ) → next < length block → drop next block ≡ statement_before block (suc next) ∷ drop (suc next) block
first_left block next h =
    let e : next ≡ suc next - 1 = omega arith in
    first_of block next h ∙ ap (λ n. or_break (slice_get block n) ∷ drop (suc next) block) e

pub begun : (functions : List Function) (refuses : Memory → ℕ → Bool) (s : State) (top : state.Call) (below : List state.Call) (block : List Stmt) (next : ℕ) (todo items : List Item) → next < length block → items ≡ level_items block (next + 1) stage.Begun todo →
    Goes true (record s { calls = called top items ∷ below }) ≡ goes_on functions refuses s top below (Rest (drop next block) ∷ todo)
begun functions refuses s top below block next todo items h e =
    ap (λ t. Goes true (record s { calls = called top t ∷ below })) (e ∙ ap (λ n. level_items block n stage.Begun todo) (add-one next))
    ∙ sym (ap (λ ss. goes_on functions refuses s top below (Rest ss ∷ todo)) (first_left block next h))

-- ---- the arms of an if

abbrev taken : Found → List Stmt → Result (List Stmt) ℕ → Result (List Stmt) ℕ
taken r body rest = elim r [ Err code ↦ Err code | Ok d ↦ if is_false d then rest else Ok body ]

took : (r : Found) (c : Cell) (body : List Stmt) (rest : Result (List Stmt) ℕ) → r ≡ Ok c → is_false c ≡ false → taken r body rest ≡ Ok body
took r c body rest e z = subst (λ q. taken q body rest ≡ Ok body) (sym e) (rw z refl)

pub arm_taken : (arms : List (Arm Stmt)) (i : ℕ) (d : Arm Stmt) (otherwise : List Stmt) (v : Variables) (m : Memory) (c : Cell) → i < length arms → value_of (get_or arms i d).test v m ≡ Ok c → is_false c ≡ false → branch (drop i arms) otherwise v m ≡ Ok (branch_of arms otherwise i)
arm_taken [] i d otherwise v m c h e z = absurd (omega arith)
arm_taken (a ∷ arms) zero d otherwise v m c h e z = took (value_of a.test v m) c a.body (branch arms otherwise v m) e z
arm_taken (a ∷ arms) (suc i) d otherwise v m c h e z = arm_taken arms i d otherwise v m c (omega arith) e z

pub none_taken : (arms : List (Arm Stmt)) (i : ℕ) (otherwise : List Stmt) (v : Variables) (m : Memory) → length arms ≤ i → branch (drop i arms) otherwise v m ≡ Ok (branch_of arms otherwise i)
none_taken [] zero otherwise v m h = refl
none_taken [] (suc i) otherwise v m h = refl
none_taken (a ∷ arms) zero otherwise v m h = absurd (omega arith)
none_taken (a ∷ arms) (suc i) otherwise v m h = none_taken arms i otherwise v m (omega arith)
