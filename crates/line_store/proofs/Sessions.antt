-- A session's calls, one after another.
use Rattle.std.proofs.Common.{⊎_elim, ℕ, refl, sym, ◌∙◌, subst}
use Rattle.std.specs.Prelude.{Option}
use Rattle.disk_model.specs.Disk.{View, IsView}
use Rattle.disk_model.specs.Runs.{LeavesOnly}
use Rattle.disk_model.proofs.Moments.{weaker, and_then, left_now, started}
use Rattle.line_store.specs.Reading.{Reading, reading}
use Rattle.line_store.specs.Store.{ReadsAsLeft, ReadsAsLeftOr}

-- What holds of all readings at each moment so far still does after a call, if it holds of the reading that the call makes.
pub goes-on : (Q : Option Reading → Type 0) (made : Option Reading) (first old new : View) {n : ℕ} → IsView n old → LeavesOnly first old (λ c. Q (reading c))
    → LeavesOnly old new (ReadsAsLeftOr old made) → Q made → LeavesOnly first new (λ c. Q (reading c))
goes-on Q made first old new is so_far call holds = and_then first old new (λ c. Q (reading c)) so_far
    (weaker old new (ReadsAsLeftOr old made) (λ c. Q (reading c)) (λ c reads. ⊎_elim
    (λ left. subst Q (sym left.2) (left_now first old (λ c. Q (reading c)) is so_far left.0 left.1))
    (λ same. subst Q (sym same) holds) reads) call)

-- a call that makes no new reading
pub stays : (Q : Option Reading → Type 0) (first old new : View) {n : ℕ} → IsView n old → LeavesOnly first old (λ c. Q (reading c))
    → LeavesOnly old new (ReadsAsLeft old) → LeavesOnly first new (λ c. Q (reading c))
stays Q first old new is so_far call = and_then first old new (λ c. Q (reading c)) so_far
    (weaker old new (ReadsAsLeft old) (λ c. Q (reading c)) (λ c left. subst Q (sym left.2) (left_now first old (λ c. Q (reading c)) is so_far left.0 left.1)) call)

-- calls that make no new reading, one after another
pub reads-then : (first mid new : View) {n : ℕ} → IsView n mid → LeavesOnly first mid (ReadsAsLeft first) → LeavesOnly mid new (ReadsAsLeft mid) → LeavesOnly first new (ReadsAsLeft first)
reads-then first mid new is so_far call = and_then first mid new (ReadsAsLeft first) so_far (weaker mid new (ReadsAsLeft mid) (ReadsAsLeft first) (λ c reads.
    let was = left_now first mid (ReadsAsLeft first) is so_far reads.0 reads.1 in
    (was.0, was.1, reads.2 ∙ was.2)) call)

pub reads-none : (v : View) {n : ℕ} → IsView n v → LeavesOnly v v (ReadsAsLeft v)
reads-none v is = started v (ReadsAsLeft v) is (λ c left. (c, left, refl))
