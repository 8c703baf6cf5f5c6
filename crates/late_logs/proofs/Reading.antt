-- What was read is the only log with this text.
use Rattle.std.proofs.Common.{ℕ, List, Result, Ok, Err, subst}
use Rattle.file_fields.specs.Forms.{Form}
use Rattle.file_fields.proofs.Laws.{AreBytes, IsForm, IsWhole, whole-only}
use Rattle.late_logs.specs.declared.whole.NotLog.{NotLog}
use Rattle.late_logs.specs.declared.whole.NotLog.TheVariants.{Wrong, NoMemory}
use Rattle.late_logs.specs.Answers.{IsRead, IsOnly}

pub only-from : {A : Type 0} (F : Form A) → IsForm F → (bytes : List ℕ) → AreBytes bytes → (r : Result A NotLog) → IsRead F bytes r → IsOnly F bytes r
only-from {A = A} F law bytes are (Ok x) is = subst (λ (w : Result A ℕ). IsWhole F bytes w) is (whole-only F law bytes are)
only-from {A = A} F law bytes are (Err (Wrong at)) is = subst (λ (w : Result A ℕ). IsWhole F bytes w) is (whole-only F law bytes are)
only-from F law bytes are (Err NoMemory) is = tt
