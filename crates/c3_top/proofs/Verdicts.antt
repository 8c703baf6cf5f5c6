-- A text is one thing alone.
use Rattle.std.proofs.Common.{◌≡◌, ℕ, List, refl, subst, sym, ◌∙◌, inl, inr}
use Rattle.c_tree.specs.declared.tree.Tree.{Tree}
use Rattle.c_tree.specs.declared.kind.Kind.{Kind}
use Rattle.c_kernel.specs.declared.program.Program.{Program}
use Rattle.c_grammar.specs.Text.{HasTree, Whole, Parses}
use Rattle.c_grammar.specs.Text as parsed
use Rattle.c_grammar.proofs.Text.{is_parsed_once}
use Rattle.c_check.specs.Check.{Verdict, Accepted, Refused, Judges}
use Rattle.c_check.specs.Program.{Accepts}
use Rattle.c_check.proofs.Verdicts.{one_verdict}
use Rattle.job_schedule.specs.Schedule.{Answer, Reads}
use Rattle.job_schedule.specs.Reading.{answer_of, pieces_of}
use Rattle.job_schedule.proofs.Verdicts as schedules
use Rattle.c3_top.specs.Text.{IsProgram, IsVerdict}

-- what is accepted is its text's program
pub is_program : (text : List ℕ) (tree : Tree) (p : Program) → HasTree text tree → Accepts tree p → IsProgram text p
is_program text tree p has accepts = record { tree = tree; has = has; accepted = accepts }

-- the text has a tree of that verdict
abbrev IsOfTree : List ℕ → Verdict → Type 0
IsOfTree text v = (tree : Tree) × HasTree text tree × Judges tree v

trees : (x y : Tree) → Whole x ≡ Whole y → x ≡ y
trees x y e = cc

one_tree : (text : List ℕ) (v w : Verdict) → IsOfTree text v → IsOfTree text w → v ≡ w
one_tree text v w h k =
    let same : h.0 ≡ k.0 = trees h.0 k.0 (is_parsed_once text (Whole h.0) (Whole k.0) h.1 k.1) in
    one_verdict k.0 v w (subst (λ t. Judges t v) same h.2) k.2

of_tree : (text : List ℕ) (p : Program) → IsProgram text p → IsOfTree text (Accepted p)
of_tree text p h = (h.tree, h.has, h.accepted)

unparsed : (text : List ℕ) (what : Kind) (at : ℕ) (tree : Tree) → Parses text (parsed.Refused what at) → HasTree text tree → ⊥
unparsed text what at tree h k = let e = is_parsed_once text (parsed.Refused what at) (Whole tree) h k in absurd cc

one_fault : (text : List ℕ) (a b : Kind) (m n : ℕ) → Parses text (parsed.Refused a m) → Parses text (parsed.Refused b n) → Refused a m ≡ Refused b n
one_fault text a b m n h k = let e = is_parsed_once text (parsed.Refused a m) (parsed.Refused b n) h k in cc

pub verdict_once : (text : List ℕ) (v w : Verdict) → IsVerdict text v → IsVerdict text w → v ≡ w
verdict_once text (Accepted p) (Accepted q) h k = one_tree text (Accepted p) (Accepted q) (of_tree text p h) (of_tree text q k)
verdict_once text (Accepted p) (Refused what at) h (inl k) = absurd (unparsed text what at h.tree k h.has)
verdict_once text (Accepted p) (Refused what at) h (inr k) = one_tree text (Accepted p) (Refused what at) (of_tree text p h) k
verdict_once text (Refused what at) (Accepted q) (inl h) k = absurd (unparsed text what at k.tree h k.has)
verdict_once text (Refused what at) (Accepted q) (inr h) k = one_tree text (Refused what at) (Accepted q) h (of_tree text q k)
verdict_once text (Refused what at) (Refused other place) (inl h) (inl k) = one_fault text what other at place h k
verdict_once text (Refused what at) (Refused other place) (inl h) (inr k) = absurd (unparsed text what at k.0 h k.1)
verdict_once text (Refused what at) (Refused other place) (inr h) (inl k) = absurd (unparsed text other place h.0 k h.1)
verdict_once text (Refused what at) (Refused other place) (inr h) (inr k) = one_tree text (Refused what at) (Refused other place) h k

-- and so is a schedule
pub read_once : (text : List ℕ) (a b : Answer) → Reads text a → Reads text b → a ≡ b
read_once text a b h k =
    let read : Answer = answer_of (pieces_of text) in
    sym (schedules.only text read a refl h) ∙ schedules.only text read b refl k
