-- From the outcome of a descent to what is answered of the text.
use Rattle.std.proofs.Common.{◌≡◌, ◌≤◌, ◌<◌, ◌-◌, ℕ, Option, Some, None, List, ◌++◌, IfSome, IsSomeAnd, length, drop, refl, sym, ap, arith, ◌∙◌, length-append}
use Rattle.std.proofs.Math.Seq.{drop-append_seam}
use Rattle.c_tree.specs.declared.kind.Kind.TheVariants as kind
use Rattle.c_tree.specs.declared.token.Token.{Token}
use Rattle.c_tree.specs.declared.tree.Tree.{Tree}
use Rattle.c_tree.specs.Scan.{tokens_of}
use Rattle.c_tree.proofs.Whole.{tokens_scanned}
use Rattle.c_grammar.specs.Descent.{Reads, Read, Fault, Kind, Bad, Unfit}
use Rattle.c_grammar.specs.Meaning.{Forest, TooDeep, TooLarge}
use Rattle.c_grammar.specs.Program.{SyntaxAt}
use Rattle.c_grammar.specs.Text.{HasTree, HasFault, text_limit, place_of, names_any, Parsed, Parses}
use Rattle.c_grammar.specs.Trees.{parse_tree}
use Rattle.c_grammar.proofs.Local.{local}
use Rattle.c_grammar.proofs.Text.{is_parsed_once}
use Rattle.c_grammar.proofs.Whole.{start, bad_is, unfit_is, rest_is, tree_is}

-- the descent stops at a fault, with n tokens left
abbrev pub Stops : Kind → List Token → ℕ → Type 0
Stops k ts n = (zs : List Token) × (length zs ≡ n) × Reads 0 start ts (Fault k zs)

pub stops_within : (k : Kind) (ts : List Token) (n : ℕ) → Stops k ts n → n ≤ length ts
stops_within k ts n h =
    let x = local 0 start ts (Fault k h.0) h.2 in
    omega (arith, h.1, ap length x.all, length-append x.front h.0)

last_of : (ts front rest : List Token) (n : ℕ) → ts ≡ front ++ rest → length rest ≡ n → drop (length ts - n) ts ≡ rest
last_of ts front rest n e h =
    let m : length ts - n ≡ length front = omega (arith, ap length e, length-append front rest) in
    ap (λ (k : ℕ). drop k ts) m ∙ (ap (drop (length front)) e ∙ drop-append_seam front rest)

-- the text, its tokens, and the place of the last n of them
abbrev At : List ℕ → List Token → ℕ → ℕ → Type 0
At text ts n at = (length text ≤ text_limit) × (ts ≡ tokens_of text) × (at ≡ place_of text (drop (length ts - n) ts))

at_last : (text : List ℕ) (ts front rest : List Token) (n m at : ℕ) → At text ts n at → ts ≡ front ++ rest → length rest ≡ m → m ≡ n → at ≡ place_of text rest
at_last text ts front rest n m at p e h q = p.2 ∙ ap (place_of text) (last_of ts front rest n e (h ∙ q))

wrong_at : (text : List ℕ) (ts : List Token) (n m at : ℕ) → At text ts n at → SyntaxAt ts m → m ≡ n → HasFault text kind.Syntax at
wrong_at text ts n m at p s q = record { short = p.0; tokens = ts; read = tokens_scanned text ts (sym p.1); front = s.front; rest = s.rest; all = s.all; wrong = (s.so_far, s.no_further); place = at_last text ts s.front s.rest n m at p s.all s.place q }

pub syntax : (text : List ℕ) (ts : List Token) (n at : ℕ) → length text ≤ text_limit → ts ≡ tokens_of text → Stops Bad ts n → at ≡ place_of text (drop (length ts - n) ts) → HasFault text kind.Syntax at
syntax text ts n at l e h p = wrong_at text ts n (length h.0) at (l, e, p) (bad_is ts h.0 h.2) h.1

pub too_deep : (text : List ℕ) (ts : List Token) (n at : ℕ) → length text ≤ text_limit → ts ≡ tokens_of text → Stops (Unfit TooDeep) ts n → at ≡ place_of text (drop (length ts - n) ts) → HasFault text kind.TooDeep at
too_deep text ts n at l e h p =
    let u = unfit_is TooDeep ts h.0 h.2 in
    record { short = l; tokens = ts; read = tokens_scanned text ts (sym e); front = u.front; rest = u.rest; all = u.all; wrong = u.here; place = at_last text ts u.front u.rest n (length h.0) at (l, e, p) u.all u.place h.1 }

pub too_large : (text : List ℕ) (ts : List Token) (n at : ℕ) → length text ≤ text_limit → ts ≡ tokens_of text → Stops (Unfit TooLarge) ts n → at ≡ place_of text (drop (length ts - n) ts) → HasFault text kind.NumberRange at
too_large text ts n at l e h p =
    let u = unfit_is TooLarge ts h.0 h.2 in
    record { short = l; tokens = ts; read = tokens_scanned text ts (sym e); front = u.front; rest = u.rest; all = u.all; wrong = u.here; place = at_last text ts u.front u.rest n (length h.0) at (l, e, p) u.all u.place h.1 }

-- a program is read, and tokens are left
pub trailing : (text : List ℕ) (ts : List Token) (f : Forest) (zs : List Token) (at : ℕ) → length text ≤ text_limit → ts ≡ tokens_of text → Reads 0 start ts (Read f zs) → 0 < length zs → at ≡ place_of text zs → HasFault text kind.Syntax at
trailing text ts f zs at l e h some p =
    let x = local 0 start ts (Read f zs) h in
    wrong_at text ts (length zs) (length zs) at (l, e, p ∙ sym (ap (place_of text) (last_of ts x.front zs (length zs) x.all refl))) (rest_is ts f zs some h) refl

pub tree : (text : List ℕ) (ts : List Token) (t : Tree) (zs : List Token) → length text ≤ text_limit → ts ≡ tokens_of text → Reads 0 start ts (Read (parse_tree t.items) zs) → length zs ≡ 0 → t.length ≡ length text → t.any_source ≡ names_any ts → HasTree text t
tree text ts t zs l e h none long any = record { short = l; tokens = ts; read = tokens_scanned text ts (sym e); spelled = tree_is ts (parse_tree t.items) zs none h; length_is = long; any_source_is = any }

-- what is right is all that is
pub only : (text : List ℕ) (o : Option Parsed) → IfSome o (Parses text) → (p : Parsed) → Parses text p → IfSome o (λ q. q ≡ p)
only text None h p k = tt
only text (Some q) h p k = is_parsed_once text q p h k

-- what is said
pub told : (o : Option Parsed) (P : Parsed → Type 0) → IsSomeAnd o P → IfSome o P
told None P h = tt
told (Some p) P h = h
