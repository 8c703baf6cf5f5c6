-- The value of an expression, by those of its parts.
use Rattle.std.proofs.Common.{◌≡◌, List, [], ◌∷◌, Ok, refl, ap, sym, ◌∙◌, map}
use Rattle.c3_base.specs.declared.cell.Cell.{Cell}
use Rattle.c_kernel.specs.declared.program.Expr.{Expr}
use Rattle.c_kernel.specs.declared.program.Expr.TheFolds.{fold-roll-Expr, map-Expr}
use Rattle.c_kernel.specs.declared.program.Expr.TheOpen.{Expr-F}
use Rattle.c_kernel.specs.declared.program.Expr.TheVariants as expr
use Rattle.c_kernel.specs.declared.program.Expr.TheViews.{roll-Expr}
use Rattle.c_kernel.specs.declared.program.Link.{Link}
use Rattle.c_kernel.specs.declared.program.Place.{Place}
use Rattle.c_kernel.specs.declared.program.Root.{Root}
use Rattle.c_kernel.specs.declared.program.Root.TheVariants as root
use Rattle.c_kernel.specs.declared.program.Scalar.{Scalar}
use Rattle.c_kernel.specs.declared.program.Selection.{Selection}
use Rattle.c_kernel.specs.declared.program.Selection.TheVariants as selection
use Rattle.c_values.specs.declared.value.Variables.{Variables}
use Rattle.c_memory.specs.Memory.{Memory, pointing}
use Rattle.c_values.specs.Value.{Found, Meaning, then_with, load_of, root_meaning, step_meaning, place_meaning, place_of, spot_in, meaning_node, value_of, link_of, chained}

pub value_roll : (x : Expr-F Expr) (v : Variables) (m : Memory) → value_of (roll-Expr x) v m ≡ meaning_node (map-Expr Expr Meaning value_of x) v m
value_roll x v m = ap (λ (f : Meaning). f v m) (fold-roll-Expr Meaning meaning_node x)

value_chain : (first : Expr) (links : List (Link Expr)) (v : Variables) (m : Memory) → value_of (expr.Chain first links) v m ≡ chained (value_of first v m) (map link_of links) v m
value_chain first links v m = ap (λ (x : Expr). value_of x v m) (sym (expr.rolls-Chain first links)) ∙ value_roll (Expr-F.Chain first links) v m

-- a chain whose first operand has a value
pub goes_on : (e first part : Expr) (links parts : List (Link Expr)) (v : Variables) (m : Memory) (a : Cell) (r : Found) → e ≡ expr.Chain first links → part ≡ first → parts ≡ links → Ok a ≡ value_of part v m → r ≡ chained (Ok a) (map link_of parts) v m → r ≡ value_of e v m
goes_on e first part links parts v m a r is same those found goes =
    goes
    ∙ ap (λ (ls : List (Link Expr)). chained (Ok a) (map link_of ls) v m) those
    ∙ ap (λ (f : Found). chained f (map link_of links) v m) (found ∙ ap (λ (x : Expr). value_of x v m) same)
    ∙ sym (ap (λ (x : Expr). value_of x v m) is ∙ value_chain first links v m)

-- ---- places, whose parts are read as their values

place_in : Expr-F Meaning → Place Meaning → Place Meaning
place_in (Expr-F.Address p) other = p
place_in x other = other

-- the place of a node that is read so
abbrev mapped : Place Expr → Place Meaning
mapped p = place_in (map-Expr Expr Meaning value_of (Expr-F.Address p)) (place_meaning p)

same_root : (r : Root Expr) (steps : List (Selection Expr)) → (mapped (record { root = r; steps = steps })).root ≡ root_meaning r
unfolding place_in
same_root (root.Variable k) steps = refl
same_root (root.Target e) steps = refl

same_steps : (r : Root Expr) (steps : List (Selection Expr)) → (mapped (record { root = r; steps = steps })).steps ≡ map step_meaning steps
unfolding place_in
same_steps r [] = refl
same_steps r (selection.Element index cells ∷ steps) = ap (λ (rest : List (Selection Meaning)). selection.Element (value_of index) cells ∷ rest) (same_steps r steps)
same_steps r (selection.Member structure member place ∷ steps) = ap (λ (rest : List (Selection Meaning)). selection.Member structure member place ∷ rest) (same_steps r steps)
same_steps r (selection.Follow ∷ steps) = ap (λ (rest : List (Selection Meaning)). selection.Follow ∷ rest) (same_steps r steps)
same_steps r (selection.Checked ∷ steps) = ap (λ (rest : List (Selection Meaning)). selection.Checked ∷ rest) (same_steps r steps)

same_place : (p : Place Expr) → mapped p ≡ place_meaning p
same_place p =
    ap (λ (r : Root Meaning). record { root = r; steps = (mapped p).steps }) (same_root p.root p.steps)
    ∙ ap (λ (steps : List (Selection Meaning)). record { root = root_meaning p.root; steps = steps }) (same_steps p.root p.steps)

pub load_roll : (p : Place Expr) (kind : Scalar) (v : Variables) (m : Memory) → value_of (roll-Expr (Expr-F.Load p kind)) v m ≡ then_with (place_of p v m) (load_of m kind)
unfolding place_in
load_roll p kind v m = value_roll (Expr-F.Load p kind) v m ∙ ap (λ (q : Place Meaning). then_with (spot_in q v m) (load_of m kind)) (same_place p)

pub value_load : (p : Place Expr) (kind : Scalar) (v : Variables) (m : Memory) → value_of (expr.Load p kind) v m ≡ then_with (place_of p v m) (load_of m kind)
value_load p kind v m = ap (λ (x : Expr). value_of x v m) (sym (expr.rolls-Load p kind)) ∙ load_roll p kind v m

pub address_roll : (p : Place Expr) (v : Variables) (m : Memory) → value_of (roll-Expr (Expr-F.Address p)) v m ≡ then_with (place_of p v m) (pointing m)
unfolding place_in
address_roll p v m = value_roll (Expr-F.Address p) v m ∙ ap (λ (q : Place Meaning). then_with (spot_in q v m) (pointing m)) (same_place p)

pub value_address : (p : Place Expr) (v : Variables) (m : Memory) → value_of (expr.Address p) v m ≡ then_with (place_of p v m) (pointing m)
value_address p v m = ap (λ (x : Expr). value_of x v m) (sym (expr.rolls-Address p)) ∙ address_roll p v m
