-- Descriptors of a call's variables.
use Rattle.std.proofs.Common.{◌≡◌, ℕ, zero, suc, ◌+◌, ◌-◌, ◌≤◌, List, [], ◌∷◌, ◌++◌, length, map, reverse, take, drop, refl, ap, sym, ◌∙◌, arith}
use Rattle.std.proofs.lemmas.List.{append_assoc, append-nil, length-map, map-append, reverse-append, take-map}
use Rattle.c_memory.specs.Memory.{Memory, total, used}
use Rattle.c_values.specs.declared.value.Variables.{Variables}
use Rattle.flat_code.specs.Machine.{descriptors, descriptors_from}
use Rattle.flat_code.specs.Placed.{Block, stacked}
use Rattle.flat_code.specs.Restart.{newest_serials}
use Rattle.image_text.specs.declared.object.SavedObject.{SavedObject}
use Rattle.variable_stack.specs.declared.Descriptor.{Descriptor}
use Rattle.rank_machine.specs.Blocks.{block_of, blocks_of}
use Rattle.rank_machine.proofs.Numbers.{drop_newest}
use Rattle.rank_machine.specs.Saving.{object_of}
use Rattle.rank_machine.specs.Saving as saving
use Rattle.rank_machine.specs.Layout.{described_by, size_at, sizes_from, sizes_in}

abbrev pub serials_of : List Block → List ℕ
serials_of bs = map (λ b. b.serial) bs

-- serials one after another
abbrev pub upwards : ℕ → ℕ → List ℕ
upwards first zero = []
upwards first (suc n) = first ∷ upwards (first + 1) n

upwards_last : (first n : ℕ) → upwards first (suc n) ≡ upwards first n ++ (first + n) ∷ []
upwards_last first zero = let e : first ≡ first + 0 = omega arith in ap (λ (k : ℕ). k ∷ []) e
upwards_last first (suc n) =
    let r : upwards (first + 1) (suc n) ≡ upwards (first + 1) n ++ (first + 1 + n) ∷ [] = upwards_last (first + 1) n in
    let e : first + 1 + n ≡ first + suc n = omega arith in
    ap (λ (x : List ℕ). first ∷ x) (r ∙ ap (λ (k : ℕ). upwards (first + 1) n ++ k ∷ []) e)

downwards : (first n : ℕ) → reverse (upwards first n) ≡ descriptors_from first n
downwards first zero = refl
downwards first (suc n) = ap reverse (upwards_last first n) ∙ reverse-append (upwards first n) ((first + n) ∷ []) ∙ ap (λ (x : List ℕ). (first + n) ∷ x) (downwards first n)

serials_stacked : (m : Memory) (first at s n : ℕ) → serials_of (stacked first at (sizes_from m s n)) ≡ upwards first n
serials_stacked m first at s zero = refl
serials_stacked m first at s (suc n) = ap (λ (x : List ℕ). first ∷ x) (serials_stacked m (first + 1) (at + size_at m s) (s + 1) n)

serials_blocks : (ds : List Descriptor) → serials_of (blocks_of ds) ≡ map (λ d. d.serial) ds
serials_blocks [] = refl
serials_blocks (d ∷ ds) = ap (λ (x : List ℕ). d.serial ∷ x) (serials_blocks ds)

-- the newest first, as their serials go
pub described_serials : (m : Memory) (v : Variables) (old new : List Descriptor) → blocks_of new ≡ blocks_of old ++ described_by m v → reverse (map (λ d. d.serial) new) ≡ descriptors v ++ reverse (map (λ d. d.serial) old)
described_serials m v old new e =
    let up : serials_of (described_by m v) ≡ upwards v.first v.count = serials_stacked m v.first (used m - total (sizes_in m v)) v.first v.count in
    let all : map (λ d. d.serial) new ≡ map (λ d. d.serial) old ++ upwards v.first v.count = sym (serials_blocks new) ∙ ap serials_of e ∙ map-append (λ (b : Block). b.serial) (blocks_of old) (described_by m v) ∙ ap (λ (x : List ℕ). serials_of (blocks_of old) ++ x) up ∙ ap (λ (x : List ℕ). x ++ upwards v.first v.count) (serials_blocks old) in
    ap reverse all ∙ reverse-append (map (λ d. d.serial) old) (upwards v.first v.count) ∙ ap (λ (x : List ℕ). x ++ reverse (map (λ d. d.serial) old)) (downwards v.first v.count)

-- ---- sizes one after another

pub sizes_next : (m : Memory) (first k n : ℕ) → suc k ≤ n → sizes_from m (first + k) (n - k) ≡ size_at m (first + k) ∷ sizes_from m (first + (k + 1)) (n - (k + 1))
sizes_next m first k n l =
    let e : n - k ≡ suc (n - (k + 1)) = omega (arith, l) in
    let f : first + k + 1 ≡ first + (k + 1) = omega arith in
    ap (sizes_from m (first + k)) e ∙ ap (λ (s : ℕ). size_at m (first + k) ∷ sizes_from m s (n - (k + 1))) f

pub sizes_done : (m : Memory) (s n : ℕ) → sizes_from m s (n - n) ≡ []
sizes_done m s n = let e : n - n ≡ 0 = omega arith in ap (sizes_from m s) e

pub less_next : (m : Memory) (first k n place : ℕ) → suc k ≤ n → place - size_at m (first + k) - total (sizes_from m (first + (k + 1)) (n - (k + 1))) ≡ place - total (sizes_from m (first + k) (n - k))
less_next m first k n place l =
    let e = ap total (sizes_next m first k n l) in
    omega (arith, e)

stacked_one : (s next n : ℕ) (rest : List ℕ) (d : Descriptor) → d.serial ≡ s → d.length ≡ n → s + 1 ≡ next → stacked s d.place (n ∷ rest) ≡ block_of d ∷ stacked next (d.place + d.length) rest
stacked_one s next n rest d e f g = rw (e, f, ← g) refl

pub described_next : (m : Memory) (first k n : ℕ) (ds : List Descriptor) (d : Descriptor) → suc k ≤ n → d.serial ≡ first + k → d.length ≡ size_at m (first + k) → blocks_of (ds ++ d ∷ []) ++ stacked (first + (k + 1)) (d.place + d.length) (sizes_from m (first + (k + 1)) (n - (k + 1))) ≡ blocks_of ds ++ stacked (first + k) d.place (sizes_from m (first + k) (n - k))
described_next m first k n ds d l s e =
    let rest = sizes_from m (first + (k + 1)) (n - (k + 1)) in
    let f : first + k + 1 ≡ first + (k + 1) = omega arith in
    let now : stacked (first + k) d.place (sizes_from m (first + k) (n - k)) ≡ block_of d ∷ stacked (first + (k + 1)) (d.place + d.length) rest = ap (stacked (first + k) d.place) (sizes_next m first k n l) ∙ stacked_one (first + k) (first + (k + 1)) (size_at m (first + k)) rest d s e f in
    let more : blocks_of (ds ++ d ∷ []) ≡ blocks_of ds ++ block_of d ∷ [] = map-append block_of ds (d ∷ []) in
    rw (more, now) (append_assoc (blocks_of ds) (block_of d ∷ []) (stacked (first + (k + 1)) (d.place + d.length) rest))

-- the loop's end
pub all_described : (m : Memory) (v : Variables) (k place : ℕ) (old new : List Block) → v.count ≤ k → new ++ stacked (v.first + k) place (sizes_from m (v.first + k) (v.count - k)) ≡ old ++ described_by m v → new ≡ old ++ described_by m v
all_described m v k place old new l e =
    let z : v.count - k ≡ 0 = omega (arith, l) in
    sym (append-nil new) ∙ sym (ap (λ (j : ℕ). new ++ stacked (v.first + k) place (sizes_from m (v.first + k) j)) z) ∙ e

-- ---- the newest go

pub blocks_cut : (n : ℕ) (ds : List Descriptor) → blocks_of (take (length ds - n) ds) ≡ take (length (blocks_of ds) - n) (blocks_of ds)
blocks_cut n ds =
    let e : length (blocks_of ds) ≡ length ds = length-map ds block_of in
    sym (take-map block_of (length ds - n) ds) ∙ sym (ap (λ (k : ℕ). take (k - n) (blocks_of ds)) e)

pub serials_cut : (n : ℕ) (ds : List Descriptor) → reverse (map (λ d. d.serial) (take (length ds - n) ds)) ≡ drop n (reverse (map (λ d. d.serial) ds))
serials_cut n ds =
    let e : length (map (λ (d : Descriptor). d.serial) ds) ≡ length ds = length-map ds (λ (d : Descriptor). d.serial) in
    ap reverse (sym (take-map (λ (d : Descriptor). d.serial) (length ds - n) ds)) ∙ sym (ap (λ (k : ℕ). reverse (take (k - n) (map (λ (d : Descriptor). d.serial) ds))) e) ∙ sym (drop_newest n (map (λ (d : Descriptor). d.serial) ds))

-- ---- of saved variables

serials_saved : (vs : List SavedObject) → serials_of (map saving.block_of vs) ≡ map (λ o. o.serial) (map object_of vs)
serials_saved [] = refl
serials_saved (v ∷ vs) = ap (λ (x : List ℕ). v.serial ∷ x) (serials_saved vs)

pub newest_described : (ds : List Descriptor) (vs : List SavedObject) → blocks_of ds ≡ map saving.block_of vs → reverse (map (λ d. d.serial) ds) ≡ newest_serials (map object_of vs)
newest_described ds vs e = ap reverse (sym (serials_blocks ds) ∙ ap serials_of e ∙ serials_saved vs)
