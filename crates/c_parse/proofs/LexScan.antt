-- The steps of reading a text piece by piece.
use Rattle.std.proofs.Common.{◌≡◌, ℕ, zero, suc, ◌+◌, ◌-◌, ◌<◌, ◌≤◌, Bool, false, List, [], ◌∷◌, ◌++◌, length, take, drop, get_or, refl, sym, ap, ◌∙◌, arith, append_assoc, length-drop}
use Rattle.std.proofs.lemmas.List.{append-nil, drop-drop, drop_all, get_or-drop, take_rest}
use Rattle.c_tree.specs.declared.token.Class.{Class}
use Rattle.c_tree.specs.declared.token.Class.TheVariants as class
use Rattle.c_tree.specs.declared.token.Token.{Token}
use Rattle.c_tree.specs.declared.token.Value.{Value}
use Rattle.c_tree.specs.declared.token.Value.TheVariants as value
use Rattle.c_tree.specs.Scan.{Piece, Gap, One, Wrong, fresh_after, piece, scan}

-- ---- one piece

scan_gap : (k place n : ℕ) (fresh : Bool) (text : List ℕ) → 0 < length text → piece fresh text ≡ Gap n → scan (suc k) fresh place text ≡ scan k (fresh_after fresh (get_or text 0 0)) (place + n) (drop n text)
scan_gap k place n fresh [] h e = absurd (omega arith)
scan_gap k place n fresh (b ∷ bs) h e = rw (e, scan) refl

scan_one : (k place n : ℕ) (fresh : Bool) (c : Class) (v : Value) (text : List ℕ) → 0 < length text → piece fresh text ≡ One c v n → scan (suc k) fresh place text ≡ record { class = c; value = v; place = place } ∷ scan k false (place + n) (drop n text)
scan_one k place n fresh c v [] h e = absurd (omega arith)
scan_one k place n fresh c v (b ∷ bs) h e = rw (e, scan) refl

scan_wrong : (k place n : ℕ) (fresh : Bool) (text : List ℕ) → 0 < length text → piece fresh text ≡ Wrong n → scan (suc k) fresh place text ≡ record { class = class.Broken; value = value.Nothing; place = place + n } ∷ []
scan_wrong k place n fresh [] h e = absurd (omega arith)
scan_wrong k place n fresh (b ∷ bs) h e = rw (e, scan) refl

scan_none : (fresh : Bool) (place : ℕ) (text : List ℕ) → scan zero fresh place text ≡ []
scan_none fresh place [] = refl
scan_none fresh place (b ∷ bs) = refl

scan_nothing : (k : ℕ) (fresh : Bool) (place : ℕ) → scan k fresh place [] ≡ []
scan_nothing zero fresh place = refl
scan_nothing (suc k) fresh place = refl

-- ---- the tokens so far, and those of the rest of the text

abbrev pub Reads : List ℕ → ℕ → Bool → ℕ → List Token → List Token → Type 0
Reads text count fresh place so_far tokens = so_far ++ scan (length text - count) fresh place (drop place text) ≡ tokens

record Step (text : List ℕ) (count place : ℕ) : Type 0 where
  fuel : length text - count ≡ suc (length text - (count + 1))
  some : 0 < length (drop place text)
  first : get_or (drop place text) 0 0 ≡ get_or text place 0

step_at : (text : List ℕ) (count place : ℕ) → count < length text → place < length text → Step text count place
step_at text count place more inside = record {
  fuel = omega arith;
  some = omega (arith, length-drop place text);
  first = get_or-drop place text 0 0 ∙ ap (λ i. get_or text i 0) (omega arith);
}

seen : (text : List ℕ) (place : ℕ) (fresh : Bool) (p : Piece) → p ≡ piece fresh (take (length text - place) (drop place text)) → piece fresh (drop place text) ≡ p
seen text place fresh p is = ap (piece fresh) (sym (take_rest text place)) ∙ sym is

pub reads_gap : (text : List ℕ) (count place n : ℕ) (fresh : Bool) (so_far tokens : List Token) → count < length text → place < length text → Gap n ≡ piece fresh (take (length text - place) (drop place text)) → Reads text count fresh place so_far tokens → Reads text (count + 1) (fresh_after fresh (get_or text place 0)) (place + n) so_far tokens
reads_gap text count place n fresh so_far tokens more inside is h =
    let at = step_at text count place more inside in
    let k = length text - (count + 1) in
    let step : scan (length text - count) fresh place (drop place text) ≡ scan k (fresh_after fresh (get_or text place 0)) (place + n) (drop (place + n) text) =
    ap (λ f. scan f fresh place (drop place text)) at.fuel
    ∙ scan_gap k place n fresh (drop place text) at.some (seen text place fresh (Gap n) is)
    ∙ ap (λ b. scan k (fresh_after fresh b) (place + n) (drop n (drop place text))) at.first
    ∙ ap (scan k (fresh_after fresh (get_or text place 0)) (place + n)) (drop-drop n place text) in
    ap (λ ts. so_far ++ ts) (sym step) ∙ h

pub reads_one : (text : List ℕ) (count place n : ℕ) (fresh : Bool) (c : Class) (v : Value) (so_far tokens : List Token) → count < length text → place < length text → One c v n ≡ piece fresh (take (length text - place) (drop place text)) → Reads text count fresh place so_far tokens → Reads text (count + 1) false (place + n) (so_far ++ record { class = c; value = v; place = place } ∷ []) tokens
reads_one text count place n fresh c v so_far tokens more inside is h =
    let at = step_at text count place more inside in
    let k = length text - (count + 1) in
    let token : Token = record { class = c; value = v; place = place } in
    let step : scan (length text - count) fresh place (drop place text) ≡ token ∷ scan k false (place + n) (drop (place + n) text) =
    ap (λ f. scan f fresh place (drop place text)) at.fuel
    ∙ scan_one k place n fresh c v (drop place text) at.some (seen text place fresh (One c v n) is)
    ∙ ap (λ rest. token ∷ scan k false (place + n) rest) (drop-drop n place text) in
    append_assoc so_far (token ∷ []) (scan k false (place + n) (drop (place + n) text)) ∙ ap (λ ts. so_far ++ ts) (sym step) ∙ h

pub reads_wrong : (text : List ℕ) (count place n : ℕ) (fresh : Bool) (so_far tokens : List Token) → count < length text → place < length text → Wrong n ≡ piece fresh (take (length text - place) (drop place text)) → Reads text count fresh place so_far tokens → so_far ++ record { class = class.Broken; value = value.Nothing; place = place + n } ∷ [] ≡ tokens
reads_wrong text count place n fresh so_far tokens more inside is h =
    let at = step_at text count place more inside in
    let step =
    ap (λ f. scan f fresh place (drop place text)) at.fuel
    ∙ scan_wrong (length text - (count + 1)) place n fresh (drop place text) at.some (seen text place fresh (Wrong n) is) in
    ap (λ ts. so_far ++ ts) (sym step) ∙ h

-- all the fuel is used, or all the text is read
pub reads_out : (text : List ℕ) (count place : ℕ) (fresh : Bool) (so_far tokens : List Token) → length text ≤ count → Reads text count fresh place so_far tokens → so_far ≡ tokens
reads_out text count place fresh so_far tokens over h =
    let none : scan (length text - count) fresh place (drop place text) ≡ [] = let spent : length text - count ≡ 0 = omega arith in ap (λ f. scan f fresh place (drop place text)) spent ∙ scan_none fresh place (drop place text) in
    sym (append-nil so_far) ∙ ap (λ ts. so_far ++ ts) (sym none) ∙ h

pub reads_all : (text : List ℕ) (count place : ℕ) (fresh : Bool) (so_far tokens : List Token) → length text ≤ place → Reads text count fresh place so_far tokens → so_far ≡ tokens
reads_all text count place fresh so_far tokens over h =
    let none : scan (length text - count) fresh place (drop place text) ≡ [] = ap (scan (length text - count) fresh place) (drop_all place text over) ∙ scan_nothing (length text - count) fresh place in
    sym (append-nil so_far) ∙ ap (λ ts. so_far ++ ts) (sym none) ∙ h

pub stays_within : (text : List ℕ) (place n : ℕ) → place ≤ length text → n ≤ length (take (length text - place) (drop place text)) → place + n ≤ length text
stays_within text place n le h = let same : length (take (length text - place) (drop place text)) ≡ length text - place = ap length (take_rest text place) ∙ length-drop place text in omega arith
