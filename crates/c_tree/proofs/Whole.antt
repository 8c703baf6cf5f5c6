-- The scan of a text gives its tokens.
use Rattle.std.proofs.Common.{ℕ, zero, suc, ◌≡◌, ◌+◌, ◌≤◌, List, [], ◌∷◌, ◌++◌, Bool, true, false, refl, sym, ap, subst, ◌∙◌, arith, length, drop, length-append}
use Rattle.std.specs.Bool.{Decides}
use Rattle.std.proofs.lemmas.List.{drop_at}
use Rattle.c_tree.specs.declared.token.Class.{Class}
use Rattle.c_tree.specs.declared.token.Class.TheVariants as class
use Rattle.c_tree.specs.declared.token.Token.{Token}
use Rattle.c_tree.specs.declared.token.Value.{Value}
use Rattle.c_tree.specs.declared.token.Value.TheVariants as value
use Rattle.c_tree.specs.Scan.{Piece, Gap, One, Wrong, piece, fresh_after, scan, tokens_of}
use Rattle.c_tree.specs.Tokens.{Meaning, Space, Real, Fault, IsFresh, IsPiece, IsNext, Pieces, ends, space, token, fault, stray, Tokens, IsScanned, IsOneList}
use Rattle.c_tree.proofs.Sight.{none, some, sized, seen, reach}
use Rattle.c_tree.proofs.Fronts.{Got}
use Rattle.c_tree.proofs.Fresh.{runs, fresh_more, fresh_none, runs_space, runs_real}
use Rattle.c_tree.proofs.Longest.{got, next_seen, seen_next, no_piece, unseen, has_byte}

-- what the scan does with a piece
abbrev scanned : ℕ → Bool → ℕ → ℕ → List ℕ → Piece → List Token
scanned k fresh place b bs p = elim p as (λ _. List Token) [
  | Gap n ↦ scan k (fresh_after fresh b) (place + n) (drop n (b ∷ bs))
  | One c v n ↦ record { class = c; value = v; place = place } ∷ scan k false (place + n) (drop n (b ∷ bs))
  | Wrong offset ↦ record { class = class.Broken; value = value.Nothing; place = place + offset } ∷ []
]

scan_at : (k : ℕ) (fresh : Bool) (place b : ℕ) (bs : List ℕ) (p : Piece) → piece fresh (b ∷ bs) ≡ p → scan (suc k) fresh place (b ∷ bs) ≡ scanned k fresh place b bs p
scan_at k fresh place b bs p e = ap (scanned k fresh place b bs) e

-- the scan goes on after the piece
scan_on : (k : ℕ) (fresh f : Bool) (before text w rest : List ℕ) (n : ℕ) → text ≡ w ++ rest → length w ≡ n → runs fresh w ≡ f → scan k f (length before + n) (drop n text) ≡ scan k (runs fresh w) (length (before ++ w)) rest
scan_on k fresh f before text w rest n e l g =
    let d : drop n text ≡ rest = ap (drop n) e ∙ drop_at w rest n l in
    let q : length before + n ≡ length (before ++ w) = ap (λ m. length before + m) (sym l) ∙ sym (length-append before w) in
    λ i. scan k (sym g i) (q i) (d i)

left_over : (k : ℕ) (before w rest : List ℕ) (m : Meaning) (b : ℕ) (bs : List ℕ) → b ∷ bs ≡ w ++ rest → IsPiece before w m → length (b ∷ bs) ≤ suc k → length rest ≤ k
left_over k before w rest m b bs e p l =
    let h : 1 ≤ length w = has_byte before w m p in
    let a : suc (length bs) ≡ length w + length rest = ap length e ∙ length-append w rest in
    omega arith

-- ---- what the scan gives is the text's tokens

abbrev Sound : ℕ → Type 0
Sound k = (before text : List ℕ) (fresh : Bool) → Decides fresh (IsFresh before) → length text ≤ k → Pieces before text (scan k fresh (length before) text)

sound_fault : (before text : List ℕ) (fresh : Bool) (b : ℕ) (bs : List ℕ) (r o : ℕ) → Decides fresh (IsFresh before) → seen fresh (b ∷ bs) ≡ sized r (Wrong o) → Got before (b ∷ bs) (sized r (Wrong o)) → Pieces before (b ∷ bs) (record { class = class.Broken; value = value.Nothing; place = length before + o } ∷ [])
sound_fault before text fresh b bs zero o d e h =
    let q : length before ≡ length before + o = omega (arith, h) in
    subst (λ n. Pieces before (b ∷ bs) (record { class = class.Broken; value = value.Nothing; place = n } ∷ [])) q (stray before b bs (no_piece before (b ∷ bs) fresh o d e))
sound_fault before text fresh b bs (suc r) o d e (w, rest, g, l, p) = fault before (b ∷ bs) w rest o (next_seen before (b ∷ bs) w rest fresh (suc r) (Fault o) d e g l p)

sound_step : (k : ℕ) (before : List ℕ) (fresh : Bool) (b : ℕ) (bs : List ℕ) (r : ℕ) (p : Piece) → Sound k → Decides fresh (IsFresh before) → length (b ∷ bs) ≤ suc k → seen fresh (b ∷ bs) ≡ sized r p → Got before (b ∷ bs) (sized r p) → Pieces before (b ∷ bs) (scanned k fresh (length before) b bs p)
sound_step k before fresh b bs r (Gap n) ih d le e (w, rest, g, l, p) =
    let s : Pieces (before ++ w) rest (scan k (runs fresh w) (length (before ++ w)) rest) = ih (before ++ w) rest (runs fresh w) (fresh_more before w fresh d) (left_over k before w rest Space b bs g p le) in
    space before (b ∷ bs) w rest _ (next_seen before (b ∷ bs) w rest fresh n Space d e g l p)
    (subst (Pieces (before ++ w) rest) (sym (scan_on k fresh (fresh_after fresh b) before (b ∷ bs) w rest n g l (runs_space before w fresh b bs rest g p))) s)
sound_step k before fresh b bs r (One c v n) ih d le e (w, rest, g, l, p) =
    let s : Pieces (before ++ w) rest (scan k (runs fresh w) (length (before ++ w)) rest) = ih (before ++ w) rest (runs fresh w) (fresh_more before w fresh d) (left_over k before w rest (Real c v) b bs g p le) in
    token before (b ∷ bs) w rest c v _ (next_seen before (b ∷ bs) w rest fresh n (Real c v) d e g l p)
    (subst (Pieces (before ++ w) rest) (sym (scan_on k fresh false before (b ∷ bs) w rest n g l (runs_real before w fresh c v p))) s)
sound_step k before fresh b bs r (Wrong o) ih d le e h = sound_fault before (b ∷ bs) fresh b bs r o d e h

sound : (k : ℕ) → Sound k
sound k before [] fresh d l = ends before
sound zero before (b ∷ bs) fresh d l = absurd (omega arith)
sound (suc k) before (b ∷ bs) fresh d l = sound_step k before fresh b bs (reach (b ∷ bs)) (piece fresh (b ∷ bs)) (sound k) d l refl (got before fresh b bs d)

-- ---- and only that

-- the piece by what is seen
seen_gap : (r n : ℕ) (p : Piece) → sized r p ≡ some n Space → p ≡ Gap n
seen_gap r n (Gap m) e = cc
seen_gap r n (One c v m) e = cc
seen_gap zero n (Wrong o) e = cc
seen_gap (suc r) n (Wrong o) e = cc

seen_one : (r n : ℕ) (c : Class) (v : Value) (p : Piece) → sized r p ≡ some n (Real c v) → p ≡ One c v n
seen_one r n c v (Gap m) e = cc
seen_one r n c v (One d u m) e = cc
seen_one zero n c v (Wrong o) e = cc
seen_one (suc r) n c v (Wrong o) e = cc

seen_fault : (r n o : ℕ) (p : Piece) → sized r p ≡ some n (Fault o) → p ≡ Wrong o
seen_fault r n o (Gap m) e = cc
seen_fault r n o (One d u m) e = cc
seen_fault zero n o (Wrong q) e = cc
seen_fault (suc r) n o (Wrong q) e = cc

seen_none : (r o : ℕ) (p : Piece) → sized r p ≡ none o → p ≡ Wrong o
seen_none r o (Gap m) e = cc
seen_none r o (One d u m) e = cc
seen_none zero o (Wrong q) e = cc
seen_none (suc r) o (Wrong q) e = cc

abbrev Only : List ℕ → List ℕ → List Token → Type 0
Only before text list = (k : ℕ) (fresh : Bool) → Decides fresh (IsFresh before) → length text ≤ k → scan k fresh (length before) text ≡ list

no_rest : (P : Type 0) (before w rest : List ℕ) (m : Meaning) → [] ≡ w ++ rest → IsPiece before w m → P
no_rest P before w rest m e p =
    let h : 1 ≤ length w = has_byte before w m p in
    let a : 0 ≡ length w + length rest = ap length e ∙ length-append w rest in
    absurd (omega arith)

only_space : (before text w rest : List ℕ) (list : List Token) → IsNext before text w rest Space → Only (before ++ w) rest list → Only before text list
only_space before [] w rest list h ih k fresh d l = no_rest _ before w rest Space h.0 h.1
only_space before (b ∷ bs) w rest list h ih zero fresh d l = absurd (omega arith)
only_space before (b ∷ bs) w rest list h ih (suc k) fresh d l =
    let p : piece fresh (b ∷ bs) ≡ Gap (length w) = seen_gap (reach (b ∷ bs)) (length w) (piece fresh (b ∷ bs)) (seen_next before w rest b bs fresh Space d h) in
    scan_at k fresh (length before) b bs (Gap (length w)) p ∙ (scan_on k fresh (fresh_after fresh b) before (b ∷ bs) w rest (length w) h.0 refl (runs_space before w fresh b bs rest h.0 h.1) ∙ ih k (runs fresh w) (fresh_more before w fresh d) (left_over k before w rest Space b bs h.0 h.1 l))

only_token : (before text w rest : List ℕ) (c : Class) (v : Value) (list : List Token) → IsNext before text w rest (Real c v) → Only (before ++ w) rest list → Only before text (record { class = c; value = v; place = length before } ∷ list)
only_token before [] w rest c v list h ih k fresh d l = no_rest _ before w rest (Real c v) h.0 h.1
only_token before (b ∷ bs) w rest c v list h ih zero fresh d l = absurd (omega arith)
only_token before (b ∷ bs) w rest c v list h ih (suc k) fresh d l =
    let p : piece fresh (b ∷ bs) ≡ One c v (length w) = seen_one (reach (b ∷ bs)) (length w) c v (piece fresh (b ∷ bs)) (seen_next before w rest b bs fresh (Real c v) d h) in
    scan_at k fresh (length before) b bs (One c v (length w)) p ∙ ap (λ ts. record { class = c; value = v; place = length before } ∷ ts) (scan_on k fresh false before (b ∷ bs) w rest (length w) h.0 refl (runs_real before w fresh c v h.1) ∙ ih k (runs fresh w) (fresh_more before w fresh d) (left_over k before w rest (Real c v) b bs h.0 h.1 l))

only_fault : (before text w rest : List ℕ) (o : ℕ) → IsNext before text w rest (Fault o) → Only before text (record { class = class.Broken; value = value.Nothing; place = length before + o } ∷ [])
only_fault before [] w rest o h k fresh d l = no_rest _ before w rest (Fault o) h.0 h.1
only_fault before (b ∷ bs) w rest o h zero fresh d l = absurd (omega arith)
only_fault before (b ∷ bs) w rest o h (suc k) fresh d l = scan_at k fresh (length before) b bs (Wrong o) (seen_fault (reach (b ∷ bs)) (length w) o (piece fresh (b ∷ bs)) (seen_next before w rest b bs fresh (Fault o) d h))

only_stray : (before : List ℕ) (b : ℕ) (bs : List ℕ) → ((v after : List ℕ) (m : Meaning) → b ∷ bs ≡ v ++ after → IsPiece before v m → ⊥) → Only before (b ∷ bs) (record { class = class.Broken; value = value.Nothing; place = length before } ∷ [])
only_stray before b bs h zero fresh d l = absurd (omega arith)
only_stray before b bs h (suc k) fresh d l =
    let q : length before + 0 ≡ length before = omega arith in
    scan_at k fresh (length before) b bs (Wrong 0) (seen_none (reach (b ∷ bs)) 0 (piece fresh (b ∷ bs)) (unseen before b bs fresh d h)) ∙ ap (λ n. record { class = class.Broken; value = value.Nothing; place = n } ∷ []) q

only_ends : (before : List ℕ) (k : ℕ) (fresh : Bool) → scan k fresh (length before) [] ≡ []
only_ends before k fresh = refl

only : (before text : List ℕ) (list : List Token) → Pieces before text list → Only before text list
only _ _ _ (ends before) = λ k fresh d l. only_ends before k fresh
only _ _ _ (space before text w rest list h p) = only_space before text w rest list h (only (before ++ w) rest list p)
only _ _ _ (token before text w rest c v list h p) = only_token before text w rest c v list h (only (before ++ w) rest list p)
only _ _ _ (fault before text w rest o h) = only_fault before text w rest o h
only _ _ _ (stray before b bs h) = only_stray before b bs h

-- ---- the laws

-- the tokens that the scan gives are the text's
pub tokens_scanned : (text : List ℕ) (list : List Token) → tokens_of text ≡ list → Tokens text list
tokens_scanned text list e = subst (Tokens text) e (sound (length text) [] text true fresh_none (omega arith))

-- the text's tokens are those that the scan gives
pub scanned_tokens : (text : List ℕ) (list : List Token) → Tokens text list → tokens_of text ≡ list
scanned_tokens text list h = only [] text list h (length text) true fresh_none (omega arith)

pub is_scanned : IsScanned
is_scanned text list = (scanned_tokens text list, tokens_scanned text list)

pub is_one_list : IsOneList
is_one_list text = ((tokens_of text, tokens_scanned text (tokens_of text) refl), λ a b x y. sym (scanned_tokens text a x) ∙ scanned_tokens text b y)
