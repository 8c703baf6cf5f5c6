-- The line file.
use Rattle.std.proofs.Common.{◌≡◌, ◌≢◌, ◌⊎◌, inl, inr, ⊎_elim, ℕ, zero, suc, ◌+◌, ◌<◌, ◌≤◌, true, false, ◌==◌, if◌then◌else◌, List, [], ◌∷◌, ◌++◌, length, take, drop, get_or, replicate, refl, sym, ◌∙◌, ap, arith, eqb-true}
use Rattle.std.proofs.lemmas.List.{take-take, take_all, replicate_more, drop_all, append-nil, length-replicate, take_more, get_or-take, get_or-replicate, get_or_past}
use Rattle.std.proofs.lemmas.Bool.{cases_eq, cases_lt}
use Rattle.disk_model.specs.Disk.{Holds, Torn}
use Rattle.line_store.specs.Reading.{leading, line_of}

pub leading-length : (b : List ℕ) → leading b ≤ length b
leading-length [] = omega arith
leading-length (x ∷ b) = elim (x == 1) as (λ t. (if t then suc (leading b) else 0) ≤ suc (length b)) [
  | true ↦ omega (arith, leading-length b)
  | false ↦ omega arith
]

pub ones-leading : (n : ℕ) (b : List ℕ) → take n b ≡ replicate n 1 → n ≤ leading b
ones-leading zero b is = omega arith
ones-leading (suc n) [] is = absurd (omega (arith, ap length is))
ones-leading (suc n) (x ∷ b) is =
    let head : x ≡ 1 = ap (λ (l : List ℕ). get_or l 0 0) is in
    let tail : take n b ≡ replicate n 1 = ap (λ (l : List ℕ). drop 1 l) is in
    rw head (omega (arith, ones-leading n b tail))

pub leading-ones : (n : ℕ) (b : List ℕ) → n ≤ leading b → take n b ≡ replicate n 1
leading-ones zero b le = refl
leading-ones (suc n) [] le = absurd (omega (arith, le))
leading-ones (suc n) (x ∷ b) le = elim (x == 1) as (λ t. (x == 1) ≡ t → suc n ≤ (if t then suc (leading b) else 0) → (x ∷ take n b) ≡ (1 ∷ replicate n 1)) [
  | true ↦ λ is le. rw (eqb-true x 1 is, leading-ones n b (omega (arith, le))) refl
  | false ↦ λ is le. absurd (omega (arith, le))
] refl le

-- as many leading bytes as both fronts have
pub leading-front : (n : ℕ) (b x : List ℕ) → take n x ≡ take n b → n ≤ leading b → n ≤ leading x
leading-front n b x same le = ones-leading n x (same ∙ leading-ones n b le)

pub torn-short : (line : ℕ) (b x : List ℕ) → length b ≤ line + 1 → Torn line 1 b x → length x ≤ line + 1
torn-short line b x short torn = omega (arith, short, torn.no_longer)

-- the line stays, or the next one is there
pub torn-line : (line : ℕ) (b x : List ℕ) → line < 65535 → line_of b ≡ line → length b ≤ line + 1 → Torn line 1 b x → (line_of x ≡ line) ⊎ (line_of x ≡ line + 1)
torn-line line b x below is short torn =
    let least : line ≤ leading x = leading-front line b x torn.before (omega (arith, is)) in
    let most : leading x ≤ line + 1 = omega (arith, leading-length x, torn-short line b x short torn) in
    ⊎_elim (λ same. inl (omega (arith, below, same))) (λ other. inr (omega (arith, below, least, most, other))) (cases_eq (leading x) line)

pub holds-line : (line : ℕ) (b x : List ℕ) → line < 65535 → line_of b ≡ line → length b ≤ line + 1 → Holds b line (1 ∷ []) x → (line_of x ≡ line + 1) × (length x ≤ line + 1)
holds-line line b x below is short holds =
    let long : line ≤ length b = omega (arith, is, leading-length b) in
    let front : take line b ≡ replicate line 1 = leading-ones line b (omega (arith, is)) in
    let whole : x ≡ replicate (line + 1) 1 =
    holds ∙ ap (λ (l : List ℕ). take line b ++ (1 ∷ []) ++ l) (drop_all (line + 1) b short) ∙ append-nil (take line b ++ (1 ∷ [])) ∙ ap (λ (l : List ℕ). l ++ (1 ∷ [])) front ∙ replicate_more line 1 in
    let size : length x ≡ line + 1 = ap length whole ∙ length-replicate (line + 1) 1 in
    let least : line + 1 ≤ leading x = ones-leading (line + 1) x (take_all (line + 1) x (omega (arith, size)) ∙ whole) in
    (omega (arith, least, leading-length x, size, below), omega (arith, size))

-- the next byte goes on
pub leading-more : (n : ℕ) (b : List ℕ) → n ≤ leading b → get_or b n 0 ≡ 1 → n + 1 ≤ leading b
leading-more n b le is =
    let inside : n < length b = ⊎_elim (λ lt. lt) (λ past. absurd (omega (arith, is, get_or_past b n 0 past))) (cases_lt n (length b)) in
    ones-leading (n + 1) b (take_more b n 0 inside ∙ ap (λ (l : List ℕ). l ++ get_or b n 0 ∷ []) (leading-ones n b le) ∙ ap (λ x. replicate n 1 ++ x ∷ []) is ∙ replicate_more n 1)

pub leading-at : (n : ℕ) (b : List ℕ) → n < leading b → get_or b n 0 ≡ 1
leading-at n b lt = sym (get_or-take (n + 1) b n 0 (omega arith)) ∙ ap (λ (l : List ℕ). get_or l n 0) (leading-ones (n + 1) b (omega (arith, lt))) ∙ get_or-replicate (n + 1) n 1 0 (omega arith)

-- or ends
pub leading-stops : (n : ℕ) (b : List ℕ) → n ≤ leading b → n < 65535 → get_or b n 0 ≢ 1 → n ≡ line_of b
leading-stops n b le below other = ⊎_elim (λ lt. absurd (other (leading-at n b lt))) (λ most. omega (arith, le, most, below)) (cases_lt n (leading b))

-- the line is told by the bytes up to the one after it
pub line-front : (n : ℕ) (b x : List ℕ) → n ≡ line_of b + 1 → take n x ≡ take n b → line_of x ≡ line_of b
line-front n b x is same =
    let least : line_of b ≤ leading x = ⊎_elim (λ lt. absurd (omega (arith, is, lt))) (λ le. leading-front (line_of b) b x (shorter (line_of b) le) (omega arith)) (cases_lt n (line_of b)) in
    ⊎_elim (λ lt. let more : n ≤ leading b = leading-front n x b (sym same) (omega (arith, lt)) in omega (arith, least, more, is)) (λ most. omega (arith, least, most, is)) (cases_lt (line_of b) (leading x))
  where
    shorter : (m : ℕ) → m ≤ n → take m x ≡ take m b
    shorter m le = sym (take-take m n x le) ∙ ap (λ (l : List ℕ). take m l) same ∙ take-take m n b le
