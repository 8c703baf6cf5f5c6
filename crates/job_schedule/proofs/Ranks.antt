-- Ranks are read exactly where the text has them.
use Rattle.std.proofs.Common.{◌≡◌, ℕ, ◌+◌, min, true, eqb, List, ◌∷◌, ◌++◌, take, drop, Some, refl, ap, subst, arith}
use Rattle.std.specs.Prelude.{position, option_map}
use Rattle.std.specs.Str.{all_ascii_digits}
use Rattle.std.proofs.lemmas.Bool.Decides.{nat_tests}
use Rattle.job_schedule.specs.Reading.{number_of, rank_of, ranks_at, ranks_of}
use Rattle.job_schedule.specs.Words.{IsRank, numbered}
use Rattle.job_schedule.proofs.Options.{map_some, then_some}
use Rattle.job_schedule.proofs.Readable.{number_complete, number_digits, number_sound}
use Rattle.job_schedule.proofs.Signs.{IsSign, after_is, before_is, digits_lack, lacks, parted, position_is}

pub rank_sound : (u : List ℕ) (r : ℕ) → rank_of u ≡ Some r → IsRank u r
rank_sound u r e = let m = map_some (λ n. min n 65535) (number_of u) r e in subst (IsRank u) m.2 (numbered m.0 (number_sound u m.0 m.1))

pub rank_complete : (u : List ℕ) (r : ℕ) → IsRank u r → rank_of u ≡ Some r
rank_complete u r (numbered n h) = ap (option_map (λ k. min k 65535)) (number_complete u n h)

pub rank_digits : (u : List ℕ) (r : ℕ) → IsRank u r → all_ascii_digits u ≡ true
rank_digits u r (numbered n h) = number_digits u n h

angle : IsSign 62
angle = record { other = λ b low high. grind (arith, nat_tests) }

-- two ranks with > (62) between them
pub record AreRanks (text : List ℕ) (from to : ℕ) : Type 0 where
  pub u : List ℕ
  pub v : List ℕ
  pub parts : text ≡ u ++ 62 ∷ v
  pub from_is : IsRank u from
  pub to_is : IsRank v to

ranks_at_sound : (text : List ℕ) (at a b : ℕ) → text ≡ take at text ++ 62 ∷ drop (at + 1) text → ranks_at text at ≡ Some (a, b) → AreRanks text a b
ranks_at_sound text at a b parts e =
    let left = then_some (λ from. option_map (λ to. (from, to)) (rank_of (drop (at + 1) text))) (rank_of (take at text)) (a, b) e in
    let right = map_some (λ to. (left.0, to)) (rank_of (drop (at + 1) text)) (a, b) left.2 in
    record {
      u = take at text;
      v = drop (at + 1) text;
      parts = parts;
      from_is = subst (IsRank (take at text)) (ap (λ p. p.0) right.2) (rank_sound (take at text) left.0 left.1);
      to_is = subst (IsRank (drop (at + 1) text)) (ap (λ p. p.1) right.2) (rank_sound (drop (at + 1) text) right.0 right.1);
    }

pub ranks_sound : (text : List ℕ) (a b : ℕ) → ranks_of text ≡ Some (a, b) → AreRanks text a b
ranks_sound text a b e =
    let at = then_some (ranks_at text) (position (λ c. eqb c 62) text) (a, b) e in
    ranks_at_sound text at.0 a b (parted 62 at.0 text at.1) at.2

pub ranks_complete : (u v : List ℕ) (a b : ℕ) → IsRank u a → IsRank v b → ranks_of (u ++ 62 ∷ v) ≡ Some (a, b)
ranks_complete u v a b h k =
    let free : lacks 62 u ≡ true = digits_lack 62 angle u (rank_digits u a h) in
    rw (position_is 62 u v free, before_is 62 u v, after_is 62 u v, rank_complete u a h, rank_complete v b k) refl
