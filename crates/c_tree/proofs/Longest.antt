-- What the scan sees at a place is the longest piece there.
use Rattle.std.proofs.Common.{ℕ, ◌≡◌, ◌≤◌, List, [], ◌∷◌, ◌++◌, Bool, true, false, Some, refl, sym, ap, subst, ◌∙◌, arith, length}
use Rattle.std.specs.Prelude.{nat_eq}
use Rattle.std.specs.Bool.{Decides}
use Rattle.std.proofs.lemmas.Bool.{or_from, eqb-true}
use Rattle.c_tree.specs.declared.token.Class.{Class}
use Rattle.c_tree.specs.Scan.{is_white, is_letter, is_digit, look, signs}
use Rattle.c_tree.specs.Tokens.{Meaning, IsFresh, IsPiece, IsNext, InCharacter}
use Rattle.c_tree.specs.Tokens as is
use Rattle.c_tree.proofs.Sight.{Sight, none, some, seen, word_meaning}
use Rattle.c_tree.proofs.Fronts.{Covers, Got}
use Rattle.c_tree.proofs.Comments.{covers_white, got_white, covers_line_comment, covers_comment, covers_open_comment}
use Rattle.c_tree.proofs.Numbers.{covers_word, got_word, covers_number, got_number}
use Rattle.c_tree.proofs.Directives.{covers_directive, covers_wrong_line, got_line, directive_line}
use Rattle.c_tree.proofs.Characters.{covers_character, covers_open_character, covers_wrong_character, got_character}
use Rattle.c_tree.proofs.Strings.{covers_string, covers_open_string, covers_wrong_string, got_string}
use Rattle.c_tree.proofs.Signs.{covers_operator, got_other}

-- w may be written otherwise
covers_as : (w v after : List ℕ) (m : Meaning) (fresh : Bool) → w ≡ v → Covers v m (seen fresh (v ++ after)) → Covers w m (seen fresh (w ++ after))
covers_as w v after m fresh e h = subst (λ t. Covers t m (seen fresh (t ++ after))) (sym e) h

-- each piece that can stand there is covered
pub covers : (before w after : List ℕ) (m : Meaning) (fresh : Bool) → Decides fresh (IsFresh before) → IsPiece before w m → Covers w m (seen fresh (w ++ after))
covers before w after _ fresh d (is.white b e h) = covers_as w _ after _ fresh e (covers_white fresh b after h)
covers before w after _ fresh d (is.line_comment body e h) = covers_as w (47 ∷ 47 ∷ body) after _ fresh e (covers_line_comment fresh body after h)
covers before w after _ fresh d (is.comment body e h) = covers_as w (47 ∷ 42 ∷ (body ++ 42 ∷ 47 ∷ [])) after _ fresh e (covers_comment fresh body after h)
covers before w after _ fresh d (is.open_comment body e h) = covers_as w (47 ∷ 42 ∷ body) after _ fresh e (covers_open_comment fresh body after h)
covers before w after _ fresh d (is.directive c h f) = covers_directive before fresh w after c d h f
covers before w after _ fresh d (is.wrong_line body e h k) = covers_as w (35 ∷ body) after _ fresh e (covers_wrong_line before fresh body after d h (λ c q f. k c (subst (λ t. is.IsDirective t c) (sym e) q) f))
covers before w after _ fresh d (is.word b body e h k) = subst (λ t. Covers t (word_meaning t) (seen fresh (t ++ after))) (sym e) (covers_word fresh b body after h k)
covers before w after _ fresh d (is.number ds suffix long e h k) = covers_as w (ds ++ suffix) after _ fresh e (covers_number fresh ds suffix after long h k)
covers before w after _ fresh d (is.character u v e h) = covers_as w (39 ∷ (u ++ 39 ∷ [])) after _ fresh e (covers_character fresh u v after h)
covers before w after _ fresh d (is.open_character u bytes e h l) = covers_as w (39 ∷ u) after _ fresh e (covers_open_character fresh u bytes after h l)
covers before w after _ fresh d (is.wrong_character b e h) = covers_as w (39 ∷ 92 ∷ b ∷ []) after _ fresh e (covers_wrong_character fresh b after h)
covers before w after _ fresh d (is.string u bytes e h) = covers_as w (34 ∷ (u ++ 34 ∷ [])) after _ fresh e (covers_string fresh u bytes after h)
covers before w after _ fresh d (is.open_string u bytes e h) = covers_as w (34 ∷ u) after _ fresh e (covers_open_string fresh u bytes after h)
covers before w after _ fresh d (is.wrong_string u bytes b e h k) = covers_as w (34 ∷ (u ++ 92 ∷ b ∷ [])) after _ fresh e (covers_wrong_string fresh u bytes b after h k)
covers before w after _ fresh d (is.operator c h) = covers_operator fresh w c after h

got_kinds : (before : List ℕ) (fresh : Bool) (b : ℕ) (bs : List ℕ) (white letter digit hash quote double : Bool) → is_white b ≡ white → is_letter b ≡ letter → is_digit b ≡ digit → nat_eq 35 b ≡ hash → nat_eq 39 b ≡ quote → nat_eq 34 b ≡ double → Decides fresh (IsFresh before) → Got before (b ∷ bs) (seen fresh (b ∷ bs))
got_kinds before fresh b bs true letter digit hash quote double h i j k l m d = got_white before fresh b bs h
got_kinds before fresh b bs false true digit hash quote double h i j k l m d = got_word before fresh b bs i
got_kinds before fresh b bs false false true hash quote double h i j k l m d = got_number before fresh b bs j
got_kinds before fresh b bs false false false true quote double h i j k l m d = subst (λ x. Got before (x ∷ bs) (seen fresh (x ∷ bs))) (eqb-true 35 b k) (got_line before fresh bs d)
got_kinds before fresh b bs false false false false true double h i j k l m d = subst (λ x. Got before (x ∷ bs) (seen fresh (x ∷ bs))) (eqb-true 39 b l) (got_character before fresh bs)
got_kinds before fresh b bs false false false false false true h i j k l m d = subst (λ x. Got before (x ∷ bs) (seen fresh (x ∷ bs))) (eqb-true 34 b m) (got_string before fresh bs)
got_kinds before fresh b bs false false false false false false h i j k l m d = got_other before fresh b bs (or_from (is_white b) _ h (or_from (is_letter b) _ i (or_from (is_digit b) _ j (or_from (nat_eq 35 b) _ k (or_from (nat_eq 39 b) _ l m)))))

-- what is seen is a piece
pub got : (before : List ℕ) (fresh : Bool) (b : ℕ) (bs : List ℕ) → Decides fresh (IsFresh before) → Got before (b ∷ bs) (seen fresh (b ∷ bs))
got before fresh b bs d = got_kinds before fresh b bs _ _ _ _ _ _ refl refl refl refl refl refl d

-- ---- the next piece

-- no piece is longer than what is seen
pub no_longer : (before text : List ℕ) (fresh : Bool) (n : ℕ) (k : Meaning) → Decides fresh (IsFresh before) → seen fresh text ≡ some n k → (v after : List ℕ) (m : Meaning) → text ≡ v ++ after → IsPiece before v m → (length v ≤ n) × (length v ≡ n → m ≡ k)
no_longer before text fresh n k d e v after m g p = subst (Covers v m) (ap (seen fresh) (sym g) ∙ e) (covers before v after m fresh d p)

-- where nothing is seen no piece stands
pub no_piece : (before text : List ℕ) (fresh : Bool) (o : ℕ) → Decides fresh (IsFresh before) → seen fresh text ≡ none o → (v after : List ℕ) (m : Meaning) → text ≡ v ++ after → IsPiece before v m → ⊥
no_piece before text fresh o d e v after m g p = subst (Covers v m) (ap (seen fresh) (sym g) ∙ e) (covers before v after m fresh d p)

pub next_seen : (before text w rest : List ℕ) (fresh : Bool) (n : ℕ) (m : Meaning) → Decides fresh (IsFresh before) → seen fresh text ≡ some n m → text ≡ w ++ rest → length w ≡ n → IsPiece before w m → IsNext before text w rest m
next_seen before text w rest fresh n m d e g l p = (g, p, λ v after k h q. let r = no_longer before text fresh n m d e v after k h q in omega (arith, r.0))

-- the next piece is what is seen
seen_step : (before w rest text : List ℕ) (fresh : Bool) (m : Meaning) (s : Sight) → Decides fresh (IsFresh before) → seen fresh text ≡ s → IsNext before text w rest m → Got before text s → s ≡ some (length w) m
seen_step before w rest text fresh m (none o) d e (g, p, l) h = absurd (no_piece before text fresh o d e w rest m g p)
seen_step before w rest text fresh m (some n k) d e (g, p, l) (v, after, q, r, t) =
    let a = no_longer before text fresh n k d e w rest m g p in
    let b : length v ≤ length w = l v after k q t in
    let c : length w ≡ n = omega (arith, a.0) in
    λ i. some (sym c i) (sym (a.1 c) i)

pub seen_next : (before w rest : List ℕ) (b : ℕ) (bs : List ℕ) (fresh : Bool) (m : Meaning) → Decides fresh (IsFresh before) → IsNext before (b ∷ bs) w rest m → seen fresh (b ∷ bs) ≡ some (length w) m
seen_next before w rest b bs fresh m d h = seen_step before w rest (b ∷ bs) fresh m (seen fresh (b ∷ bs)) d refl h (got before fresh b bs d)

-- nothing is seen where no piece stands
unseen_step : (before text : List ℕ) (s : Sight) → ((v after : List ℕ) (m : Meaning) → text ≡ v ++ after → IsPiece before v m → ⊥) → Got before text s → s ≡ none 0
unseen_step before text (none o) h e = ap none e
unseen_step before text (some n k) h (v, after, q, r, t) = absurd (h v after k q t)

pub unseen : (before : List ℕ) (b : ℕ) (bs : List ℕ) (fresh : Bool) → Decides fresh (IsFresh before) → ((v after : List ℕ) (m : Meaning) → b ∷ bs ≡ v ++ after → IsPiece before v m → ⊥) → seen fresh (b ∷ bs) ≡ none 0
unseen before b bs fresh d h = unseen_step before (b ∷ bs) (seen fresh (b ∷ bs)) h (got before fresh b bs d)

-- ---- a piece has a byte

decimal_first : (w suffix : List ℕ) → is.IsDecimal w → 1 ≤ length (w ++ suffix)
decimal_first _ suffix is.a_zero = omega arith
decimal_first _ suffix (is.digits d ds h z k) = omega arith

sign_first : (w : List ℕ) (c : Class) → look signs w ≡ Some c → 1 ≤ length w
sign_first [] c h = let bad : ⊥ = cc in absurd bad
sign_first (b ∷ bs) c h = omega arith

pub has_byte : (before w : List ℕ) (m : Meaning) → IsPiece before w m → 1 ≤ length w
has_byte before w _ (is.white b e h) = rw e (omega arith)
has_byte before w _ (is.line_comment body e h) = rw e (omega arith)
has_byte before w _ (is.comment body e h) = rw e (omega arith)
has_byte before w _ (is.open_comment body e h) = rw e (omega arith)
has_byte before w _ (is.directive c h f) = let q = directive_line w c h in rw q.1 (omega arith)
has_byte before w _ (is.wrong_line body e h k) = rw e (omega arith)
has_byte before w _ (is.word b body e h k) = rw e (omega arith)
has_byte before w _ (is.number ds suffix long e h k) = rw e (decimal_first ds suffix h)
has_byte before w _ (is.character u v e h) = rw e (omega arith)
has_byte before w _ (is.open_character u bytes e h l) = rw e (omega arith)
has_byte before w _ (is.wrong_character b e h) = rw e (omega arith)
has_byte before w _ (is.string u bytes e h) = rw e (omega arith)
has_byte before w _ (is.open_string u bytes e h) = rw e (omega arith)
has_byte before w _ (is.wrong_string u bytes b e h k) = rw e (omega arith)
has_byte before w _ (is.operator c h) = sign_first w c h
