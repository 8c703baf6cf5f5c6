-- The lines that begin with #.
use Rattle.std.proofs.Common.{ℕ, ◌≡◌, List, [], ◌∷◌, ◌++◌, Bool, true, false, ◌⊎◌, inl, inr, Option, Some, None, refl, sym, ap, subst, ◌∙◌, arith, length, append_assoc, append-nil, codes}
use Rattle.std.specs.Prelude.{nat_eq, ◌&&◌, not}
use Rattle.std.proofs.lemmas.Bool.{and_parts, and_from, false≢true, eqb-true}
use Rattle.std.proofs.lemmas.Bool.Decides.{nat_tests}
use Rattle.std.specs.Bool.{Decides}
use Rattle.c_tree.specs.declared.token.Class.{Class}
use Rattle.c_tree.specs.declared.token.Value.TheVariants as value
use Rattle.c_tree.specs.Scan.{is_blank, in_line, front, begins_with, same, look, lines, squeezed, put_blank, no_return}
use Rattle.c_tree.specs.Tokens.{Meaning, Real, Fault, IsPiece, IsFresh, every, Spells, nothing, byte, blank, more, IsDirective, a_line}
use Rattle.c_tree.specs.Tokens as is
use Rattle.c_tree.proofs.Sight.{some, seen, seen_line, line_meaning, class_meaning}
use Rattle.c_tree.proofs.Fronts.{Covers, Got, front_covers, front_split, every_append, every_weaker, same_sound, look_test}

-- ---- squeezed lines

squeezed_blank : (b : ℕ) (bs : List ℕ) → is_blank b ≡ true → squeezed (b ∷ bs) ≡ put_blank (squeezed bs)
squeezed_blank b bs h = ap (λ (t : Bool). elim t as (λ _. List ℕ) [ true ↦ put_blank (squeezed bs) | false ↦ b ∷ squeezed bs ]) h

squeezed_byte : (b : ℕ) (bs : List ℕ) → is_blank b ≡ false → squeezed (b ∷ bs) ≡ b ∷ squeezed bs
squeezed_byte b bs h = ap (λ (t : Bool). elim t as (λ _. List ℕ) [ true ↦ put_blank (squeezed bs) | false ↦ b ∷ squeezed bs ]) h

put_yes : (b : ℕ) (bs : List ℕ) → is_blank b ≡ true → put_blank (b ∷ bs) ≡ b ∷ bs
put_yes b bs h = ap (λ (t : Bool). elim t as (λ _. List ℕ) [ true ↦ b ∷ bs | false ↦ 32 ∷ b ∷ bs ]) h

put_no : (b : ℕ) (bs : List ℕ) → is_blank b ≡ false → put_blank (b ∷ bs) ≡ 32 ∷ b ∷ bs
put_no b bs h = ap (λ (t : Bool). elim t as (λ _. List ℕ) [ true ↦ b ∷ bs | false ↦ 32 ∷ b ∷ bs ]) h

put_again : (b : ℕ) (bs : List ℕ) (t : Bool) → is_blank b ≡ t → put_blank (put_blank (b ∷ bs)) ≡ put_blank (b ∷ bs)
put_again b bs true h = ap put_blank (put_yes b bs h)
put_again b bs false h = ap put_blank (put_no b bs h) ∙ sym (put_no b bs h)

put_twice : (s : List ℕ) → put_blank (put_blank s) ≡ put_blank s
put_twice [] = refl
put_twice (b ∷ bs) = put_again b bs _ refl

squeezed_blanks : (z : List ℕ) → every is_blank z ≡ true → squeezed z ≡ []
squeezed_blanks [] h = refl
squeezed_blanks (b ∷ bs) h = let q = and_parts (is_blank b) (every is_blank bs) h in squeezed_blank b bs q.0 ∙ ap put_blank (squeezed_blanks bs q.1)

squeezed_form : (form v z : List ℕ) → Spells form v → every is_blank z ≡ true → squeezed (v ++ z) ≡ squeezed form
squeezed_form _ _ z nothing h = squeezed_blanks z h
squeezed_form _ _ z (byte b form w e s) h = squeezed_byte b (w ++ z) e ∙ (ap (λ t. b ∷ t) (squeezed_form form w z s h) ∙ sym (squeezed_byte b form e))
squeezed_form _ _ z (blank c b form w e f s) h = squeezed_blank b (w ++ z) f ∙ (ap put_blank (squeezed_form form w z s h) ∙ sym (squeezed_blank c form e))
squeezed_form _ _ z (more c b form w e f s) h =
    let i : squeezed (w ++ z) ≡ put_blank (squeezed form) = squeezed_form (c ∷ form) w z s h ∙ squeezed_blank c form e in
    squeezed_blank b (w ++ z) f ∙ (ap put_blank i ∙ (put_twice (squeezed form) ∙ sym (squeezed_blank c form e)))

-- the text is spelled as s, but for last blanks
abbrev Split : List ℕ → List ℕ → Type 0
Split text s = (v z : List ℕ) × (text ≡ v ++ z) × Spells s v × (every is_blank z ≡ true)

spells_nothing : (v : List ℕ) → Spells [] v → v ≡ []
spells_nothing _ nothing = refl

split_put : (b c : ℕ) (bs cs : List ℕ) (t : Bool) → is_blank b ≡ true → is_blank c ≡ t → Split bs (c ∷ cs) → Split (b ∷ bs) (put_blank (c ∷ cs))
split_put b c bs cs true h k (v, z, e, s, f) = subst (Split (b ∷ bs)) (sym (put_yes c cs k)) (b ∷ v, z, ap (λ t. b ∷ t) e, more c b cs v k h s, f)
split_put b c bs cs false h k (v, z, e, s, f) = subst (Split (b ∷ bs)) (sym (put_no c cs k)) (b ∷ v, z, ap (λ t. b ∷ t) e, blank 32 b (c ∷ cs) v refl h s, f)

split_blank : (b : ℕ) (bs s : List ℕ) → is_blank b ≡ true → Split bs s → Split (b ∷ bs) (put_blank s)
split_blank b bs [] h (v, z, e, s, f) =
    let k : bs ≡ z = e ∙ ap (λ t. t ++ z) (spells_nothing v s) in
    ([], b ∷ bs, refl, nothing, and_from (is_blank b) _ h (ap (every is_blank) k ∙ f))
split_blank b bs (c ∷ cs) h d = split_put b c bs cs _ h refl d

split_step : (b : ℕ) (bs : List ℕ) (t : Bool) → is_blank b ≡ t → Split bs (squeezed bs) → Split (b ∷ bs) (squeezed (b ∷ bs))
split_step b bs true h d = subst (Split (b ∷ bs)) (sym (squeezed_blank b bs h)) (split_blank b bs (squeezed bs) h d)
split_step b bs false h (v, z, e, s, f) = subst (Split (b ∷ bs)) (sym (squeezed_byte b bs h)) (b ∷ v, z, ap (λ t. b ∷ t) e, byte b (squeezed bs) v h s, f)

split : (text : List ℕ) → Split text (squeezed text)
split [] = ([], [], refl, nothing, refl)
split (b ∷ bs) = split_step b bs _ refl (split bs)

-- ---- the carriage return at a line's end

abbrev no_cr : ℕ → Bool
no_cr b = not (nat_eq b 13)

no_return_push : (u : List ℕ) → no_return (u ++ 13 ∷ []) ≡ u
no_return_push [] = refl
no_return_push (b ∷ []) = refl
no_return_push (b ∷ c ∷ bs) = ap (λ t. b ∷ t) (no_return_push (c ∷ bs))

no_return_same : (u : List ℕ) → every no_cr u ≡ true → no_return u ≡ u
no_return_same [] h = refl
no_return_same (b ∷ []) h = let e : nat_eq b 13 ≡ false = grind (arith, nat_tests) in rw (e, no_return) refl
no_return_same (b ∷ c ∷ bs) h = ap (λ t. b ∷ t) (no_return_same (c ∷ bs) (and_parts (not (nat_eq b 13)) _ h).1)

abbrev Ending : List ℕ → Type 0
Ending w = (end : List ℕ) × (w ≡ no_return w ++ end) × ((end ≡ []) ⊎ (end ≡ 13 ∷ []))

ending_last : (b : ℕ) (t : Bool) → nat_eq b 13 ≡ t → Ending (b ∷ [])
ending_last b true h = (13 ∷ [], rw (h, no_return) (ap (λ x. x ∷ []) (eqb-true b 13 h)), inr refl)
ending_last b false h = ([], rw (h, no_return) refl, inl refl)

ending : (w : List ℕ) → Ending w
ending [] = ([], refl, inl refl)
ending (b ∷ []) = ending_last b _ refl
ending (b ∷ c ∷ bs) = let h = ending (c ∷ bs) in (h.0, ap (λ t. b ∷ t) h.1, h.2)

-- ---- the forms

-- squeezed, with no carriage return and no line feed, and with # first
abbrev is_form : List ℕ → Class → Bool
is_form w c = same (squeezed w) w && (every no_cr w && (every in_line w && begins_with (codes "#") w))

form_facts : (form : List ℕ) (c : Class) → look lines form ≡ Some c → (squeezed form ≡ form) × (every no_cr form ≡ true) × (every in_line form ≡ true) × (begins_with (codes "#") form ≡ true)
form_facts form c h =
    let t : is_form form c ≡ true = look_test is_form lines form c refl h in
    let q = and_parts (same (squeezed form) form) _ t in
    let r = and_parts (every no_cr form) _ q.1 in
    let s = and_parts (every in_line form) _ r.1 in
    (same_sound (squeezed form) form q.0, r.0, s.0, s.1)

spells_every : (p : ℕ → Bool) (form v : List ℕ) → ((b : ℕ) → is_blank b ≡ true → p b ≡ true) → Spells form v → every p form ≡ true → every p v ≡ true
spells_every p _ _ w nothing h = refl
spells_every p _ _ w (byte b form v e s) h = let q = and_parts (p b) (every p form) h in and_from (p b) _ q.0 (spells_every p form v w s q.1)
spells_every p _ _ w (blank c b form v e f s) h = let q = and_parts (p c) (every p form) h in and_from (p b) _ (w b f) (spells_every p form v w s q.1)
spells_every p _ _ w (more c b form v e f s) h = and_from (p b) _ (w b f) (spells_every p (c ∷ form) v w s h)

blank_no_hash : (b : ℕ) → is_blank b ≡ true → nat_eq 35 b ≡ false
blank_no_hash b h = grind (arith, nat_tests)

not_hash : (P : Type 0) (b : ℕ) (bs : List ℕ) → is_blank b ≡ true → begins_with (codes "#") (b ∷ bs) ≡ true → P
not_hash P b bs h k = absurd (false≢true (sym (blank_no_hash b h) ∙ (and_parts (nat_eq 35 b) true k).0))

-- where the form begins with # so does what is spelled so
abbrev Hashed : List ℕ → Type 0
Hashed v = (body : List ℕ) × (v ≡ 35 ∷ body)

spells_hash : (form v : List ℕ) → Spells form v → begins_with (codes "#") form ≡ true → Hashed v
spells_hash _ _ nothing h = absurd (false≢true h)
spells_hash _ _ (byte b form v e s) h = (v, λ i. sym (eqb-true 35 b (and_parts (nat_eq 35 b) true h).0) i ∷ v)
spells_hash _ _ (blank c b form v e f s) h = not_hash (Hashed (b ∷ v)) c form e h
spells_hash _ _ (more c b form v e f s) h = not_hash (Hashed (b ∷ v)) c form e h

blank_no_return : (b : ℕ) → is_blank b ≡ true → no_cr b ≡ true
blank_no_return b h = grind (arith, nat_tests)

blank_in_line : (b : ℕ) → is_blank b ≡ true → in_line b ≡ true
blank_in_line b h = grind (arith, nat_tests)

end_in_line : (end : List ℕ) → (end ≡ []) ⊎ (end ≡ 13 ∷ []) → every in_line end ≡ true
end_in_line end (inl e) = ap (every in_line) e
end_in_line end (inr e) = ap (every in_line) e

-- a directive's bytes
pub directive_line : (w : List ℕ) (c : Class) → IsDirective w c → (body : List ℕ) × (w ≡ 35 ∷ body) × (every in_line body ≡ true)
directive_line w c (a_line form v z end e h s b d) =
    let f = form_facts form c h in
    let k = spells_hash form v s f.3 in
    let body : List ℕ = k.0 ++ (z ++ end) in
    let q : w ≡ 35 ∷ body = e ∙ ap (λ t. t ++ (z ++ end)) k.1 in
    let every_v : every in_line v ≡ true = spells_every in_line form v blank_in_line s f.2 in
    let every_z : every in_line z ≡ true = every_weaker is_blank in_line z blank_in_line b in
    let all : every in_line w ≡ true = ap (every in_line) e ∙ every_append in_line v (z ++ end) every_v (every_append in_line z end every_z (end_in_line end d)) in
    (body, q, (and_parts (in_line 35) (every in_line body) (sym (ap (every in_line) q) ∙ all)).1)

no_return_end : (u end : List ℕ) → every no_cr u ≡ true → (end ≡ []) ⊎ (end ≡ 13 ∷ []) → no_return (u ++ end) ≡ u
no_return_end u end h (inl e) = ap (λ t. no_return (u ++ t)) e ∙ (ap no_return (append-nil u) ∙ no_return_same u h)
no_return_end u end h (inr e) = ap (λ t. no_return (u ++ t)) e ∙ no_return_push u

-- the scan finds a directive's class
pub directive_found : (w : List ℕ) (c : Class) → IsDirective w c → look lines (squeezed (no_return w)) ≡ Some c
directive_found w c (a_line form v z end e h s b d) =
    let f = form_facts form c h in
    let every_v : every no_cr v ≡ true = spells_every no_cr form v blank_no_return s f.1 in
    let every_z : every no_cr z ≡ true = every_weaker is_blank no_cr z blank_no_return b in
    let n : no_return w ≡ v ++ z = ap no_return (e ∙ sym (append_assoc v z end)) ∙ no_return_end (v ++ z) end (every_append no_cr v z every_v every_z) d in
    ap (λ t. look lines t) (ap squeezed n ∙ (squeezed_form form v z s b ∙ f.0)) ∙ h

pub found_directive : (w : List ℕ) (c : Class) → look lines (squeezed (no_return w)) ≡ Some c → IsDirective w c
found_directive w c h =
    let r = ending w in
    let (v, z, e, s, b) = split (no_return w) in
    a_line (squeezed (no_return w)) v z r.0 (r.1 ∙ (ap (λ t. t ++ r.0) e ∙ append_assoc v z r.0)) h s b r.2

-- ---- lines

line_true : (fresh : Bool) (w : List ℕ) (c : Class) → fresh ≡ true → look lines (squeezed (no_return w)) ≡ Some c → line_meaning fresh w ≡ Real c value.Nothing
line_true fresh w c h k = ap (λ t. line_meaning t w) h ∙ ap class_meaning k

covers_line : (fresh : Bool) (body after : List ℕ) → every in_line body ≡ true → Covers (35 ∷ body) (line_meaning fresh (35 ∷ body)) (seen fresh (35 ∷ (body ++ after)))
covers_line fresh body after h = subst (Covers (35 ∷ body) (line_meaning fresh (35 ∷ body))) (sym (seen_line fresh (body ++ after))) (front_covers in_line (line_meaning fresh) (35 ∷ body) after h)

pub covers_directive : (before : List ℕ) (fresh : Bool) (w after : List ℕ) (c : Class) → Decides fresh (IsFresh before) → IsDirective w c → IsFresh before → Covers w (Real c value.Nothing) (seen fresh (w ++ after))
covers_directive before fresh w after c d h f =
    let (body, e, k) = directive_line w c h in
    let m : line_meaning fresh (35 ∷ body) ≡ Real c value.Nothing = ap (line_meaning fresh) (sym e) ∙ line_true fresh w c (d.1 f) (directive_found w c h) in
    let g : Covers (35 ∷ body) (Real c value.Nothing) (seen fresh ((35 ∷ body) ++ after)) = subst (λ n. Covers (35 ∷ body) n (seen fresh (35 ∷ (body ++ after)))) m (covers_line fresh body after k) in
    subst (λ t. Covers t (Real c value.Nothing) (seen fresh (t ++ after))) (sym e) g

wrong_found : (w : List ℕ) (o : Option Class) → look lines (squeezed (no_return w)) ≡ o → ((c : Class) → IsDirective w c → ⊥) → class_meaning o ≡ Fault 0
wrong_found w None e h = refl
wrong_found w (Some c) e h = absurd (h c (found_directive w c e))

wrong_meaning : (before : List ℕ) (fresh : Bool) (w : List ℕ) → Decides fresh (IsFresh before) → ((c : Class) → IsDirective w c → IsFresh before → ⊥) → line_meaning fresh w ≡ Fault 0
wrong_meaning before true w d h = wrong_found w _ refl (λ c k. h c k (d.0 refl))
wrong_meaning before false w d h = refl

pub covers_wrong_line : (before : List ℕ) (fresh : Bool) (body after : List ℕ) → Decides fresh (IsFresh before) → every in_line body ≡ true → ((c : Class) → IsDirective (35 ∷ body) c → IsFresh before → ⊥) → Covers (35 ∷ body) (Fault 0) (seen fresh (35 ∷ (body ++ after)))
covers_wrong_line before fresh body after d k h = subst (λ n. Covers (35 ∷ body) n (seen fresh (35 ∷ (body ++ after)))) (wrong_meaning before fresh (35 ∷ body) d h) (covers_line fresh body after k)

-- what a line is a piece as
is_class : (before body : List ℕ) (o : Option Class) → look lines (squeezed (no_return (35 ∷ body))) ≡ o → IsFresh before → every in_line body ≡ true → IsPiece before (35 ∷ body) (class_meaning o)
is_class before body None e f h = is.wrong_line body refl h (λ c k g. let q : None ≡ Some c = sym e ∙ directive_found (35 ∷ body) c k in let bad : ⊥ = cc in bad)
is_class before body (Some c) e f h = is.directive c (found_directive (35 ∷ body) c e) f

is_line : (before : List ℕ) (fresh : Bool) (body : List ℕ) → Decides fresh (IsFresh before) → every in_line body ≡ true → IsPiece before (35 ∷ body) (line_meaning fresh (35 ∷ body))
is_line before true body d h = is_class before body _ refl (d.0 refl) h
is_line before false body d h = is.wrong_line body refl h (λ c k g. false≢true (d.1 g))

pub got_line : (before : List ℕ) (fresh : Bool) (bs : List ℕ) → Decides fresh (IsFresh before) → Got before (35 ∷ bs) (seen fresh (35 ∷ bs))
got_line before fresh bs d =
    let s = front_split in_line bs in
    let w : List ℕ = 35 ∷ front in_line bs in
    let g : Got before (35 ∷ bs) (some (length w) (line_meaning fresh w)) = (w, s.0, ap (λ t. 35 ∷ t) s.1, refl, is_line before fresh (front in_line bs) d s.2) in
    subst (Got before (35 ∷ bs)) (sym (seen_line fresh bs)) g
