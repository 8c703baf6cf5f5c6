-- A word is read exactly where the table has it.
use Rattle.std.proofs.Common.{◌≡◌, ℕ, zero, suc, ◌+◌, ◌≤◌, true, false, eqb, cond, List, [], ◌∷◌, ◌++◌, length, take, drop, Option, Some, None, refl, sym, ap, subst, ◌∙◌, arith}
use Rattle.std.specs.Prelude.{position, option_map}
use Rattle.std.proofs.lemmas.Bool.{eqb-true}
use Rattle.std.proofs.lemmas.Bool.Decides.{nat_tests}
use Rattle.std.proofs.lemmas.List.{nil_from_length}
use Rattle.std.proofs.lemmas.Option.{cond_some, none-some, same_Some}
use Rattle.job_core.specs.declared.event.Event.TheVariants.{Turn, Deliver, Control, Sweep, Wave, Kill, Restart}
use Rattle.job_schedule.specs.declared.schedule.Word.{Word}
use Rattle.job_schedule.specs.declared.schedule.Word.TheVariants.{One, Round}
use Rattle.job_schedule.specs.declared.schedule.Entry.{Entry}
use Rattle.job_schedule.specs.Reading.{alone, by_letter, control_of, deliver_of, entry_at, entry_of, kill_of, number_of, rank_of, ranks_of, repeats_of, times, turn_of, word_of}
use Rattle.job_schedule.specs.Words.{IsEntry, IsNumber, IsRank, IsWord, turn, kill, deliver, control, sweep, wave, restart, round, once, repeated}
use Rattle.job_schedule.proofs.Options.{choose, map_some, then_some}
use Rattle.job_schedule.proofs.Readable.{number_complete, number_sound}
use Rattle.job_schedule.proofs.Ranks.{rank_complete, rank_digits, rank_sound, ranks_complete, ranks_sound}
use Rattle.job_schedule.proofs.Signs.{IsSign, after_is, before_is, digits_lack, lacks, lacks_append, parted, position_is, position_none}

-- ---- words

with_letter : (l k : ℕ) (u v : List ℕ) → l ≡ k → u ≡ v → l ∷ u ≡ k ∷ v
with_letter l k u v e f = ap (λ x. x ∷ u) e ∙ ap (λ t. k ∷ t) f

turn_sound : (l : ℕ) (u : List ℕ) (w : Word) → l ≡ 116 → turn_of u ≡ Some w → IsWord (l ∷ u) w
turn_sound l u w q e = let m = map_some (λ r. One (Turn r)) (rank_of u) w e in subst (IsWord (l ∷ u)) m.2 (turn u m.0 (with_letter l 116 u u q refl) (rank_sound u m.0 m.1))

kill_sound : (l : ℕ) (u : List ℕ) (w : Word) → l ≡ 107 → kill_of u ≡ Some w → IsWord (l ∷ u) w
kill_sound l u w q e = let m = map_some (λ r. One (Kill r)) (rank_of u) w e in subst (IsWord (l ∷ u)) m.2 (kill u m.0 (with_letter l 107 u u q refl) (rank_sound u m.0 m.1))

deliver_sound : (l : ℕ) (u : List ℕ) (w : Word) → l ≡ 100 → deliver_of u ≡ Some w → IsWord (l ∷ u) w
deliver_sound l u w q e =
    let m = map_some (λ pair. One (Deliver pair.0 pair.1)) (ranks_of u) w e in
    let r = ranks_sound u m.0.0 m.0.1 m.1 in
    subst (IsWord (l ∷ u)) m.2 (deliver r.u r.v m.0.0 m.0.1 (with_letter l 100 u (r.u ++ 62 ∷ r.v) q r.parts) r.from_is r.to_is)

control_sound : (l : ℕ) (u : List ℕ) (w : Word) → l ≡ 99 → control_of u ≡ Some w → IsWord (l ∷ u) w
control_sound l u w q e =
    let m = map_some (λ pair. One (Control pair.0 pair.1)) (ranks_of u) w e in
    let r = ranks_sound u m.0.0 m.0.1 m.1 in
    subst (IsWord (l ∷ u)) m.2 (control r.u r.v m.0.0 m.0.1 (with_letter l 99 u (r.u ++ 62 ∷ r.v) q r.parts) r.from_is r.to_is)

alone_sound : (l k : ℕ) (u : List ℕ) (x w : Word) → l ≡ k → IsWord (k ∷ []) x → alone x u ≡ Some w → IsWord (l ∷ u) w
alone_sound l k u x w q h e =
    let m = cond_some (eqb (length u) 0) x w e in
    let text : k ∷ [] ≡ l ∷ u = sym (with_letter l k u [] q (nil_from_length u (eqb-true (length u) 0 m.0))) in
    subst (λ t. IsWord t w) text (subst (IsWord (k ∷ [])) m.1 h)

letter_sound : (l : ℕ) (u : List ℕ) (w : Word) → by_letter l u ≡ Some w → IsWord (l ∷ u) w
letter_sound l u w =
    choose l 116 (turn_of u) _ w (turn_sound l u w)
    (choose l 107 (kill_of u) _ w (kill_sound l u w)
    (choose l 100 (deliver_of u) _ w (deliver_sound l u w)
    (choose l 99 (control_of u) _ w (control_sound l u w)
    (choose l 115 (alone (One Sweep) u) _ w (λ q. alone_sound l 115 u (One Sweep) w q (sweep refl))
    (choose l 119 (alone (One Wave) u) _ w (λ q. alone_sound l 119 u (One Wave) w q (wave refl))
    (choose l 120 (alone (One Restart) u) _ w (λ q. alone_sound l 120 u (One Restart) w q (restart refl))
    (choose l 114 (alone Round u) None w (λ q. alone_sound l 114 u Round w q (round refl)) (λ e. absurd (none-some w e)))))))))

word_sound : (text : List ℕ) (w : Word) → word_of text ≡ Some w → IsWord text w
word_sound [] w e = absurd (none-some w e)
word_sound (l ∷ u) w e = letter_sound l u w e

word_complete : (text : List ℕ) (w : Word) → IsWord text w → word_of text ≡ Some w
word_complete text w (turn u r e h) = ap word_of e ∙ ap (option_map (λ r. One (Turn r))) (rank_complete u r h)
word_complete text w (kill u r e h) = ap word_of e ∙ ap (option_map (λ r. One (Kill r))) (rank_complete u r h)
word_complete text w (deliver u v a b e h k) = ap word_of e ∙ ap (option_map (λ pair. One (Deliver pair.0 pair.1))) (ranks_complete u v a b h k)
word_complete text w (control u v a b e h k) = ap word_of e ∙ ap (option_map (λ pair. One (Control pair.0 pair.1))) (ranks_complete u v a b h k)
word_complete text w (sweep e) = ap word_of e
word_complete text w (wave e) = ap word_of e
word_complete text w (restart e) = ap word_of e
word_complete text w (round e) = ap word_of e

-- ---- entries

star : IsSign 42
star = record { other = λ b low high. grind (arith, nat_tests) }

rank_lacks : (u : List ℕ) (r : ℕ) → IsRank u r → lacks 42 u ≡ true
rank_lacks u r h = digits_lack 42 star u (rank_digits u r h)

ranks_lack : (u v : List ℕ) (a b : ℕ) → IsRank u a → IsRank v b → lacks 42 (u ++ 62 ∷ v) ≡ true
ranks_lack u v a b h k = lacks_append 42 u (62 ∷ v) (rank_lacks u a h) (rank_lacks v b k)

-- no word has a star
word_lacks : (text : List ℕ) (w : Word) → IsWord text w → lacks 42 text ≡ true
word_lacks text w (turn u r e h) = ap (lacks 42) e ∙ rank_lacks u r h
word_lacks text w (kill u r e h) = ap (lacks 42) e ∙ rank_lacks u r h
word_lacks text w (deliver u v a b e h k) = ap (lacks 42) e ∙ ranks_lack u v a b h k
word_lacks text w (control u v a b e h k) = ap (lacks 42) e ∙ ranks_lack u v a b h k
word_lacks text w (sweep e) = ap (lacks 42) e
word_lacks text w (wave e) = ap (lacks 42) e
word_lacks text w (restart e) = ap (lacks 42) e
word_lacks text w (round e) = ap (lacks 42) e

-- some number is at least one, or it is zero
one_or_more : (n k : ℕ) → cond (eqb n 0) None (Some n) ≡ Some k → (n ≡ k) × (1 ≤ k)
one_or_more zero k e = absurd (none-some k e)
one_or_more (suc n) k e =
    let some : eqb (suc n) 0 ≡ false = grind (arith, nat_tests) in
    let q : suc n ≡ k = same_Some (suc n) k (rw some at e) in
    (q, omega arith)

repeats_sound : (text : List ℕ) (n : ℕ) → repeats_of text ≡ Some n → IsNumber text n × (1 ≤ n)
repeats_sound text n e =
    let m = then_some (λ n. cond (eqb n 0) None (Some n)) (number_of text) n e in
    let q = one_or_more m.0 n m.2 in
    (subst (IsNumber text) q.0 (number_sound text m.0 m.1), q.1)

repeats_complete : (text : List ℕ) (n : ℕ) → IsNumber text n → 1 ≤ n → repeats_of text ≡ Some n
repeats_complete text n h k =
    let some : eqb n 0 ≡ false = grind (arith, nat_tests) in
    rw (number_complete text n h, some) refl

times_parts : (n : Option ℕ) (o : Option Word) (e : Entry) → times n o ≡ Some e → (w : Word) × (k : ℕ) × (o ≡ Some w) × (n ≡ Some k) × (record { what = w; repeats = k } ≡ e)
times_parts n o e h =
    let w = then_some (λ w. option_map (λ k. record { what = w; repeats = k }) n) o e h in
    let k = map_some (λ k. record { what = w.0; repeats = k }) n e w.2 in
    (w.0, k.0, w.1, k.1, k.2)

entry_at_sound : (text : List ℕ) (o : Option ℕ) (e : Entry) → position (λ b. eqb b 42) text ≡ o → entry_at text o ≡ Some e → IsEntry text e
entry_at_sound text None e q h =
    let m = times_parts (Some 1) (word_of text) e h in
    let one : 1 ≡ m.1 = same_Some 1 m.1 m.3 in
    subst (IsEntry text) (ap (λ k. record { what = m.0; repeats = k }) one ∙ m.4) (once m.0 (word_sound text m.0 m.2))
entry_at_sound text (Some at) e q h =
    let m = times_parts (repeats_of (drop (at + 1) text)) (word_of (take at text)) e h in
    let n = repeats_sound (drop (at + 1) text) m.1 m.3 in
    subst (IsEntry text) m.4 (repeated (take at text) (drop (at + 1) text) m.0 m.1 (parted 42 at text q) (word_sound (take at text) m.0 m.2) n.0 n.1)

pub entry_sound : (text : List ℕ) (e : Entry) → entry_of text ≡ Some e → IsEntry text e
entry_sound text e h = entry_at_sound text (position (λ b. eqb b 42) text) e refl h

repeated_read : (u v : List ℕ) (w : Word) (n : ℕ) → IsWord u w → IsNumber v n → 1 ≤ n → entry_of (u ++ 42 ∷ v) ≡ Some (record { what = w; repeats = n })
repeated_read u v w n h k p = rw (position_is 42 u v (word_lacks u w h), before_is 42 u v, after_is 42 u v, word_complete u w h, repeats_complete v n k p) refl

pub entry_complete : (text : List ℕ) (e : Entry) → IsEntry text e → entry_of text ≡ Some e
entry_complete text e (once w h) = rw (position_none 42 text (word_lacks text w h), word_complete text w h) refl
entry_complete text e (repeated u v w n q h k p) = ap entry_of q ∙ repeated_read u v w n h k p
