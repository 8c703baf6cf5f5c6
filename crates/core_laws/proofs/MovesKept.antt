-- Each move keeps all that is kept.
use Rattle.std.proofs.Common.{pred, ◌≡◌, ℕ, suc, ◌<◌, Bool, true, false, not, List, [], ◌∷◌, ◌++◌, Some, None, sym, refl, ap, ◌∙◌, subst, ⊎_elim, arith}
use Rattle.std.specs.Prelude.{◌&&◌, ◌==◌}
use Rattle.mpi_words.specs.declared.control.Control.{Control}
use Rattle.mpi_words.specs.declared.control.Control.TheVariants.{Request, Count, Ready, Stop, Stopped, Restored}
use Rattle.mpi_words.specs.declared.message.Message.{Message}
use Rattle.core_laws.specs.Rows.{set_at, set_pair}
use Rattle.core_laws.specs.Protocol.{Packet, Layer, Protocol, Class, Late, Intra, Early, class_of, layer_arrive, layer_send, layer_save, move_send, move_save, move_arrive, move_ready, move_stop, move_pop, move_asked, move_told, move_note_ready, move_note_stopped, move_tell_stop, move_commit, move_start, move_skip, move_tell_restored, move_note_restored}
use Rattle.core_laws.specs.Invariant.{Kept, PairKept, RankKept, DownKept, UpKept, rank_kept, down_kept, up_kept, In, Out, in_of, out_of, bit, readies_on, stoppeds_on}
use Rattle.core_laws.proofs.Changes
use Rattle.core_laws.proofs.Changes.{each_set, at_set, at_set_both, row_frame, column_frame, set_pair-row, set_pair-column, set_pair-here, set_pair-other_row, set_pair-other_column, push_pair, push_row, pop_pair}
use Rattle.core_laws.proofs.PairMoves.{pair_send, pair_save_out, pair_save_in, pair_late, pair_intra, pair_early, pair_push, pair_pop, pair_told, pair_ready, pair_stop, pair_commit, pair_skip}
use Rattle.core_laws.proofs.RankMoves
use Rattle.std.proofs.lemmas.Bool.{false≢true, cases_order, lt-ltb, le-ltb, eq-eqb, ne_eqb}

pub kept_send : (n : ℕ) (p : Protocol) (s r : ℕ) (m : Message) → Kept n p → Kept n (move_send p s r m)
kept_send n p s r m h = record {
  skips = λ e x y a b. at_set (λ l. l.skip y ≡ 0) p.layer s (layer_send (p.layer s) r) x (λ d. ap (λ z. (p.layer z).skip y) (sym d) ∙ h.skips e x y a b) (λ _. h.skips e x y a b);
  noted = h.noted;
  rank = each_set (λ x l. x < n → rank_kept p.wave l) p.layer s (layer_send (p.layer s) r) (h.rank s) (λ x _. h.rank x);
  down = each_set (λ x l. x < n → down_kept p.wave l (p.control 0 x)) p.layer s (layer_send (p.layer s) r) (h.down s) (λ x _. h.down x);
  up = each_set (λ x l. x < n → up_kept p.wave (p.wave.ready x) (p.wave.stopped x) l (p.control x 0)) p.layer s (layer_send (p.layer s) r) (h.up s) (λ x _. h.up x);
  pair = row_frame (λ x y S R q. x < n → y < n → PairKept p.wave.line (out_of S y) (in_of R x) q (p.control x y)) p.layer s (layer_send (p.layer s) r) p.channel (set_pair p.channel s r after)
      h.pair
      (λ x y e. set_pair-other_row p.channel s r after x y e)
      (λ y R old a b. subst (λ q. PairKept p.wave.line (out_of (layer_send (p.layer s) r) y) (in_of R s) q (p.control s y)) (sym (set_pair-row p.channel s r after y))
      (at_set_both (λ k q. PairKept p.wave.line (record { epoch = (p.layer s).epoch; logging = (p.layer s).logging; sent = k; skip = (p.layer s).skip y }) (in_of R s) q (p.control s y)) (p.layer s).sent (p.channel s) r (suc ((p.layer s).sent r)) after y
      (λ e. subst (λ z. PairKept p.wave.line (record { epoch = (p.layer s).epoch; logging = (p.layer s).logging; sent = suc ((p.layer s).sent z); skip = (p.layer s).skip y }) (in_of R s) (p.channel s z ++ new ∷ []) (p.control s y)) e
      (pair_send p.wave.line (out_of (p.layer s) y) (in_of R s) (p.channel s y) (p.control s y) m (old a b)))
      (λ e. old a b)))
      (λ x S q old. old);
}
  where
    new : Packet
    new = (m, record { epoch = (p.layer s).epoch; logging = (p.layer s).logging })

    after : List Packet
    after = p.channel s r ++ new ∷ []

arrive_skip : (l : Layer) (s : ℕ) (cl : Class) (y : ℕ) → (layer_arrive l s cl).skip y ≡ l.skip y
arrive_skip l s Late y = refl
arrive_skip l s Intra y = refl
arrive_skip l s Early y = refl

-- an arrival that counts as cl
arrives : (n : ℕ) (p : Protocol) (s r : ℕ) (x : Packet) (rest : List Packet) (cl : Class) → p.channel s r ≡ x ∷ rest → Kept n p
    → ((y : ℕ) → y ≡ s → (o : Out) (c : List Control) → PairKept p.wave.line o (in_of (p.layer r) y) (x ∷ rest) c → PairKept p.wave.line o (in_of (layer_arrive (p.layer r) s cl) y) rest c)
    → ((y : ℕ) → (y ≡ s → ⊥) → in_of (layer_arrive (p.layer r) s cl) y ≡ in_of (p.layer r) y)
    → rank_kept p.wave (p.layer r) ≡ rank_kept p.wave (layer_arrive (p.layer r) s cl)
    → ((c : List Control) → down_kept p.wave (p.layer r) c ≡ down_kept p.wave (layer_arrive (p.layer r) s cl) c)
    → ((a b : Bool) (c : List Control) → up_kept p.wave a b (p.layer r) c ≡ up_kept p.wave a b (layer_arrive (p.layer r) s cl) c)
    → ((y : ℕ) → out_of (p.layer r) y ≡ out_of (layer_arrive (p.layer r) s cl) y)
    → Kept n (record p { layer = set_at p.layer r (layer_arrive (p.layer r) s cl); channel = set_pair p.channel s r rest })
arrives n p s r x rest cl is h at_s others e₁ e₂ e₃ e₄ = record {
  skips = λ e x y a b. at_set (λ l. l.skip y ≡ 0) p.layer r after x (λ d. arrive_skip (p.layer r) s cl y ∙ ap (λ z. (p.layer z).skip y) (sym d) ∙ h.skips e x y a b) (λ _. h.skips e x y a b);
  noted = h.noted;
  rank = each_set (λ y l. y < n → rank_kept p.wave l) p.layer r after (λ b. subst (λ T. T) e₁ (h.rank r b)) (λ y _. h.rank y);
  down = each_set (λ y l. y < n → down_kept p.wave l (p.control 0 y)) p.layer r after (λ b. subst (λ T. T) (e₂ (p.control 0 r)) (h.down r b)) (λ y _. h.down y);
  up = each_set (λ y l. y < n → up_kept p.wave (p.wave.ready y) (p.wave.stopped y) l (p.control y 0)) p.layer r after (λ b. subst (λ T. T) (e₃ (p.wave.ready r) (p.wave.stopped r) (p.control r 0)) (h.up r b)) (λ y _. h.up y);
  pair = column_frame (λ y z S R q. y < n → z < n → PairKept p.wave.line (out_of S z) (in_of R y) q (p.control y z)) p.layer r after p.channel (set_pair p.channel s r rest)
      h.pair
      (λ y z e. set_pair-other_column p.channel s r rest y z e)
      (λ y S old a b. subst (λ q. PairKept p.wave.line (out_of S r) (in_of after y) q (p.control y r)) (sym (set_pair-column p.channel s r rest y))
      (at_set (λ q. PairKept p.wave.line (out_of S r) (in_of after y) q (p.control y r)) (λ z. p.channel z r) s rest y
      (λ e. at_s y e (out_of S r) (p.control y r) (subst (λ q. PairKept p.wave.line (out_of S r) (in_of (p.layer r) y) q (p.control y r)) (ap (λ z. p.channel z r) e ∙ is) (old a b)))
      (λ e. subst (λ i. PairKept p.wave.line (out_of S r) i (p.channel y r) (p.control y r)) (sym (others y e)) (old a b))))
      (λ z R q old a b. subst (λ o. PairKept p.wave.line o (in_of R r) q (p.control r z)) (e₄ z) (old a b));
}
  where
    after : Layer
    after = layer_arrive (p.layer r) s cl

at_own : (f : ℕ → ℕ) (s y : ℕ) → y ≡ s → suc (f y) ≡ set_at f s (suc (f s)) y
at_own f s y e = at_set (λ k. suc (f y) ≡ k) f s (suc (f s)) y (λ _. ap (λ z. suc (f z)) e) (λ g. absurd (g e))

pub kept_late : (n : ℕ) (p : Protocol) (s r : ℕ) (x : Packet) (rest : List Packet) → p.channel s r ≡ x ∷ rest → x.1.epoch < (p.layer r).epoch → Kept n p
    → Kept n (record p { layer = set_at p.layer r (layer_arrive (p.layer r) s Late); channel = set_pair p.channel s r rest })
kept_late n p s r x rest is at h = arrives n p s r x rest Late is h
    (λ y e o c old. subst (λ k. PairKept p.wave.line o (record (in_of (p.layer r) y) { old = k }) rest c) (at_own (p.layer r).old s y e) (pair_late p.wave.line o (in_of (p.layer r) y) x rest c at old))
    (λ y e. ap (λ k. record (in_of (p.layer r) y) { old = k }) (Changes.set_at-other (p.layer r).old s (suc ((p.layer r).old s)) y e))
    refl (λ c. refl) (λ a b c. refl) (λ y. refl)

pub kept_intra : (n : ℕ) (p : Protocol) (s r : ℕ) (x : Packet) (rest : List Packet) → p.channel s r ≡ x ∷ rest → x.1.epoch ≡ (p.layer r).epoch → Kept n p
    → Kept n (record p { layer = set_at p.layer r (layer_arrive (p.layer r) s Intra); channel = set_pair p.channel s r rest })
kept_intra n p s r x rest is at h = arrives n p s r x rest Intra is h
    (λ y e o c old. subst (λ k. PairKept p.wave.line o (record (in_of (p.layer r) y) { got = k }) rest c) (at_own (p.layer r).got s y e) (pair_intra p.wave.line o (in_of (p.layer r) y) x rest c at old))
    (λ y e. ap (λ k. record (in_of (p.layer r) y) { got = k }) (Changes.set_at-other (p.layer r).got s (suc ((p.layer r).got s)) y e))
    refl (λ c. refl) (λ a b c. refl) (λ y. refl)

pub kept_early : (n : ℕ) (p : Protocol) (s r : ℕ) (x : Packet) (rest : List Packet) → p.channel s r ≡ x ∷ rest → (p.layer r).epoch < x.1.epoch → Kept n p
    → Kept n (record p { layer = set_at p.layer r (layer_arrive (p.layer r) s Early); channel = set_pair p.channel s r rest })
kept_early n p s r x rest is at h = arrives n p s r x rest Early is h
    (λ y e o c old. subst (λ k. PairKept p.wave.line o (record (in_of (p.layer r) y) { early = k }) rest c) (at_own (p.layer r).early s y e) (pair_early p.wave.line o (in_of (p.layer r) y) x rest c at old))
    (λ y e. ap (λ k. record (in_of (p.layer r) y) { early = k }) (Changes.set_at-other (p.layer r).early s (suc ((p.layer r).early s)) y e))
    refl (λ c. refl) (λ a b c. refl) (λ y. refl)

-- the class of an arrival
pub class_late : (mine its : ℕ) → its < mine → class_of mine its ≡ Late
class_late mine its e = rw (lt-ltb its mine e) refl

pub class_intra : (mine its : ℕ) → its ≡ mine → class_of mine its ≡ Intra
class_intra mine its e = rw (le-ltb its mine (omega arith), eq-eqb its mine e) refl

pub class_early : (mine its : ℕ) → mine < its → class_of mine its ≡ Early
class_early mine its e = rw (le-ltb its mine (omega arith), ne_eqb its mine (λ d. omega arith)) refl

pub kept_arrive : (n : ℕ) (p : Protocol) (s r : ℕ) (x : Packet) (rest : List Packet) → p.channel s r ≡ x ∷ rest → Kept n p → Kept n (move_arrive p s r x.1.epoch rest)
kept_arrive n p s r x rest is h = ⊎_elim
    (λ d. subst result (sym (class_intra (p.layer r).epoch x.1.epoch d)) (kept_intra n p s r x rest is d h))
    (λ d. ⊎_elim
    (λ b. subst result (sym (class_late (p.layer r).epoch x.1.epoch b)) (kept_late n p s r x rest is b h))
    (λ b. subst result (sym (class_early (p.layer r).epoch x.1.epoch b)) (kept_early n p s r x rest is b h)) d)
    (cases_order x.1.epoch (p.layer r).epoch)
  where
    result : Class → Type 0
    result cl = Kept n (record p { layer = set_at p.layer r (layer_arrive (p.layer r) s cl); channel = set_pair p.channel s r rest })

-- a rank that was asked saves
pub kept_save : (n : ℕ) (p : Protocol) (r : ℕ) → r < n → (p.layer r).asked ≡ true → Kept n p → Kept n (move_save p r)
kept_save n p r inside asked h = record {
  skips = λ e x y a b. at_set (λ l. l.skip y ≡ 0) p.layer r (layer_save (p.layer r)) x (λ d. ap (λ z. (p.layer z).skip y) (sym d) ∙ h.skips e x y a b) (λ _. h.skips e x y a b);
  noted = h.noted;
  rank = each_set (λ x l. x < n → rank_kept p.wave l) p.layer r (layer_save (p.layer r)) (λ b. RankMoves.rank_save p.wave.line p.wave.under_way p.wave.stop_told (p.layer r).epoch (p.layer r).logging (p.layer r).was_ready (p.control 0 r) (h.rank r b) (was_asked b)) (λ x _. h.rank x);
  down = λ x b. push_row (down_kept p.wave (set_at p.layer r (layer_save (p.layer r)) x)) p.control r says 0 x
      (λ c old. down_says x c old)
      (each_set (λ x l. x < n → down_kept p.wave l (p.control 0 x)) p.layer r (layer_save (p.layer r)) (λ b. RankMoves.down_save p.wave.line p.wave.under_way p.wave.stop_told (p.layer r).epoch (p.control 0 r) (h.rank r b).least (was_asked b)) (λ x _. h.down x) x b);
  up = λ x b. push_row (up_kept p.wave (p.wave.ready x) (p.wave.stopped x) (set_at p.layer r (layer_save (p.layer r)) x)) p.control r says x 0
      (λ c old. up_says x c old)
      (each_set (λ x l. x < n → up_kept p.wave (p.wave.ready x) (p.wave.stopped x) l (p.control x 0)) p.layer r (layer_save (p.layer r)) (λ b. RankMoves.up_save p.wave.line (p.wave.ready r) (p.wave.stopped r) (p.layer r).epoch (p.layer r).logging (p.layer r).was_ready (p.control r 0) at (h.up r b)) (λ x _. h.up x) x b);
  pair = row_frame (λ x y S R c. x < n → y < n → PairKept p.wave.line (out_of S y) (in_of R x) (p.channel x y) c) p.layer r (layer_save (p.layer r)) p.control (set_at p.control r row)
      h.pair
      (λ x y e. ap (λ g. g y) (Changes.set_at-other p.control r row x e))
      (λ y R old a b. subst (λ g. PairKept p.wave.line (out_of (layer_save (p.layer r)) y) (in_of R r) (p.channel r y) (g y)) (sym (Changes.set_at-same p.control r row))
      (pair_save_out p.wave.line (suc (p.layer r).epoch) (out_of (p.layer r) y) (in_of R r) (p.channel r y) (p.control r y) at (skip_none y a b) (old a b)))
      (λ x S c old a b. pair_save_in p.wave.line (out_of S r) (in_of (p.layer r) x) (p.channel x r) c at (old a b));
}
  where
    says : ℕ → Control
    says x = Count (suc (p.layer r).epoch) ((p.layer r).sent x)

    row : ℕ → List Control
    row x = p.control r x ++ says x ∷ []

    skip_none : (y : ℕ) → r < n → y < n → (p.layer r).skip y ≡ 0
    skip_none y a b = h.skips (RankMoves.way_on p.wave.line p.wave.under_way p.wave.stop_told (p.layer r).epoch (p.control 0 r) (was_asked' a)) r y a b
      where
        was_asked' : r < n → DownKept p.wave.line p.wave.under_way p.wave.stop_told (p.layer r).epoch true (p.control 0 r)
        was_asked' b = subst (λ a. DownKept p.wave.line p.wave.under_way p.wave.stop_told (p.layer r).epoch a (p.control 0 r)) asked (h.down r b)

    was_asked : r < n → DownKept p.wave.line p.wave.under_way p.wave.stop_told (p.layer r).epoch true (p.control 0 r)
    was_asked b = subst (λ a. DownKept p.wave.line p.wave.under_way p.wave.stop_told (p.layer r).epoch a (p.control 0 r)) asked (h.down r b)

    at : (p.layer r).epoch ≡ p.wave.line
    at = omega (arith, (was_asked inside).request, (h.rank r inside).least, RankMoves.bit_most p.wave.under_way)

    down_says : (x : ℕ) (c : List Control) → down_kept p.wave (set_at p.layer r (layer_save (p.layer r)) x) c → down_kept p.wave (set_at p.layer r (layer_save (p.layer r)) x) (c ++ says x ∷ [])
    down_says x c old = let l = set_at p.layer r (layer_save (p.layer r)) x in RankMoves.down_push p.wave.line p.wave.under_way p.wave.stop_told l.epoch l.asked c (says x) tt refl old

    up_says : (x : ℕ) (c : List Control) → up_kept p.wave (p.wave.ready x) (p.wave.stopped x) (set_at p.layer r (layer_save (p.layer r)) x) c → up_kept p.wave (p.wave.ready x) (p.wave.stopped x) (set_at p.layer r (layer_save (p.layer r)) x) (c ++ says 0 ∷ [])
    up_says x c old = let l = set_at p.layer r (layer_save (p.layer r)) x in RankMoves.up_push p.wave.line (p.wave.ready x) (p.wave.stopped x) l.epoch l.logging l.was_ready c (says 0) refl refl old

-- A change of one layer that a pair's channel does not see, for those from it and those to it.
layer_change : (n : ℕ) (p : Protocol) (r : ℕ) (v : Layer)
    → ((y : ℕ) (i : In) (q : List Packet) (c : List Control) → y < n → r < n → PairKept p.wave.line (out_of (p.layer r) y) i q c → PairKept p.wave.line (out_of v y) i q c)
    → ((y : ℕ) (o : Out) (q : List Packet) (c : List Control) → y < n → r < n → PairKept p.wave.line o (in_of (p.layer r) y) q c → PairKept p.wave.line o (in_of v y) q c)
    → Kept n p → (x y : ℕ) → x < n → y < n → PairKept p.wave.line (out_of (set_at p.layer r v x) y) (in_of (set_at p.layer r v y) x) (p.channel x y) (p.control x y)
layer_change n p r v from to h = column_frame (λ x y S R q. x < n → y < n → PairKept p.wave.line (out_of S y) (in_of R x) q (p.control x y)) p.layer r v p.channel p.channel
    h.pair (λ x y e. refl)
    (λ x S old a b. to x (out_of S r) (p.channel x r) (p.control x r) a b (old a b))
    (λ y R q old a b. from y (in_of R r) q (p.control r y) b a (old a b))

-- a rank is ready where what was told is what is old, from each rank
pub kept_ready : (n : ℕ) (p : Protocol) (r : ℕ) → r < n → (p.layer r).logging ≡ true → (p.layer r).was_ready ≡ false
    → ((x : ℕ) → x < n → (p.layer r).told x ≡ Some ((p.layer r).old x)) → Kept n p → Kept n (move_ready p r)
kept_ready n p r inside logs fresh all_told h = record {
  skips = λ e x y a b. at_set (λ l. l.skip y ≡ 0) p.layer r (after) x (λ d. ap (λ z. (p.layer z).skip y) (sym d) ∙ h.skips e x y a b) (λ _. h.skips e x y a b);
  noted = h.noted;
  rank = each_set (λ x l. x < n → rank_kept p.wave l) p.layer r after (λ b. RankMoves.rank_ready p.wave.line p.wave.under_way p.wave.stop_told (p.layer r).epoch (p.layer r).logging (p.layer r).was_ready (h.rank r b)) (λ x _. h.rank x);
  down = λ x b. push_pair (down_kept p.wave (set_at p.layer r after x)) p.control r 0 ready 0 x
      (λ c old. let l = set_at p.layer r after x in RankMoves.down_push p.wave.line p.wave.under_way p.wave.stop_told l.epoch l.asked c ready tt refl old)
      (each_set (λ x l. x < n → down_kept p.wave l (p.control 0 x)) p.layer r after (h.down r) (λ x _. h.down x) x b);
  up = each_set (λ x l. x < n → up_kept p.wave (p.wave.ready x) (p.wave.stopped x) l (set_pair p.control r 0 pushed x 0)) p.layer r after
      (λ b. subst (up_kept p.wave (p.wave.ready r) (p.wave.stopped r) after) (sym (set_pair-here p.control r 0 pushed))
      (RankMoves.up_ready p.wave.line (p.wave.ready r) (p.wave.stopped r) (p.layer r).epoch (p.layer r).logging (p.control r 0) (p.layer r).epoch at
      (subst (λ w. UpKept p.wave.line (p.wave.ready r) (p.wave.stopped r) (p.layer r).epoch (p.layer r).logging w (p.control r 0)) fresh (h.up r b))))
      (λ x e b. subst (up_kept p.wave (p.wave.ready x) (p.wave.stopped x) (p.layer x)) (sym (set_pair-other_row p.control r 0 pushed x 0 e)) (h.up x b));
  pair = λ x y a b. push_pair (λ c. PairKept p.wave.line (out_of (set_at p.layer r after x) y) (in_of (set_at p.layer r after y) x) (p.channel x y) c) p.control r 0 ready x y
      (λ c old. pair_push p.wave.line (out_of (set_at p.layer r after x) y) (in_of (set_at p.layer r after y) x) (p.channel x y) c ready refl old)
      (layer_change n p r after (λ y i q c _ _ old. old) (λ y o q c b _ old. pair_ready p.wave.line o (in_of (p.layer r) y) q c at (all_told y b) old) h x y a b);
}
  where
    after : Layer
    after = record (p.layer r) { was_ready = true; told = λ x. None }

    ready : Control
    ready = Ready (p.layer r).epoch

    pushed : List Control
    pushed = p.control r 0 ++ ready ∷ []

    at : (p.layer r).epoch ≡ suc p.wave.line
    at = RankMoves.logs_at p.wave.line p.wave.under_way p.wave.stop_told (p.layer r).epoch (p.layer r).logging (p.layer r).was_ready logs (h.rank r inside)

pub kept_stop : (n : ℕ) (p : Protocol) (r : ℕ) → r < n → (p.layer r).logging ≡ true → p.wave.stop_told ≡ true → Kept n p → Kept n (move_stop p r)
kept_stop n p r inside logs told h = record {
  skips = λ e x y a b. at_set (λ l. l.skip y ≡ 0) p.layer r (after) x (λ d. ap (λ z. (p.layer z).skip y) (sym d) ∙ h.skips e x y a b) (λ _. h.skips e x y a b);
  noted = h.noted;
  rank = each_set (λ x l. x < n → rank_kept p.wave l) p.layer r after
      (λ b. subst (λ t. RankKept p.wave.line p.wave.under_way t (p.layer r).epoch false (p.layer r).was_ready) (sym told) (RankMoves.rank_stop p.wave.line p.wave.under_way (p.layer r).epoch (p.layer r).logging (p.layer r).was_ready (subst (λ t. RankKept p.wave.line p.wave.under_way t (p.layer r).epoch (p.layer r).logging (p.layer r).was_ready) told (h.rank r b))))
      (λ x _. h.rank x);
  down = λ x b. push_pair (down_kept p.wave (set_at p.layer r after x)) p.control r 0 stopped 0 x
      (λ c old. let l = set_at p.layer r after x in RankMoves.down_push p.wave.line p.wave.under_way p.wave.stop_told l.epoch l.asked c stopped tt refl old)
      (each_set (λ x l. x < n → down_kept p.wave l (p.control 0 x)) p.layer r after (h.down r) (λ x _. h.down x) x b);
  up = each_set (λ x l. x < n → up_kept p.wave (p.wave.ready x) (p.wave.stopped x) l (set_pair p.control r 0 pushed x 0)) p.layer r after
      (λ b. subst (up_kept p.wave (p.wave.ready r) (p.wave.stopped r) after) (sym (set_pair-here p.control r 0 pushed))
      (RankMoves.up_stop p.wave.line (p.wave.ready r) (p.wave.stopped r) (p.layer r).epoch (p.layer r).was_ready (p.control r 0) (p.layer r).epoch at
      (subst (λ w. UpKept p.wave.line (p.wave.ready r) (p.wave.stopped r) (p.layer r).epoch w (p.layer r).was_ready (p.control r 0)) logs (h.up r b))))
      (λ x e b. subst (up_kept p.wave (p.wave.ready x) (p.wave.stopped x) (p.layer x)) (sym (set_pair-other_row p.control r 0 pushed x 0 e)) (h.up x b));
  pair = λ x y a b. push_pair (λ c. PairKept p.wave.line (out_of (set_at p.layer r after x) y) (in_of (set_at p.layer r after y) x) (p.channel x y) c) p.control r 0 stopped x y
      (λ c old. pair_push p.wave.line (out_of (set_at p.layer r after x) y) (in_of (set_at p.layer r after y) x) (p.channel x y) c stopped refl old)
      (layer_change n p r after (λ y i q c _ _ old. pair_stop p.wave.line (out_of (p.layer r) y) i q c old) (λ y o q c _ _ old. old) h x y a b);
}
  where
    after : Layer
    after = record (p.layer r) { logging = false }

    stopped : Control
    stopped = Stopped (p.layer r).epoch

    pushed : List Control
    pushed = p.control r 0 ++ stopped ∷ []

    at : (p.layer r).epoch ≡ suc p.wave.line
    at = RankMoves.logs_at p.wave.line p.wave.under_way p.wave.stop_told (p.layer r).epoch (p.layer r).logging (p.layer r).was_ready logs (h.rank r inside)

-- The controls that are taken.
pub kept_asked : (n : ℕ) (p : Protocol) (r l : ℕ) (rest : List Control) → p.control 0 r ≡ Request l ∷ rest → Kept n p → Kept n (move_asked p 0 r rest)
kept_asked n p r l rest is h = record {
  skips = λ e x y a b. at_set (λ l. l.skip y ≡ 0) p.layer r (after) x (λ d. ap (λ z. (p.layer z).skip y) (sym d) ∙ h.skips e x y a b) (λ _. h.skips e x y a b);
  noted = h.noted;
  rank = each_set (λ x l. x < n → rank_kept p.wave l) p.layer r after (h.rank r) (λ x _. h.rank x);
  down = each_set (λ x l. x < n → down_kept p.wave l (set_pair p.control 0 r rest 0 x)) p.layer r after
      (λ b. subst (down_kept p.wave after) (sym (set_pair-here p.control 0 r rest)) (RankMoves.down_request p.wave.line p.wave.under_way p.wave.stop_told (p.layer r).epoch l (p.layer r).asked rest (subst (down_kept p.wave (p.layer r)) is (h.down r b))))
      (λ x e b. subst (down_kept p.wave (p.layer x)) (sym (set_pair-other_column p.control 0 r rest 0 x e)) (h.down x b));
  up = λ x b. pop_pair (up_kept p.wave (p.wave.ready x) (p.wave.stopped x) (set_at p.layer r after x)) p.control 0 r (Request l) rest x 0 is
      (λ old. let k = set_at p.layer r after x in RankMoves.up_pop p.wave.line (p.wave.ready x) (p.wave.stopped x) k.epoch k.logging k.was_ready (Request l) rest refl refl old)
      (each_set (λ x l. x < n → up_kept p.wave (p.wave.ready x) (p.wave.stopped x) l (p.control x 0)) p.layer r after (h.up r) (λ x _. h.up x) x b);
  pair = λ x y a b. pop_pair (λ c. PairKept p.wave.line (out_of (set_at p.layer r after x) y) (in_of (set_at p.layer r after y) x) (p.channel x y) c) p.control 0 r (Request l) rest x y is
      (λ old. pair_pop p.wave.line (out_of (set_at p.layer r after x) y) (in_of (set_at p.layer r after y) x) (p.channel x y) (Request l) rest refl old)
      (layer_change n p r after (λ y i q c _ _ old. old) (λ y o q c _ _ old. old) h x y a b);
}
  where
    after : Layer
    after = record (p.layer r) { asked = true }

-- a Ready, a Stop, a Stopped or a Count that goes and changes nothing else
pub kept_pop_stop : (n : ℕ) (p : Protocol) (r l : ℕ) (rest : List Control) → p.control 0 r ≡ Stop l ∷ rest → Kept n p → Kept n (move_pop p 0 r rest)
kept_pop_stop n p r l rest is h = record {
  skips = h.skips;
  noted = h.noted;
  rank = h.rank;
  down = λ x b. pop_pair (down_kept p.wave (p.layer x)) p.control 0 r (Stop l) rest 0 x is (λ old. RankMoves.down_pop p.wave.line p.wave.under_way p.wave.stop_told (p.layer x).epoch (p.layer x).asked (Stop l) rest refl old) (h.down x b);
  up = λ x b. pop_pair (up_kept p.wave (p.wave.ready x) (p.wave.stopped x) (p.layer x)) p.control 0 r (Stop l) rest x 0 is (λ old. RankMoves.up_pop p.wave.line (p.wave.ready x) (p.wave.stopped x) (p.layer x).epoch (p.layer x).logging (p.layer x).was_ready (Stop l) rest refl refl old) (h.up x b);
  pair = λ x y a b. pop_pair (λ c. PairKept p.wave.line (out_of (p.layer x) y) (in_of (p.layer y) x) (p.channel x y) c) p.control 0 r (Stop l) rest x y is (λ old. pair_pop p.wave.line (out_of (p.layer x) y) (in_of (p.layer y) x) (p.channel x y) (Stop l) rest refl old) (h.pair x y a b);
}

pub kept_told : (n : ℕ) (p : Protocol) (s r l k : ℕ) (rest : List Control) → p.control s r ≡ Count l k ∷ rest → Kept n p → Kept n (move_told p s r k rest)
kept_told n p s r l k rest is h = record {
  skips = λ e x y a b. at_set (λ l. l.skip y ≡ 0) p.layer r (after) x (λ d. ap (λ z. (p.layer z).skip y) (sym d) ∙ h.skips e x y a b) (λ _. h.skips e x y a b);
  noted = h.noted;
  rank = each_set (λ x l. x < n → rank_kept p.wave l) p.layer r after (h.rank r) (λ x _. h.rank x);
  down = λ x b. pop_pair (down_kept p.wave (set_at p.layer r after x)) p.control s r (Count l k) rest 0 x is
      (λ old. let j = set_at p.layer r after x in RankMoves.down_pop p.wave.line p.wave.under_way p.wave.stop_told j.epoch j.asked (Count l k) rest refl old)
      (each_set (λ x l. x < n → down_kept p.wave l (p.control 0 x)) p.layer r after (h.down r) (λ x _. h.down x) x b);
  up = λ x b. pop_pair (up_kept p.wave (p.wave.ready x) (p.wave.stopped x) (set_at p.layer r after x)) p.control s r (Count l k) rest x 0 is
      (λ old. let j = set_at p.layer r after x in RankMoves.up_pop p.wave.line (p.wave.ready x) (p.wave.stopped x) j.epoch j.logging j.was_ready (Count l k) rest refl refl old)
      (each_set (λ x l. x < n → up_kept p.wave (p.wave.ready x) (p.wave.stopped x) l (p.control x 0)) p.layer r after (h.up r) (λ x _. h.up x) x b);
  pair = column_frame (λ y z S R c. y < n → z < n → PairKept p.wave.line (out_of S z) (in_of R y) (p.channel y z) c) p.layer r after p.control (set_pair p.control s r rest)
      h.pair
      (λ y z e. set_pair-other_column p.control s r rest y z e)
      (λ y S old a b. subst (λ c. PairKept p.wave.line (out_of S r) (in_of after y) (p.channel y r) c) (sym (set_pair-column p.control s r rest y))
      (at_set_both (λ t c. PairKept p.wave.line (out_of S r) (record (in_of (p.layer r) y) { told = t }) (p.channel y r) c) (p.layer r).told (λ z. p.control z r) s (Some k) rest y
      (λ e. pair_told p.wave.line l k (out_of S r) (in_of (p.layer r) y) (p.channel y r) rest (subst (λ c. PairKept p.wave.line (out_of S r) (in_of (p.layer r) y) (p.channel y r) c) (ap (λ z. p.control z r) e ∙ is) (old a b)))
      (λ e. old a b)))
      (λ z R c old a b. old a b);
}
  where
    after : Layer
    after = record (p.layer r) { told = set_at (p.layer r).told s (Some k) }

pub kept_note_ready : (n : ℕ) (p : Protocol) (r l : ℕ) (rest : List Control) → p.control r 0 ≡ Ready l ∷ rest → Kept n p → Kept n (move_note_ready p r 0 rest)
kept_note_ready n p r l rest is h = record {
  skips = h.skips;
  noted = λ e x b. at_set (λ t. t ≡ true) p.wave.ready r true x (λ _. refl) (λ _. h.noted e x b);
  rank = h.rank;
  down = λ x b. pop_pair (down_kept p.wave (p.layer x)) p.control r 0 (Ready l) rest 0 x is (λ old. RankMoves.down_pop p.wave.line p.wave.under_way p.wave.stop_told (p.layer x).epoch (p.layer x).asked (Ready l) rest refl old) (h.down x b);
  up = each_set (λ x t. x < n → up_kept p.wave t (p.wave.stopped x) (p.layer x) (set_pair p.control r 0 rest x 0)) p.wave.ready r true
      (λ b. subst (up_kept p.wave true (p.wave.stopped r) (p.layer r)) (sym (set_pair-here p.control r 0 rest)) (RankMoves.up_note_ready p.wave.line l (p.wave.ready r) (p.wave.stopped r) (p.layer r).epoch (p.layer r).logging (p.layer r).was_ready rest (subst (up_kept p.wave (p.wave.ready r) (p.wave.stopped r) (p.layer r)) is (h.up r b))))
      (λ x e b. subst (up_kept p.wave (p.wave.ready x) (p.wave.stopped x) (p.layer x)) (sym (set_pair-other_row p.control r 0 rest x 0 e)) (h.up x b));
  pair = λ x y a b. pop_pair (λ c. PairKept p.wave.line (out_of (p.layer x) y) (in_of (p.layer y) x) (p.channel x y) c) p.control r 0 (Ready l) rest x y is (λ old. pair_pop p.wave.line (out_of (p.layer x) y) (in_of (p.layer y) x) (p.channel x y) (Ready l) rest refl old) (h.pair x y a b);
}

pub kept_note_stopped : (n : ℕ) (p : Protocol) (r l : ℕ) (rest : List Control) → p.control r 0 ≡ Stopped l ∷ rest → Kept n p → Kept n (move_note_stopped p r 0 rest)
kept_note_stopped n p r l rest is h = record {
  skips = h.skips;
  noted = h.noted;
  rank = h.rank;
  down = λ x b. pop_pair (down_kept p.wave (p.layer x)) p.control r 0 (Stopped l) rest 0 x is (λ old. RankMoves.down_pop p.wave.line p.wave.under_way p.wave.stop_told (p.layer x).epoch (p.layer x).asked (Stopped l) rest refl old) (h.down x b);
  up = each_set (λ x t. x < n → up_kept p.wave (p.wave.ready x) t (p.layer x) (set_pair p.control r 0 rest x 0)) p.wave.stopped r true
      (λ b. subst (up_kept p.wave (p.wave.ready r) true (p.layer r)) (sym (set_pair-here p.control r 0 rest)) (RankMoves.up_note_stopped p.wave.line l (p.wave.ready r) (p.wave.stopped r) (p.layer r).epoch (p.layer r).logging (p.layer r).was_ready rest (subst (up_kept p.wave (p.wave.ready r) (p.wave.stopped r) (p.layer r)) is (h.up r b))))
      (λ x e b. subst (up_kept p.wave (p.wave.ready x) (p.wave.stopped x) (p.layer x)) (sym (set_pair-other_row p.control r 0 rest x 0 e)) (h.up x b));
  pair = λ x y a b. pop_pair (λ c. PairKept p.wave.line (out_of (p.layer x) y) (in_of (p.layer y) x) (p.channel x y) c) p.control r 0 (Stopped l) rest x y is (λ old. pair_pop p.wave.line (out_of (p.layer x) y) (in_of (p.layer y) x) (p.channel x y) (Stopped l) rest refl old) (h.pair x y a b);
}

-- all are ready
pub kept_tell_stop : (n : ℕ) (p : Protocol) → ((x : ℕ) → x < n → p.wave.ready x ≡ true) → Kept n p → Kept n (move_tell_stop p)
kept_tell_stop n p all h = record {
  skips = h.skips;
  noted = λ e. all;
  rank = λ x b. RankMoves.rank_tell p.wave.line p.wave.under_way p.wave.stop_told (p.layer x).epoch (p.layer x).logging (p.layer x).was_ready (noted x b) (h.rank x b);
  down = λ x b. subst (λ g. DownKept p.wave.line p.wave.under_way true (p.layer x).epoch (p.layer x).asked (g x)) (sym (Changes.set_at-same p.control 0 (λ y. p.control 0 y ++ Stop (suc p.wave.line) ∷ []))) (RankMoves.down_tell p.wave.line (suc p.wave.line) p.wave.under_way p.wave.stop_told (p.layer x).epoch (p.layer x).asked (p.control 0 x) (h.down x b));
  up = λ x b. push_row (up_kept p.wave (p.wave.ready x) (p.wave.stopped x) (p.layer x)) p.control 0 (λ y. Stop (suc p.wave.line)) x 0 (λ c old. RankMoves.up_push p.wave.line (p.wave.ready x) (p.wave.stopped x) (p.layer x).epoch (p.layer x).logging (p.layer x).was_ready c (Stop (suc p.wave.line)) refl refl old) (h.up x b);
  pair = λ x y a b. push_row (λ c. PairKept p.wave.line (out_of (p.layer x) y) (in_of (p.layer y) x) (p.channel x y) c) p.control 0 (λ y. Stop (suc p.wave.line)) x y (λ c old. pair_push p.wave.line (out_of (p.layer x) y) (in_of (p.layer y) x) (p.channel x y) c (Stop (suc p.wave.line)) refl old) (h.pair x y a b);
}
  where
    noted : (x : ℕ) → x < n → ((p.layer x).epoch ≡ suc p.wave.line) × ((p.layer x).was_ready ≡ true)
    noted x b = RankMoves.noted_is_ready p.wave.line (p.wave.stopped x) (p.layer x).epoch (p.layer x).logging (p.layer x).was_ready (p.control x 0) (subst (λ t. up_kept p.wave t (p.wave.stopped x) (p.layer x) (p.control x 0)) (all x b) (h.up x b))

-- all have stopped
pub kept_commit : (n : ℕ) (p : Protocol) → ((x : ℕ) → x < n → p.wave.stopped x ≡ true) → Kept n p → Kept n (move_commit p)
kept_commit n p all h = record {
  skips = λ e. absurd (false≢true e);
  noted = λ e. absurd (false≢true e);
  rank = λ x b. subst (λ g. RankKept (suc p.wave.line) false false (p.layer x).epoch g (p.layer x).was_ready) (sym (noted x b).1) (RankMoves.rank_commit p.wave.line p.wave.under_way p.wave.stop_told (p.layer x).epoch (p.layer x).was_ready (noted x b).0 (subst (λ g. RankKept p.wave.line p.wave.under_way p.wave.stop_told (p.layer x).epoch g (p.layer x).was_ready) (noted x b).1 (h.rank x b)));
  down = λ x b. RankMoves.down_commit p.wave.line p.wave.under_way p.wave.stop_told (p.layer x).epoch (p.layer x).asked (p.control 0 x) (noted x b).0 (h.down x b);
  up = λ x b. RankMoves.up_commit p.wave.line (p.wave.ready x) (p.wave.stopped x) (p.layer x).epoch (p.layer x).logging (p.layer x).was_ready (p.control x 0) (noted x b) (was_ready x b) (readies x b) (stoppeds x b) (h.up x b);
  pair = λ x y a b. pair_commit p.wave.line (out_of (p.layer x) y) (in_of (p.layer y) x) (p.channel x y) (p.control x y) (noted x a).0 (noted y b).0 (was_ready y b) (h.pair x y a b);
}
  where
    noted : (x : ℕ) → x < n → ((p.layer x).epoch ≡ suc p.wave.line) × ((p.layer x).logging ≡ false)
    noted x b = RankMoves.noted_is_stopped p.wave.line (p.wave.ready x) (p.layer x).epoch (p.layer x).logging (p.layer x).was_ready (p.control x 0) (subst (λ t. up_kept p.wave (p.wave.ready x) t (p.layer x) (p.control x 0)) (all x b) (h.up x b))

    readies : (x : ℕ) → x < n → readies_on (p.control x 0) ≡ 0
    readies x b = omega (arith, (h.up x b).readies, ap bit (h.noted ((h.rank x b).stopped (noted x b).0 (noted x b).1) x b), RankMoves.bit_most (((p.layer x).epoch == suc p.wave.line) && (p.layer x).was_ready))

    stoppeds : (x : ℕ) → x < n → stoppeds_on (p.control x 0) ≡ 0
    stoppeds x b = omega (arith, (h.up x b).stoppeds, ap bit (all x b), RankMoves.bit_most (((p.layer x).epoch == suc p.wave.line) && not (p.layer x).logging))

    was_ready : (x : ℕ) → x < n → (p.layer x).was_ready ≡ true
    was_ready x b = ((h.rank x b).all_ready ((h.rank x b).stopped (noted x b).0 (noted x b).1)).1

-- a wave begins
pub kept_start : (n : ℕ) (p : Protocol) → p.wave.under_way ≡ false → ((s r : ℕ) → s < n → r < n → (p.layer s).skip r ≡ 0) → Kept n p → Kept n (move_start p)
kept_start n p none none_left h = record {
  skips = λ e. none_left;
  noted = λ e. absurd (false≢true e);
  rank = λ x b. RankMoves.rank_start p.wave.line p.wave.stop_told (p.layer x).epoch (p.layer x).logging (p.layer x).was_ready (idle_rank x b);
  down = λ x b. subst (λ g. DownKept p.wave.line true false (p.layer x).epoch (p.layer x).asked (g x)) (sym (Changes.set_at-same p.control 0 (λ y. p.control 0 y ++ Request (suc p.wave.line) ∷ []))) (RankMoves.down_start p.wave.line (suc p.wave.line) p.wave.stop_told (p.layer x).epoch (p.layer x).asked (p.control 0 x) (subst (λ w. DownKept p.wave.line w p.wave.stop_told (p.layer x).epoch (p.layer x).asked (p.control 0 x)) none (h.down x b)) (h.rank x b).least);
  up = λ x b. push_row (UpKept p.wave.line false false (p.layer x).epoch (p.layer x).logging (p.layer x).was_ready) p.control 0 (λ y. Request (suc p.wave.line)) x 0 (λ c old. RankMoves.up_push p.wave.line false false (p.layer x).epoch (p.layer x).logging (p.layer x).was_ready c (Request (suc p.wave.line)) refl refl old)
      (RankMoves.up_start p.wave.line (p.wave.ready x) (p.wave.stopped x) (p.layer x).epoch (p.layer x).logging (p.layer x).was_ready (p.control x 0) (omega (arith, (idle_rank x b).most, (idle_rank x b).least)) (h.up x b));
  pair = λ x y a b. push_row (λ c. PairKept p.wave.line (out_of (p.layer x) y) (in_of (p.layer y) x) (p.channel x y) c) p.control 0 (λ y. Request (suc p.wave.line)) x y (λ c old. pair_push p.wave.line (out_of (p.layer x) y) (in_of (p.layer y) x) (p.channel x y) c (Request (suc p.wave.line)) refl old) (h.pair x y a b);
}
  where
    idle_rank : (x : ℕ) → x < n → RankKept p.wave.line false p.wave.stop_told (p.layer x).epoch (p.layer x).logging (p.layer x).was_ready
    idle_rank x b = subst (λ w. RankKept p.wave.line w p.wave.stop_told (p.layer x).epoch (p.layer x).logging (p.layer x).was_ready) none (h.rank x b)

-- a send that is left out
pub kept_skip : (n : ℕ) (p : Protocol) (s r : ℕ) → 0 < (p.layer s).skip r → Kept n p → Kept n (move_skip p s r)
kept_skip n p s r more h = record {
  rank = each_set (λ x l. x < n → rank_kept p.wave l) p.layer s after (h.rank s) (λ x _. h.rank x);
  down = each_set (λ x l. x < n → down_kept p.wave l (p.control 0 x)) p.layer s after (h.down s) (λ x _. h.down x);
  up = each_set (λ x l. x < n → up_kept p.wave (p.wave.ready x) (p.wave.stopped x) l (p.control x 0)) p.layer s after (h.up s) (λ x _. h.up x);
  pair = layer_change n p s after
      (λ y i q c _ _ old. at_set_both (λ k j. PairKept p.wave.line (record { epoch = (p.layer s).epoch; logging = (p.layer s).logging; sent = k; skip = j }) i q c) (p.layer s).sent (p.layer s).skip r (suc ((p.layer s).sent r)) (pred ((p.layer s).skip r)) y
      (λ e. subst (λ z. PairKept p.wave.line (record { epoch = (p.layer s).epoch; logging = (p.layer s).logging; sent = suc ((p.layer s).sent z); skip = pred ((p.layer s).skip z) }) i q c) e
      (pair_skip p.wave.line (out_of (p.layer s) y) i q c (subst (λ z. 0 < (p.layer s).skip z) (sym e) more) old))
      (λ e. old))
      (λ y o q c _ _ old. old) h;
  skips = λ e x y a b. at_set (λ l. l.skip y ≡ 0) p.layer s after x
      (λ d. at_set (λ k. k ≡ 0) (p.layer s).skip r (pred ((p.layer s).skip r)) y (λ f. ap pred (sym (ap (p.layer s).skip f) ∙ ap (λ z. (p.layer z).skip y) (sym d) ∙ h.skips e x y a b)) (λ _. ap (λ z. (p.layer z).skip y) (sym d) ∙ h.skips e x y a b))
      (λ _. h.skips e x y a b);
  noted = h.noted;
}
  where
    after : Layer
    after = record (p.layer s) { sent = set_at (p.layer s).sent r (suc ((p.layer s).sent r)); skip = set_at (p.layer s).skip r (pred ((p.layer s).skip r)) }

-- a rank tells that it restores no more, and rank 0 notes it
pub kept_tell_restored : (n : ℕ) (p : Protocol) (r : ℕ) → Kept n p → Kept n (move_tell_restored p r)
kept_tell_restored n p r h = record {
  skips = h.skips;
  noted = h.noted;
  rank = h.rank;
  down = λ x b. push_pair (down_kept p.wave (p.layer x)) p.control r 0 Restored 0 x (λ c old. RankMoves.down_push p.wave.line p.wave.under_way p.wave.stop_told (p.layer x).epoch (p.layer x).asked c Restored tt refl old) (h.down x b);
  up = λ x b. push_pair (up_kept p.wave (p.wave.ready x) (p.wave.stopped x) (p.layer x)) p.control r 0 Restored x 0 (λ c old. RankMoves.up_push p.wave.line (p.wave.ready x) (p.wave.stopped x) (p.layer x).epoch (p.layer x).logging (p.layer x).was_ready c Restored refl refl old) (h.up x b);
  pair = λ x y a b. push_pair (λ c. PairKept p.wave.line (out_of (p.layer x) y) (in_of (p.layer y) x) (p.channel x y) c) p.control r 0 Restored x y (λ c old. pair_push p.wave.line (out_of (p.layer x) y) (in_of (p.layer y) x) (p.channel x y) c Restored refl old) (h.pair x y a b);
}

pub kept_note_restored : (n : ℕ) (p : Protocol) (s r : ℕ) (rest : List Control) → p.control s r ≡ Restored ∷ rest → Kept n p → Kept n (move_note_restored p s r rest)
kept_note_restored n p s r rest is h = record {
  skips = h.skips;
  noted = h.noted;
  rank = h.rank;
  down = λ x b. pop_pair (down_kept p.wave (p.layer x)) p.control s r Restored rest 0 x is (λ old. RankMoves.down_pop p.wave.line p.wave.under_way p.wave.stop_told (p.layer x).epoch (p.layer x).asked Restored rest refl old) (h.down x b);
  up = λ x b. pop_pair (up_kept p.wave (p.wave.ready x) (p.wave.stopped x) (p.layer x)) p.control s r Restored rest x 0 is (λ old. RankMoves.up_pop p.wave.line (p.wave.ready x) (p.wave.stopped x) (p.layer x).epoch (p.layer x).logging (p.layer x).was_ready Restored rest refl refl old) (h.up x b);
  pair = λ x y a b. pop_pair (λ c. PairKept p.wave.line (out_of (p.layer x) y) (in_of (p.layer y) x) (p.channel x y) c) p.control s r Restored rest x y is (λ old. pair_pop p.wave.line (out_of (p.layer x) y) (in_of (p.layer y) x) (p.channel x y) Restored rest refl old) (h.pair x y a b);
}
