-- Counters of a sound protocol have room, and each move keeps their bounds.
use Rattle.std.proofs.Common.{◌≡◌, ℕ, suc, ◌+◌, ◌<◌, ◌≤◌, ◌^◌, true, List, [], ◌∷◌, ◌++◌, length, length-append, sym, refl, ap, ◌∙◌, subst, ⊎_elim, arith}
use Rattle.std.specs.Prelude.{nat_lt}
use Rattle.std.proofs.lemmas.Bool.{cond_both, cases_eq}
use Rattle.mpi_words.specs.declared.message.Message.{Message}
use Rattle.core_laws.specs.Rows.{set_at, set_pair}
use Rattle.core_laws.specs.Protocol.{Packet, Layer, Protocol, Class, Late, Intra, Early, class_of, layer_label, layer_send, layer_skip, layer_save, layer_ready, layer_stop, layer_asked, layer_told, layer_arrive, move_send, move_skip, move_save, move_arrive, move_ready, move_stop, move_pop, move_asked, move_told, move_note_ready, move_note_stopped, move_note_restored, move_tell_stop, move_commit}
use Rattle.mpi_words.specs.declared.control.Control.{Control}
use Rattle.mpi_words.specs.declared.control.Control.TheVariants.{Request, Count, Ready, Stop, Stopped, Restored}
use Rattle.core_laws.specs.Handling.{handles, ready_due, stops_at, then_ready, then_send, then_stop}
use Rattle.core_laws.proofs.Noting.{ready_cases, stopped_cases}
use Rattle.core_laws.specs.Invariant.{bit, DownKept}
use Rattle.core_laws.proofs.Changes.{set_at-other, at_set, at_set_pair, set_pair-here, set_pair-other_row, set_pair-other_column}
use Rattle.core_laws.proofs.RankMoves
use Rattle.job_network.specs.Networks.{RoomToSend, RoomToArrive}
use Rattle.job_network.specs.Sound.{Counted, Sound}

pub room_to_send : (n events s r : ℕ) (p : Protocol) → events < 200000 → s < n → r < n → Sound n events p → RoomToSend s r n p
room_to_send n events s r p few a b h = (a, b, omega (arith, h.counted.sent s r a b))

pub room_to_arrive : (n events s r : ℕ) (p : Protocol) → events < 200000 → s < n → r < n → Sound n events p → RoomToArrive s r n p
room_to_arrive n events s r p few a b h = let most = h.counted.come s r a b in
    record { sender = a; receiver = b; got = omega (arith, most); old = omega (arith, most); early = omega (arith, most) }

-- who is asked has saved for the committed line at most
pub room_to_save : (n events r : ℕ) (p : Protocol) → r < n → (p.layer r).asked ≡ true → Sound n events p → (p.layer r).epoch + 1 < 2 ^ 16
room_to_save n events r p b asked h = omega (arith, at, h.last way)
  where
    way : p.wave.under_way ≡ true
    way = RankMoves.way_on p.wave.line p.wave.under_way p.wave.stop_told (p.layer r).epoch (p.control 0 r) (subst (λ a. DownKept p.wave.line p.wave.under_way p.wave.stop_told (p.layer r).epoch a (p.control 0 r)) asked (h.kept.kept.down r b))

    at : (p.layer r).epoch ≡ p.wave.line
    at = omega (arith, (h.kept.kept.down r b).request, ap bit asked, RankMoves.bit_most p.wave.under_way, (h.kept.kept.rank r b).least)

pub counted_more : (n most more : ℕ) (p : Protocol) → most ≤ more → Counted n most p → Counted n more p
counted_more n most more p up h = record { sent = λ s r a b. omega (arith, h.sent s r a b); come = λ s r a b. omega (arith, h.come s r a b) }

-- A send.
abbrev come_of : Layer → ℕ → ℕ
come_of l s = l.got s + l.old s + l.early s

channel_longer : (n most s r a b : ℕ) (p : Protocol) (x : Packet) → a < n → b < n → Counted n most p → come_of (p.layer b) a + length (set_pair p.channel s r (p.channel s r ++ x ∷ []) a b) ≤ suc most
channel_longer n most s r a b p x i j h = at_set_pair (λ q. come_of (p.layer b) a + length q ≤ suc most) p.channel s r (p.channel s r ++ x ∷ []) a b
    (λ e f. let same : length (p.channel a b) ≡ length (p.channel s r) = ap (λ z. length (p.channel z b)) e ∙ ap (λ z. length (p.channel s z)) f in omega (arith, length-append (p.channel s r) (x ∷ []), same, h.come a b i j))
    (omega (arith, h.come a b i j))

one_more_sent : (n most s r b : ℕ) (p : Protocol) → s < n → r < n → b < n → Counted n most p → set_at (p.layer s).sent r (suc ((p.layer s).sent r)) b ≤ suc most
one_more_sent n most s r b p i j k h = at_set (λ z. z ≤ suc most) (p.layer s).sent r (suc ((p.layer s).sent r)) b (λ _. omega (arith, h.sent s r i j)) (λ _. omega (arith, h.sent s b i k))

pub counted_send : (n most s r : ℕ) (p : Protocol) (m : Message) → s < n → r < n → Counted n most p → Counted n (suc most) (move_send p s r m)
counted_send n most s r p m i j h = record {
  sent = λ a b ia ib. at_set (λ (l : Layer). l.sent b ≤ suc most) p.layer s (layer_send (p.layer s) r) a (λ _. one_more_sent n most s r b p i j ib h) (λ _. omega (arith, h.sent a b ia ib));
  come = λ a b ia ib. let longer = channel_longer n most s r a b p (m, layer_label (p.layer s)) ia ib h in
      at_set (λ (l : Layer). come_of l a + length (set_pair p.channel s r (p.channel s r ++ (m, layer_label (p.layer s)) ∷ []) a b) ≤ suc most) p.layer s (layer_send (p.layer s) r) b
      (λ e. subst (λ z. come_of (p.layer z) a + length (set_pair p.channel s r (p.channel s r ++ (m, layer_label (p.layer s)) ∷ []) a b) ≤ suc most) e longer) (λ _. longer);
}

pub counted_skip : (n most s r : ℕ) (p : Protocol) → s < n → r < n → Counted n most p → Counted n (suc most) (move_skip p s r)
counted_skip n most s r p i j h = record {
  sent = λ a b ia ib. at_set (λ (l : Layer). l.sent b ≤ suc most) p.layer s (layer_skip (p.layer s) r) a (λ _. one_more_sent n most s r b p i j ib h) (λ _. omega (arith, h.sent a b ia ib));
  come = λ a b ia ib. at_set (λ (l : Layer). come_of l a + length (p.channel a b) ≤ suc most) p.layer s (layer_skip (p.layer s) r) b
      (λ e. let was : come_of (p.layer s) a + length (p.channel a b) ≤ most = subst (λ z. come_of (p.layer z) a + length (p.channel a b) ≤ most) e (h.come a b ia ib) in omega (arith, was)) (λ _. omega (arith, h.come a b ia ib));
}

pub counted_then_send : (n most s r : ℕ) (p : Protocol) (m : Message) → s < n → r < n → Counted n most p → Counted n (suc most) (then_send p s r m)
counted_then_send n most s r p m i j h = cond_both (nat_lt 0 ((p.layer s).skip r)) (move_skip p s r) (move_send p s r m) (Counted n (suc most)) (λ _. counted_skip n most s r p i j h) (λ _. counted_send n most s r p m i j h)

-- A save forgets the counts of the epoch before the last.
pub counted_save : (n most r : ℕ) (p : Protocol) → Counted n most p → Counted n most (move_save p r)
counted_save n most r p h = record {
  sent = λ a b ia ib. at_set (λ (l : Layer). l.sent b ≤ most) p.layer r (layer_save (p.layer r)) a (λ _. omega arith) (λ _. h.sent a b ia ib);
  come = λ a b ia ib. at_set (λ (l : Layer). come_of l a + length (p.channel a b) ≤ most) p.layer r (layer_save (p.layer r)) b
      (λ e. let was : come_of (p.layer r) a + length (p.channel a b) ≤ most = subst (λ z. come_of (p.layer z) a + length (p.channel a b) ≤ most) e (h.come a b ia ib) in omega (arith, was)) (λ _. h.come a b ia ib);
}

-- An arrival counts what leaves its channel.
one_more : (f : ℕ → ℕ) (s a : ℕ) → set_at f s (suc (f s)) a ≤ suc (f a)
one_more f s a = at_set (λ z. z ≤ suc (f a)) f s (suc (f s)) a (λ e. let same : f a ≡ f s = ap f e in omega (arith, same)) (λ _. omega arith)

other_count : (f : ℕ → ℕ) (s a : ℕ) → (a ≡ s → ⊥) → set_at f s (suc (f s)) a ≡ f a
other_count f s a e = set_at-other f s (suc (f s)) a e

arrived_here : (l : Layer) (s : ℕ) (cl : Class) → come_of (layer_arrive l s cl) s ≤ suc (come_of l s)
arrived_here l s Late = omega (arith, one_more l.old s s)
arrived_here l s Intra = omega (arith, one_more l.got s s)
arrived_here l s Early = omega (arith, one_more l.early s s)

arrived_other : (l : Layer) (s a : ℕ) (cl : Class) → (a ≡ s → ⊥) → come_of (layer_arrive l s cl) a ≡ come_of l a
arrived_other l s a Late e = ap (λ z. l.got a + z + l.early a) (other_count l.old s a e)
arrived_other l s a Intra e = ap (λ z. z + l.old a + l.early a) (other_count l.got s a e)
arrived_other l s a Early e = ap (λ z. l.got a + l.old a + z) (other_count l.early s a e)

arrive_sent : (l : Layer) (s b : ℕ) (cl : Class) → (layer_arrive l s cl).sent b ≡ l.sent b
arrive_sent l s b Late = refl
arrive_sent l s b Intra = refl
arrive_sent l s b Early = refl

pub counted_arrive : (n most s r : ℕ) (p : Protocol) (x : Packet) (rest : List Packet) → s < n → r < n → p.channel s r ≡ x ∷ rest → Counted n most p → Counted n most (move_arrive p s r x.1.epoch rest)
counted_arrive n most s r p x rest i j head h = record {
  sent = λ a b ia ib. at_set (λ (l : Layer). l.sent b ≤ most) p.layer r now a
      (λ e. let was : (p.layer r).sent b ≤ most = subst (λ z. (p.layer z).sent b ≤ most) e (h.sent a b ia ib) in omega (arith, was, arrive_sent (p.layer r) s b cl)) (λ _. h.sent a b ia ib);
  come = λ a b ia ib. at_set (λ (l : Layer). come_of l a + length (set_pair p.channel s r rest a b) ≤ most) p.layer r now b
      (λ e. ⊎_elim (λ g. here a b g e) (λ g. beside a b ia ib g e) (cases_eq a s))
      (λ e. let same : length (set_pair p.channel s r rest a b) ≡ length (p.channel a b) = ap (λ (q : List Packet). length q) (set_pair-other_column p.channel s r rest a b e) in omega (arith, same, h.come a b ia ib));
}
  where
    cl : Class
    cl = class_of (p.layer r).epoch x.1.epoch

    now : Layer
    now = layer_arrive (p.layer r) s cl

    here : (a b : ℕ) → a ≡ s → b ≡ r → come_of now a + length (set_pair p.channel s r rest a b) ≤ most
    here a b g e =
        let left : length (set_pair p.channel s r rest a b) ≡ length rest = ap (λ z. length (set_pair p.channel s r rest z b)) g ∙ ap (λ z. length (set_pair p.channel s r rest s z)) e ∙ ap (λ (q : List Packet). length q) (set_pair-here p.channel s r rest) in
        let counts : come_of now a ≡ come_of now s = ap (come_of now) g in
        let long : length (p.channel s r) ≡ suc (length rest) = ap (λ (q : List Packet). length q) head in
        omega (arith, left, counts, long, arrived_here (p.layer r) s cl, h.come s r i j)

    beside : (a b : ℕ) → a < n → b < n → (a ≡ s → ⊥) → b ≡ r → come_of now a + length (set_pair p.channel s r rest a b) ≤ most
    beside a b ia ib g e =
        let left : length (set_pair p.channel s r rest a b) ≡ length (p.channel a b) = ap (λ (q : List Packet). length q) (set_pair-other_row p.channel s r rest a b g) in
        let was : come_of (p.layer r) a + length (p.channel a b) ≤ most = subst (λ z. come_of (p.layer z) a + length (p.channel a b) ≤ most) e (h.come a b ia ib) in
        omega (arith, left, was, arrived_other (p.layer r) s a cl g)

-- Any other move of a layer.
pub counted_layer : (n most r : ℕ) (p q : Protocol) (l : Layer) → ((y : ℕ) → l.sent y ≡ (p.layer r).sent y) → ((y : ℕ) → come_of l y ≡ come_of (p.layer r) y) → q.layer ≡ set_at p.layer r l → q.channel ≡ p.channel → Counted n most p → Counted n most q
counted_layer n most r p q l sent come layers channels h = record {
  sent = λ a b ia ib. subst (λ (f : ℕ → Layer). (f a).sent b ≤ most) (sym layers) (at_set (λ (z : Layer). z.sent b ≤ most) p.layer r l a
      (λ e. let was : (p.layer r).sent b ≤ most = subst (λ z. (p.layer z).sent b ≤ most) e (h.sent a b ia ib) in omega (arith, was, sent b)) (λ _. h.sent a b ia ib));
  come = λ a b ia ib. subst (λ (f : ℕ → Layer). come_of (f b) a + length (q.channel a b) ≤ most) (sym layers) (subst (λ (g : ℕ → ℕ → List Packet). come_of (set_at p.layer r l b) a + length (g a b) ≤ most) (sym channels)
      (at_set (λ (z : Layer). come_of z a + length (p.channel a b) ≤ most) p.layer r l b
      (λ e. let was : come_of (p.layer r) a + length (p.channel a b) ≤ most = subst (λ z. come_of (p.layer z) a + length (p.channel a b) ≤ most) e (h.come a b ia ib) in omega (arith, was, come a)) (λ _. h.come a b ia ib)));
}

-- a move of no layer and no channel
pub counted_beside : (n most : ℕ) (p q : Protocol) → q.layer ≡ p.layer → q.channel ≡ p.channel → Counted n most p → Counted n most q
counted_beside n most p q layers channels h = record {
  sent = λ a b ia ib. subst (λ (f : ℕ → Layer). (f a).sent b ≤ most) (sym layers) (h.sent a b ia ib);
  come = λ a b ia ib. subst (λ (f : ℕ → Layer). come_of (f b) a + length (q.channel a b) ≤ most) (sym layers) (subst (λ (g : ℕ → ℕ → List Packet). come_of (p.layer b) a + length (g a b) ≤ most) (sym channels) (h.come a b ia ib));
}

pub counted_then_ready : (n most r : ℕ) (p : Protocol) → Counted n most p → Counted n most (then_ready n p r)
counted_then_ready n most r p h = cond_both (ready_due n (p.layer r)) (move_ready p r) p (Counted n most) (λ _. counted_layer n most r p (move_ready p r) (layer_ready (p.layer r)) (λ y. refl) (λ y. refl) refl refl h) (λ _. h)

pub counted_stop : (n most r : ℕ) (p : Protocol) → Counted n most p → Counted n most (move_stop p r)
counted_stop n most r p h = counted_layer n most r p (move_stop p r) (layer_stop (p.layer r)) (λ y. refl) (λ y. refl) refl refl h

pub counted_then_stop : (n most r : ℕ) (p : Protocol) (x : Packet) → Counted n most p → Counted n most (then_stop p r x)
counted_then_stop n most r p x h = cond_both (stops_at (p.layer r) x) (move_stop p r) p (Counted n most) (λ _. counted_stop n most r p h) (λ _. h)

pub counted_handles : (n most s r : ℕ) (p : Protocol) (l : List Control) → Counted n most p → Counted n most (handles n p s r l)
counted_handles n most s r p [] h = h
counted_handles n most s r p (Request k ∷ rest) h = counted_layer n most r p (move_asked p s r rest) (layer_asked (p.layer r)) (λ y. refl) (λ y. refl) refl refl h
counted_handles n most s r p (Count k j ∷ rest) h = counted_then_ready n most r (move_told p s r j rest) (counted_layer n most r p (move_told p s r j rest) (layer_told (p.layer r) s j) (λ y. refl) (λ y. refl) refl refl h)
counted_handles n most s r p (Ready k ∷ rest) h = ready_cases n p s r k rest (Counted n most) (λ _ _. counted_beside n most p (move_tell_stop (move_note_ready p s r rest)) refl refl h) (λ _ _. counted_beside n most p (move_note_ready p s r rest) refl refl h) (λ _. counted_beside n most p (move_pop p s r rest) refl refl h)
counted_handles n most s r p (Stop k ∷ rest) h = cond_both (p.layer r).logging (move_stop (move_pop p s r rest) r) (move_pop p s r rest) (Counted n most) (λ _. counted_stop n most r (move_pop p s r rest) (counted_beside n most p (move_pop p s r rest) refl refl h)) (λ _. counted_beside n most p (move_pop p s r rest) refl refl h)
counted_handles n most s r p (Stopped k ∷ rest) h = stopped_cases n p s r k rest (Counted n most) (λ _ _. counted_beside n most p (move_commit (move_note_stopped p s r rest)) refl refl h) (λ _ _. counted_beside n most p (move_note_stopped p s r rest) refl refl h) (λ _. counted_beside n most p (move_pop p s r rest) refl refl h)
counted_handles n most s r p (Restored ∷ rest) h = counted_beside n most p (move_note_restored p s r rest) refl refl h
