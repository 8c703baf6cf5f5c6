-- Each move keeps what is kept of one rank, and of its control channels from and to rank 0.
use Rattle.std.proofs.Common.{◌≡◌, ℕ, suc, ◌+◌, ◌≤◌, Bool, true, false, not, List, [], ◌∷◌, ◌++◌, sym, refl, ap, ◌∙◌, subst, ⊎_elim, arith}
use Rattle.std.specs.Prelude.{◌&&◌, ◌==◌}
use Rattle.std.proofs.lemmas.Bool.{eqb-true, eq-eqb, ne_eqb, and_parts, and_from, and_left, and_right, cases_lt, not-true, false≢true, true≢false}
use Rattle.mpi_words.specs.declared.control.Control.{Control}
use Rattle.mpi_words.specs.declared.control.Control.TheVariants.{Request, Count, Ready, Stop, Stopped, Restored}
use Rattle.core_laws.proofs.ManyControls.{many-push, many-first}
use Rattle.core_laws.specs.Protocol.{Wave, Layer}
use Rattle.core_laws.specs.Handling.{notes}
use Rattle.core_laws.specs.Invariant.{RankKept, DownKept, UpKept, rank_kept, up_kept, requests_on, readies_on, stoppeds_on, Timely, bit}

-- A control that is no Stop, or that comes when all were ready, comes in time.
abbrev pub Harmless : Bool → Control → Type 0
Harmless all_ready (Stop l) = all_ready ≡ true
Harmless all_ready (Request l) = Unit {0}
Harmless all_ready (Count l k) = Unit {0}
Harmless all_ready (Ready l) = Unit {0}
Harmless all_ready (Stopped l) = Unit {0}
Harmless all_ready Restored = Unit {0}

timely_one : (all_ready asked : Bool) (x : Control) → Harmless all_ready x → Timely all_ready asked (x ∷ [])
timely_one all_ready asked (Request l) e = tt
timely_one all_ready true (Stop l) e = (e, tt)
timely_one all_ready false (Stop l) e = tt
timely_one all_ready asked (Count l k) e = tt
timely_one all_ready asked (Ready l) e = tt
timely_one all_ready asked (Stopped l) e = tt
timely_one all_ready asked Restored e = tt

pub timely-push : (all_ready asked : Bool) (c : List Control) (x : Control) → Harmless all_ready x → Timely all_ready asked c → Timely all_ready asked (c ++ x ∷ [])
timely-push all_ready asked [] x e h = timely_one all_ready asked x e
timely-push all_ready asked (Request l ∷ c) x e h = timely-push all_ready true c x e h
timely-push all_ready true (Stop l ∷ c) x e h = (h.0, timely-push all_ready true c x e h.1)
timely-push all_ready false (Stop l ∷ c) x e h = timely-push all_ready false c x e h
timely-push all_ready asked (Count l k ∷ c) x e h = timely-push all_ready asked c x e h
timely-push all_ready asked (Ready l ∷ c) x e h = timely-push all_ready asked c x e h
timely-push all_ready asked (Stopped l ∷ c) x e h = timely-push all_ready asked c x e h
timely-push all_ready asked (Restored ∷ c) x e h = timely-push all_ready asked c x e h

-- With no Request there is nothing to come in time for.
timely_unasked : (all_ready : Bool) (c : List Control) → requests_on c ≡ 0 → Timely all_ready false c
timely_unasked all_ready [] e = tt
timely_unasked all_ready (Request l ∷ c) e = absurd (omega arith)
timely_unasked all_ready (Stop l ∷ c) e = timely_unasked all_ready c e
timely_unasked all_ready (Count l k ∷ c) e = timely_unasked all_ready c e
timely_unasked all_ready (Ready l ∷ c) e = timely_unasked all_ready c e
timely_unasked all_ready (Stopped l ∷ c) e = timely_unasked all_ready c e
timely_unasked all_ready (Restored ∷ c) e = timely_unasked all_ready c e

-- When all were ready every Stop comes in time.
timely_ready : (asked : Bool) (c : List Control) → Timely true asked c
timely_ready asked [] = tt
timely_ready asked (Request l ∷ c) = timely_ready true c
timely_ready true (Stop l ∷ c) = (refl, timely_ready true c)
timely_ready false (Stop l ∷ c) = timely_ready false c
timely_ready asked (Count l k ∷ c) = timely_ready asked c
timely_ready asked (Ready l ∷ c) = timely_ready asked c
timely_ready asked (Stopped l ∷ c) = timely_ready asked c
timely_ready asked (Restored ∷ c) = timely_ready asked c

timely_less : (all_ready : Bool) (c : List Control) → Timely all_ready true c → Timely all_ready false c
timely_less all_ready [] h = tt
timely_less all_ready (Request l ∷ c) h = h
timely_less all_ready (Stop l ∷ c) h = timely_less all_ready c h.1
timely_less all_ready (Count l k ∷ c) h = timely_less all_ready c h
timely_less all_ready (Ready l ∷ c) h = timely_less all_ready c h
timely_less all_ready (Stopped l ∷ c) h = timely_less all_ready c h
timely_less all_ready (Restored ∷ c) h = timely_less all_ready c h

-- A push.
pub down_push : (L : ℕ) (way told : Bool) (epoch : ℕ) (asked : Bool) (c : List Control) (x : Control) → Harmless told x → requests_on (x ∷ []) ≡ 0 → DownKept L way told epoch asked c → DownKept L way told epoch asked (c ++ x ∷ [])
down_push L way told epoch asked c x e none h = record {
  request = omega (arith, h.request, many-push 0 c x, none);
  timely = timely-push told asked c x e h.timely;
  saved = λ d. timely-push told true c x e (h.saved d);
}

pub up_push : (L : ℕ) (ready stopped : Bool) (epoch : ℕ) (logging was_ready : Bool) (c : List Control) (x : Control) → readies_on (x ∷ []) ≡ 0 → stoppeds_on (x ∷ []) ≡ 0 → UpKept L ready stopped epoch logging was_ready c → UpKept L ready stopped epoch logging was_ready (c ++ x ∷ [])
up_push L ready stopped epoch logging was_ready c x a b h = record {
  readies = omega (arith, h.readies, many-push 2 c x);
  stoppeds = omega (arith, h.stoppeds, many-push 4 c x);
}

-- A save.
pub rank_save : (L : ℕ) (way told : Bool) (epoch : ℕ) (logging was_ready : Bool) (c : List Control) → RankKept L way told epoch logging was_ready → DownKept L way told epoch true c → RankKept L way told (suc epoch) true false
rank_save L way told epoch logging was_ready c h d = record {
  least = omega (arith, h.least);
  most = omega (arith, d.request, h.least);
  idle = λ e. absurd (omega (arith, h.least));
  all_ready = λ e. absurd (omega (arith, (h.all_ready e).0, d.request, h.most, h.least, bit_most way));
  stopped = λ e f. absurd (true≢false f);
}
  where
    bit_most : (b : Bool) → bit b ≤ 1
    bit_most true = omega arith
    bit_most false = omega arith

pub down_save : (L : ℕ) (way told : Bool) (epoch : ℕ) (c : List Control) → L ≤ epoch → DownKept L way told epoch true c → DownKept L way told (suc epoch) false c
down_save L way told epoch c least h = record {
  request = omega (arith, h.request);
  timely = timely_less told c h.timely;
  saved = λ d. h.timely;
}

pub up_save : (L : ℕ) (ready stopped : Bool) (epoch : ℕ) (logging was_ready : Bool) (c : List Control) → epoch ≡ L → UpKept L ready stopped epoch logging was_ready c → UpKept L ready stopped (suc epoch) true false c
up_save L ready stopped epoch logging was_ready c at h = record {
  readies = h.readies ∙ ap bit (and_left (epoch == suc L) was_ready (ne_eqb epoch (suc L) (λ d. omega arith)) ∙ sym (and_right (suc epoch == suc L) false refl));
  stoppeds = h.stoppeds ∙ ap bit (and_left (epoch == suc L) (not logging) (ne_eqb epoch (suc L) (λ d. omega arith)) ∙ sym (and_right (suc epoch == suc L) false refl));
}

-- Ready and stop.
pub rank_ready : (L : ℕ) (way told : Bool) (epoch : ℕ) (logging was_ready : Bool) → RankKept L way told epoch logging was_ready → RankKept L way told epoch logging true
rank_ready L way told epoch logging was_ready h = record { least = h.least; most = h.most; idle = h.idle; all_ready = λ e. ((h.all_ready e).0, refl); stopped = h.stopped }

pub up_ready : (L : ℕ) (ready stopped : Bool) (epoch : ℕ) (logging : Bool) (c : List Control) (l : ℕ) → epoch ≡ suc L → UpKept L ready stopped epoch logging false c → UpKept L ready stopped epoch logging true (c ++ Ready l ∷ [])
up_ready L ready stopped epoch logging c l at h = record {
  readies = omega (arith, h.readies, many-push 2 c (Ready l), ap bit (and_right (epoch == suc L) false refl), ap bit (and_from (epoch == suc L) true (eq-eqb epoch (suc L) at) refl));
  stoppeds = omega (arith, h.stoppeds, many-push 4 c (Ready l));
}

pub rank_stop : (L : ℕ) (way : Bool) (epoch : ℕ) (logging was_ready : Bool) → RankKept L way true epoch logging was_ready → RankKept L way true epoch false was_ready
rank_stop L way epoch logging was_ready h = record { least = h.least; most = h.most; idle = λ e. refl; all_ready = h.all_ready; stopped = λ e f. refl }

pub up_stop : (L : ℕ) (ready stopped : Bool) (epoch : ℕ) (was_ready : Bool) (c : List Control) (l : ℕ) → epoch ≡ suc L → UpKept L ready stopped epoch true was_ready c → UpKept L ready stopped epoch false was_ready (c ++ Stopped l ∷ [])
up_stop L ready stopped epoch was_ready c l at h = record {
  readies = omega (arith, h.readies, many-push 2 c (Stopped l));
  stoppeds = omega (arith, h.stoppeds, many-push 4 c (Stopped l), ap bit (and_right (epoch == suc L) false refl), ap bit (and_from (epoch == suc L) true (eq-eqb epoch (suc L) at) refl));
}

-- What is taken off a channel.
pub down_request : (L : ℕ) (way told : Bool) (epoch l : ℕ) (asked : Bool) (c : List Control) → DownKept L way told epoch asked (Request l ∷ c) → DownKept L way told epoch true c
down_request L way told epoch l asked c h = record { request = omega (arith, h.request, one way, zero_of asked); timely = h.timely; saved = h.saved }
  where
    one : (b : Bool) → bit b ≤ 1
    one true = omega arith
    one false = omega arith

    zero_of : (b : Bool) → 0 ≤ bit b
    zero_of b = omega arith

pub down_pop : (L : ℕ) (way told : Bool) (epoch : ℕ) (asked : Bool) (x : Control) (c : List Control) → requests_on (x ∷ []) ≡ 0 → DownKept L way told epoch asked (x ∷ c) → DownKept L way told epoch asked c
down_pop L way told epoch asked x c none h = record { request = omega (arith, h.request, rest x none); timely = after asked x none h.timely; saved = λ e. after true x none (h.saved e) }
  where
    rest : (x : Control) → requests_on (x ∷ []) ≡ 0 → requests_on (x ∷ c) ≡ requests_on c
    rest (Request l) e = absurd (omega arith)
    rest (Count l k) e = refl
    rest (Ready l) e = refl
    rest (Stop l) e = refl
    rest (Stopped l) e = refl
    rest Restored e = refl

    after : (b : Bool) (x : Control) → requests_on (x ∷ []) ≡ 0 → Timely told b (x ∷ c) → Timely told b c
    after b (Request l) e t = absurd (omega arith)
    after b (Count l k) e t = t
    after b (Ready l) e t = t
    after true (Stop l) e t = t.1
    after false (Stop l) e t = t
    after b (Stopped l) e t = t
    after b Restored e t = t

-- a rank that meets a Stop, asked or in its save's epoch, meets it when all were ready
pub down_stop : (L : ℕ) (way told : Bool) (epoch l : ℕ) (asked : Bool) (c : List Control) → DownKept L way told epoch asked (Stop l ∷ c) → epoch ≡ suc L → told ≡ true
down_stop L way told epoch l asked c h e = (h.saved e).0

pub up_pop : (L : ℕ) (ready stopped : Bool) (epoch : ℕ) (logging was_ready : Bool) (x : Control) (c : List Control) → readies_on (x ∷ []) ≡ 0 → stoppeds_on (x ∷ []) ≡ 0 → UpKept L ready stopped epoch logging was_ready (x ∷ c) → UpKept L ready stopped epoch logging was_ready c
up_pop L ready stopped epoch logging was_ready x c a b h = record { readies = omega (arith, h.readies, many-first 2 x c); stoppeds = omega (arith, h.stoppeds, many-first 4 x c) }

pub bit_most : (b : Bool) → bit b ≤ 1
bit_most true = omega arith
bit_most false = omega arith

-- it was not noted before: each rank is noted at most once
pub up_note_ready : (L l : ℕ) (ready stopped : Bool) (epoch : ℕ) (logging was_ready : Bool) (c : List Control) → UpKept L ready stopped epoch logging was_ready (Ready l ∷ c) → UpKept L true stopped epoch logging was_ready c
up_note_ready L l ready stopped epoch logging was_ready c h = record { readies = omega (arith, h.readies, bit_most ((epoch == suc L) && was_ready)); stoppeds = h.stoppeds }

pub up_note_stopped : (L l : ℕ) (ready stopped : Bool) (epoch : ℕ) (logging was_ready : Bool) (c : List Control) → UpKept L ready stopped epoch logging was_ready (Stopped l ∷ c) → UpKept L ready true epoch logging was_ready c
up_note_stopped L l ready stopped epoch logging was_ready c h = record { readies = h.readies; stoppeds = omega (arith, h.stoppeds, bit_most ((epoch == suc L) && not logging)) }

-- All are ready: Stop goes out.
bit_true : (b : Bool) → 1 ≤ bit b → b ≡ true
bit_true true h = refl
bit_true false h = absurd (omega arith)

-- What comes of the line wasn't noted before, and a wave is under way.
pub in_wave : (w : Wave) (l : Layer) → (l.epoch == suc w.line) ≡ true → rank_kept w l → w.under_way ≡ true
in_wave w l e h = bit_true w.under_way (omega (arith, h.most, eqb-true l.epoch (suc w.line) e))

once : (w : Wave) (l k : ℕ) (noted due : Bool) → 1 + k + bit noted ≡ bit due → (due ≡ true → w.under_way ≡ true) → l ≡ suc w.line → notes w l noted ≡ true
once w l k true due e way at = absurd (omega (arith, e, bit_most due))
once w l k false true e way at = and_from w.under_way ((l == suc w.line) && true) (way refl) (and_from (l == suc w.line) true (eq-eqb l (suc w.line) at) refl)
once w l k false false e way at = absurd (omega (arith, e))

pub ready_once : (w : Wave) (l : ℕ) (ready stopped : Bool) (layer : Layer) (c : List Control) → l ≡ suc w.line → rank_kept w layer → up_kept w ready stopped layer (Ready l ∷ c) → notes w l ready ≡ true
ready_once w l ready stopped layer c at rank up = once w l (readies_on c) ready ((layer.epoch == suc w.line) && layer.was_ready) up.readies (λ e. in_wave w layer (and_parts (layer.epoch == suc w.line) layer.was_ready e).0 rank) at

pub stopped_once : (w : Wave) (l : ℕ) (ready stopped : Bool) (layer : Layer) (c : List Control) → l ≡ suc w.line → rank_kept w layer → up_kept w ready stopped layer (Stopped l ∷ c) → notes w l stopped ≡ true
stopped_once w l ready stopped layer c at rank up = once w l (stoppeds_on c) stopped ((layer.epoch == suc w.line) && not layer.logging) up.stoppeds (λ e. in_wave w layer (and_parts (layer.epoch == suc w.line) (not layer.logging) e).0 rank) at

pub noted_is_ready : (L : ℕ) (stopped : Bool) (epoch : ℕ) (logging was_ready : Bool) (c : List Control) → UpKept L true stopped epoch logging was_ready c → (epoch ≡ suc L) × (was_ready ≡ true)
noted_is_ready L stopped epoch logging was_ready c h = let both = and_parts (epoch == suc L) was_ready (bit_true ((epoch == suc L) && was_ready) (omega (arith, h.readies))) in (eqb-true epoch (suc L) both.0, both.1)

pub noted_is_stopped : (L : ℕ) (ready : Bool) (epoch : ℕ) (logging was_ready : Bool) (c : List Control) → UpKept L ready true epoch logging was_ready c → (epoch ≡ suc L) × (logging ≡ false)
noted_is_stopped L ready epoch logging was_ready c h = let both = and_parts (epoch == suc L) (not logging) (bit_true ((epoch == suc L) && not logging) (omega (arith, h.stoppeds))) in (eqb-true epoch (suc L) both.0, not-true logging both.1)

pub rank_tell : (L : ℕ) (way told : Bool) (epoch : ℕ) (logging was_ready : Bool) → (epoch ≡ suc L) × (was_ready ≡ true) → RankKept L way told epoch logging was_ready → RankKept L way true epoch logging was_ready
rank_tell L way told epoch logging was_ready e h = record { least = h.least; most = h.most; idle = h.idle; all_ready = λ d. e; stopped = λ d f. refl }

pub down_tell : (L l : ℕ) (way told : Bool) (epoch : ℕ) (asked : Bool) (c : List Control) → DownKept L way told epoch asked c → DownKept L way true epoch asked (c ++ Stop l ∷ [])
down_tell L l way told epoch asked c h = record { request = omega (arith, h.request, many-push 0 c (Stop l)); timely = timely_ready asked (c ++ Stop l ∷ []); saved = λ e. timely_ready true (c ++ Stop l ∷ []) }

-- The line is committed.
pub rank_commit : (L : ℕ) (way told : Bool) (epoch : ℕ) (was_ready : Bool) → epoch ≡ suc L → RankKept L way told epoch false was_ready → RankKept (suc L) false false epoch false was_ready
rank_commit L way told epoch was_ready at h = record { least = omega arith; most = omega arith; idle = λ e. refl; all_ready = λ e. absurd (false≢true e); stopped = λ e. absurd (omega arith) }

pub down_commit : (L : ℕ) (way told : Bool) (epoch : ℕ) (asked : Bool) (c : List Control) → epoch ≡ suc L → DownKept L way told epoch asked c → DownKept (suc L) false false epoch asked c
down_commit L way told epoch asked c at h = record {
  request = omega (arith, h.request, bit_most way);
  timely = subst (λ a. Timely false a c) (sym (bit_false asked (omega (arith, h.request, bit_most way)))) (timely_unasked false c (omega (arith, h.request, bit_most way)));
  saved = λ e. absurd (omega arith);
}
  where
    bit_false : (b : Bool) → bit b ≡ 0 → b ≡ false
    bit_false true e = absurd (omega arith)
    bit_false false e = refl

pub up_commit : (L : ℕ) (ready stopped : Bool) (epoch : ℕ) (logging was_ready : Bool) (c : List Control) → (epoch ≡ suc L) × (logging ≡ false) → was_ready ≡ true → readies_on c ≡ 0 → stoppeds_on c ≡ 0 → UpKept L ready stopped epoch logging was_ready c → UpKept (suc L) false false epoch logging was_ready c
up_commit L ready stopped epoch logging was_ready c at was none_a none_b h = record {
  readies = omega (arith, none_a, ap bit (and_left (epoch == suc (suc L)) was_ready (ne_eqb epoch (suc (suc L)) (λ d. omega arith))));
  stoppeds = omega (arith, none_b, ap bit (and_left (epoch == suc (suc L)) (not logging) (ne_eqb epoch (suc (suc L)) (λ d. omega arith))));
}

pub up_start : (L : ℕ) (ready stopped : Bool) (epoch : ℕ) (logging was_ready : Bool) (c : List Control) → epoch ≡ L → UpKept L ready stopped epoch logging was_ready c → UpKept L false false epoch logging was_ready c
up_start L ready stopped epoch logging was_ready c at h = record {
  readies = omega (arith, h.readies, ap bit (and_left (epoch == suc L) was_ready (ne_eqb epoch (suc L) (λ d. omega arith))));
  stoppeds = omega (arith, h.stoppeds, ap bit (and_left (epoch == suc L) (not logging) (ne_eqb epoch (suc L) (λ d. omega arith))));
}

-- a rank that logs has saved in this wave
pub logs_at : (L : ℕ) (way told : Bool) (epoch : ℕ) (logging was_ready : Bool) → logging ≡ true → RankKept L way told epoch logging was_ready → epoch ≡ suc L
logs_at L way told epoch logging was_ready logs h = ⊎_elim (λ d. absurd (true≢false (sym logs ∙ h.idle (omega (arith, h.least))))) (λ d. omega (arith, h.most, bit_most way)) (cases_lt epoch (suc L))

-- A wave begins.
pub rank_start : (L : ℕ) (told : Bool) (epoch : ℕ) (logging was_ready : Bool) → RankKept L false told epoch logging was_ready → RankKept L true false epoch logging was_ready
rank_start L told epoch logging was_ready h = record { least = h.least; most = omega (arith, h.most); idle = h.idle; all_ready = λ e. absurd (false≢true e); stopped = λ e. absurd (omega (arith, h.most)) }

pub down_start : (L l : ℕ) (told : Bool) (epoch : ℕ) (asked : Bool) (c : List Control) → DownKept L false told epoch asked c → L ≤ epoch → DownKept L true false epoch asked (c ++ Request l ∷ [])
down_start L l told epoch asked c h least = record {
  request = omega (arith, h.request, many-push 0 c (Request l));
  timely = timely-push false asked c (Request l) tt (subst (λ a. Timely false a c) (sym (bit_false asked (omega (arith, h.request)))) (timely_unasked false c (omega (arith, h.request))));
  saved = λ e. absurd (omega (arith, h.request));
}
  where
    bit_false : (b : Bool) → bit b ≡ 0 → b ≡ false
    bit_false true e = absurd (omega arith)
    bit_false false e = refl

-- a rank is asked only in a wave
pub way_on : (L : ℕ) (way told : Bool) (epoch : ℕ) (c : List Control) → DownKept L way told epoch true c → way ≡ true
way_on L way told epoch c h = bit_true way (omega (arith, h.request))
