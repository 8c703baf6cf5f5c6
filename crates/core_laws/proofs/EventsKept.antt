-- Each event keeps the invariant, so every list of events does.
use Rattle.std.proofs.Common.{false, ◌≡◌, ℕ, zero, suc, ◌<◌, Bool, true, not, List, [], ◌∷◌, ◌++◌, Some, None, Option, sym, refl, ap, ◌∙◌, subst, ⊎_elim, arith}
use Rattle.std.specs.Prelude.{◌&&◌, ◌==◌, nat_lt, if◌then◌else◌}
use Rattle.std.specs.List.{AllByRecursion}
use Rattle.std.proofs.lemmas.Bool.{cond_both, le-ltb, eq-eqb, ne_eqb, and_right, and_left, and_parts, not-true, ltb-true, eqb-true, cases_lt, false≢true, true≢false}
use Rattle.mpi_words.specs.declared.control.Control.{Control}
use Rattle.mpi_words.specs.declared.control.Control.TheVariants.{Request, Count, Ready, Stop, Stopped, Restored}
use Rattle.core_laws.specs.Rows.{set_at, set_pair}
use Rattle.core_laws.specs.Protocol.{Packet, Protocol, move_save, move_arrive, move_ready, move_stop, move_pop, move_asked, move_told, move_note_ready, move_note_stopped, move_tell_stop, move_start, restarted, told_restored, move_skip, move_send, move_tell_restored, move_note_restored}
use Rattle.core_laws.specs.Process.{Did, Nothing, Sent, Local, Marked}
use Rattle.core_laws.specs.Handling.{handles, notes, then_ready, then_stop, ready_due, stops_at, all_below, is_told, protocol_after}
use Rattle.core_laws.specs.Says.{OfLine, Says}
use Rattle.core_laws.specs.Invariant.{Kept, up_kept, PairKept, DownKept, Invariant, Allowed, CountsSay, Timely, counts_on, requests_on, readies_on, stoppeds_on, in_of, out_of, arrived, total, bit}
use Rattle.core_laws.proofs.Changes.{each_push_pair, each_push_row, each_set_pair}
use Rattle.core_laws.proofs.PairMoves.{all-push}
use Rattle.core_laws.proofs.RankMoves
use Rattle.core_laws.proofs.Noting.{ready_cases, stopped_cases}
use Rattle.core_laws.proofs.LinesSaid.{Said, said_push, said_row, said_pop, said_commit, said_restored}
use Rattle.core_laws.proofs.MovesKept.{kept_send, kept_save, kept_arrive, kept_ready, kept_stop, kept_asked, kept_pop_stop, kept_told, kept_note_ready, kept_note_stopped, kept_tell_stop, kept_commit, kept_start, kept_skip, kept_tell_restored, kept_note_restored}

pub all_below-at : (n : ℕ) (f : ℕ → Bool) → all_below n f ≡ true → (x : ℕ) → x < n → f x ≡ true
all_below-at zero f e x b = absurd (omega arith)
all_below-at (suc n) f e x b = let both = and_parts (f n) (all_below n f) e in
    ⊎_elim (λ d. all_below-at n f both.1 x d) (λ d. subst (λ z. f z ≡ true) (omega arith) both.0) (cases_lt x n)

is_told-some : (t : Option ℕ) (k : ℕ) → is_told t k ≡ true → t ≡ Some k
is_told-some None k e = absurd (false≢true e)
is_told-some (Some j) k e = ap (λ z. Some z) (eqb-true j k e)

-- the controls are these now, and the line is the same
still_says : (n : ℕ) (p p' : Protocol) (c : ℕ → ℕ → List Control) → p'.control ≡ c → p'.wave.line ≡ p.wave.line → Said n (suc p.wave.line) c → Says n p'
still_says n p p' c is line h = subst (λ d. Said n (suc p'.wave.line) d) (sym is) (subst (λ k. Said n (suc k) c) (sym line) h)

inv_push_pair : (n : ℕ) (p p' : Protocol) (a b : ℕ) (x : Control) → p'.control ≡ set_pair p.control a b (p.control a b ++ x ∷ []) → p'.wave.line ≡ p.wave.line → Allowed a b x → OfLine (suc p.wave.line) x → Kept n p' → Invariant n p → Invariant n p'
inv_push_pair n p p' a b x is line may of k h = record { kept = k; says = still_says n p p' (set_pair p.control a b (p.control a b ++ x ∷ [])) is line (said_push n (suc p.wave.line) p.control a b x of h.says); origins = λ s r. subst (λ c. AllByRecursion (Allowed s r) (c s r)) (sym is) (each_push_pair (λ s r c. AllByRecursion (Allowed s r) c) p.control a b x h.origins (λ old. all-push (Allowed a b) (p.control a b) x old may) s r) }

inv_push_row : (n : ℕ) (p p' : Protocol) (a : ℕ) (x : ℕ → Control) → p'.control ≡ set_at p.control a (λ y. p.control a y ++ x y ∷ []) → p'.wave.line ≡ p.wave.line → ((y : ℕ) → Allowed a y (x y)) → OfLine (suc p.wave.line) (x 0) → Kept n p' → Invariant n p → Invariant n p'
inv_push_row n p p' a x is line may of k h = record { kept = k; says = still_says n p p' (set_at p.control a (λ y. p.control a y ++ x y ∷ [])) is line (said_row n (suc p.wave.line) p.control a x of h.says); origins = λ s r. subst (λ c. AllByRecursion (Allowed s r) (c s r)) (sym is) (each_push_row (λ s r c. AllByRecursion (Allowed s r) c) p.control a x h.origins (λ y old. all-push (Allowed a y) (p.control a y) (x y) old (may y)) s r) }

inv_pop : (n : ℕ) (p p' : Protocol) (a b : ℕ) (x : Control) (rest : List Control) → p.control a b ≡ x ∷ rest → p'.control ≡ set_pair p.control a b rest → p'.wave.line ≡ p.wave.line → Kept n p' → Invariant n p → Invariant n p'
inv_pop n p p' a b x rest was is line k h = record { kept = k; says = still_says n p p' (set_pair p.control a b rest) is line (said_pop n (suc p.wave.line) p.control a b x rest was h.says); origins = λ s r. subst (λ c. AllByRecursion (Allowed s r) (c s r)) (sym is) (each_set_pair (λ s r c. AllByRecursion (Allowed s r) c) p.control a b rest (subst (λ c. AllByRecursion (Allowed a b) c) was (h.origins a b)).1 h.origins s r) }

pub may_come : (n : ℕ) (p : Protocol) (a b : ℕ) (x : Control) (rest : List Control) → p.control a b ≡ x ∷ rest → Invariant n p → Allowed a b x
may_come n p a b x rest was h = (subst (λ c. AllByRecursion (Allowed a b) c) was (h.origins a b)).0

-- each Ready and Stopped that comes is noted
pub ready_comes : (n : ℕ) (p : Protocol) (s r l : ℕ) (rest : List Control) → s < n → p.control s r ≡ Ready l ∷ rest → Invariant n p → notes p.wave l (p.wave.ready s) ≡ true
ready_comes n p s r l rest a is h = RankMoves.ready_once p.wave l (p.wave.ready s) (p.wave.stopped s) (p.layer s) rest (subst (λ c. AllByRecursion (OfLine (suc p.wave.line)) c) at (h.says s a)).0 (h.kept.rank s a) (subst (λ c. up_kept p.wave (p.wave.ready s) (p.wave.stopped s) (p.layer s) c) at (h.kept.up s a))
  where
    at : p.control s 0 ≡ Ready l ∷ rest
    at = ap (p.control s) (sym (may_come n p s r (Ready l) rest is h)) ∙ is

pub stopped_comes : (n : ℕ) (p : Protocol) (s r l : ℕ) (rest : List Control) → s < n → p.control s r ≡ Stopped l ∷ rest → Invariant n p → notes p.wave l (p.wave.stopped s) ≡ true
stopped_comes n p s r l rest a is h = RankMoves.stopped_once p.wave l (p.wave.ready s) (p.wave.stopped s) (p.layer s) rest (subst (λ c. AllByRecursion (OfLine (suc p.wave.line)) c) at (h.says s a)).0 (h.kept.rank s a) (subst (λ c. up_kept p.wave (p.wave.ready s) (p.wave.stopped s) (p.layer s) c) at (h.kept.up s a))
  where
    at : p.control s 0 ≡ Stopped l ∷ rest
    at = ap (p.control s) (sym (may_come n p s r (Stopped l) rest is h)) ∙ is

-- a rank that logs has saved
pub logs_saved : (n : ℕ) (p : Protocol) (r : ℕ) → r < n → (p.layer r).logging ≡ true → Kept n p → (p.layer r).epoch ≡ suc p.wave.line
logs_saved n p r b e k = RankMoves.logs_at p.wave.line p.wave.under_way p.wave.stop_told (p.layer r).epoch (p.layer r).logging (p.layer r).was_ready e (k.rank r b)

pub inv_then_ready : (n : ℕ) (p : Protocol) (r : ℕ) → r < n → Invariant n p → Invariant n (then_ready n p r)
inv_then_ready n p r b h = cond_both (ready_due n (p.layer r)) (move_ready p r) p (Invariant n)
    (λ e. inv_push_pair n p (move_ready p r) r 0 (Ready (p.layer r).epoch) refl refl refl (logs_saved n p r b (and_parts (p.layer r).logging (not (p.layer r).was_ready && all_below n (λ x. is_told ((p.layer r).told x) ((p.layer r).old x))) e).0 h.kept) (due e) h)
    (λ e. h)
  where
    due : ready_due n (p.layer r) ≡ true → Kept n (move_ready p r)
    due e = let l = p.layer r in
        let one = and_parts l.logging (not l.was_ready && all_below n (λ x. is_told (l.told x) (l.old x))) e in
        let two = and_parts (not l.was_ready) (all_below n (λ x. is_told (l.told x) (l.old x))) one.1 in
        kept_ready n p r b one.0 (not-true l.was_ready two.0) (λ x d. is_told-some (l.told x) (l.old x) (all_below-at n (λ x. is_told (l.told x) (l.old x)) two.1 x d)) h.kept

pub inv_skip : (n : ℕ) (p : Protocol) (s r : ℕ) → 0 < (p.layer s).skip r → Invariant n p → Invariant n (move_skip p s r)
inv_skip n p s r more h = record { kept = kept_skip n p s r more h.kept; origins = h.origins; says = h.says }

pub inv_tell_restored : (n : ℕ) (p : Protocol) (r : ℕ) → Invariant n p → Invariant n (move_tell_restored p r)
inv_tell_restored n p r h = inv_push_pair n p (move_tell_restored p r) r 0 Restored refl refl refl tt (kept_tell_restored n p r h.kept) h

pub inv_after : (n : ℕ) (p : Protocol) (r : ℕ) (d : Did) → r < n → Invariant n p → Invariant n (protocol_after n p r d)
inv_after n p r Nothing b h = h
inv_after n p r Local b h = h
inv_after n p r (Sent to m) b h = cond_both (nat_lt 0 ((p.layer r).skip to)) (move_skip p r to) (move_send p r to m) (Invariant n)
    (λ e. inv_skip n p r to (ltb-true 0 ((p.layer r).skip to) e) h)
    (λ e. record { kept = kept_send n p r to m h.kept; origins = h.origins; says = h.says })
inv_after n p r Marked b h = cond_both (p.layer r).asked (then_ready n (move_save p r) r) p (Invariant n)
    (λ e. inv_then_ready n (move_save p r) r b (inv_push_row n p (move_save p r) r (λ x. Count (suc (p.layer r).epoch) ((p.layer r).sent x)) refl refl (λ y. tt) tt (kept_save n p r b e h.kept) h))
    (λ e. h)

-- where a rank stops on an arrival, all were ready
pub stop_in_time : (n : ℕ) (p : Protocol) (s r : ℕ) (x : Packet) (rest : List Packet) → s < n → r < n → p.channel s r ≡ x ∷ rest → stops_at (p.layer r) x ≡ true → Kept n p → p.wave.stop_told ≡ true
stop_in_time n p s r x rest a b is e h = (h.rank s a).stopped its_epoch (pair.flags.0 at (not-true x.1.logging two.1))
  where
    one : ((p.layer r).logging ≡ true) × (((x.1.epoch == (p.layer r).epoch) && not x.1.logging) ≡ true)
    one = and_parts (p.layer r).logging ((x.1.epoch == (p.layer r).epoch) && not x.1.logging) e

    two : ((x.1.epoch == (p.layer r).epoch) ≡ true) × (not x.1.logging ≡ true)
    two = and_parts (x.1.epoch == (p.layer r).epoch) (not x.1.logging) one.1

    pair : PairKept p.wave.line (out_of (p.layer s) r) (in_of (p.layer r) s) (x ∷ rest) (p.control s r)
    pair = subst (λ q. PairKept p.wave.line (out_of (p.layer s) r) (in_of (p.layer r) s) q (p.control s r)) is (h.pair s r a b)

    at : x.1.epoch ≡ suc p.wave.line
    at = eqb-true x.1.epoch (p.layer r).epoch two.0 ∙ logs_saved n p r b one.0 h

    its_epoch : (p.layer s).epoch ≡ suc p.wave.line
    its_epoch = omega (arith, pair.epochs.0, pair.sender, at)

pub inv_then_stop : (n : ℕ) (p : Protocol) (s r : ℕ) (x : Packet) (rest : List Packet) → s < n → r < n → p.channel s r ≡ x ∷ rest → Invariant n p → Invariant n (then_stop p r x)
inv_then_stop n p s r x rest a b is h = cond_both (stops_at (p.layer r) x) (move_stop p r) p (Invariant n)
    (λ e. let logs = (and_parts (p.layer r).logging ((x.1.epoch == (p.layer r).epoch) && not x.1.logging) e).0 in inv_push_pair n p (move_stop p r) r 0 (Stopped (p.layer r).epoch) refl refl refl (logs_saved n p r b logs h.kept) (kept_stop n p r b logs (stop_in_time n p s r x rest a b is e h.kept) h.kept) h)
    (λ e. h)

then_stop-channel : (p : Protocol) (r : ℕ) (x : Packet) → (then_stop p r x).channel ≡ p.channel
then_stop-channel p r x = cond_both (stops_at (p.layer r) x) (move_stop p r) p (λ q. q.channel ≡ p.channel) (λ e. refl) (λ e. refl)

-- an arrival, with the stop and the ready that go with it
pub inv_arrive : (n : ℕ) (p : Protocol) (s r : ℕ) (x : Packet) (rest : List Packet) → s < n → r < n → p.channel s r ≡ x ∷ rest → Invariant n p → Invariant n (then_ready n (move_arrive (then_stop p r x) s r x.1.epoch rest) r)
inv_arrive n p s r x rest a b is h =
    let stopped : Invariant n (then_stop p r x) = inv_then_stop n p s r x rest a b is h in
    inv_then_ready n (move_arrive (then_stop p r x) s r x.1.epoch rest) r b
    (record { kept = kept_arrive n (then_stop p r x) s r x rest (ap (λ g. g s r) (then_stop-channel p r x) ∙ is) stopped.kept; origins = stopped.origins; says = stopped.says })

pub inv_handles : (n : ℕ) (p : Protocol) (s r : ℕ) (c : List Control) → s < n → r < n → p.control s r ≡ c → Invariant n p → Invariant n (handles n p s r c)
inv_handles n p s r [] a b is h = h
inv_handles n p s r (Request l ∷ rest) a b is h =
    inv_pop n p (move_asked p s r rest) s r (Request l) rest is refl refl (subst (λ z. p.control z r ≡ Request l ∷ rest → Kept n (move_asked p z r rest)) (sym (may_come n p s r (Request l) rest is h)) (λ w. kept_asked n p r l rest w h.kept) is) h
inv_handles n p s r (Count l k ∷ rest) a b is h =
    inv_then_ready n (move_told p s r k rest) r b (inv_pop n p (move_told p s r k rest) s r (Count l k) rest is refl refl (kept_told n p s r l k rest is h.kept) h)
inv_handles n p s r (Ready l ∷ rest) a b is h =
    let noted : Invariant n (move_note_ready p s r rest) = inv_pop n p (move_note_ready p s r rest) s r (Ready l) rest is refl refl (subst (λ z. p.control s z ≡ Ready l ∷ rest → Kept n (move_note_ready p s z rest)) (sym (may_come n p s r (Ready l) rest is h)) (λ w. kept_note_ready n p s l rest w h.kept) is) h in
    ready_cases n p s r l rest (Invariant n)
    (λ _ e. inv_push_row n (move_note_ready p s r rest) (move_tell_stop (move_note_ready p s r rest)) 0 (λ y. Stop (suc p.wave.line)) refl refl (λ y. refl) tt (kept_tell_stop n (move_note_ready p s r rest) (all_below-at n (move_note_ready p s r rest).wave.ready e) noted.kept) noted)
    (λ _ _. noted)
    (λ e. absurd (true≢false (sym (ready_comes n p s r l rest a is h) ∙ e)))
inv_handles n p s r (Stop l ∷ rest) a b is h =
    let from : s ≡ 0 = may_come n p s r (Stop l) rest is h in
    let popped : Invariant n (move_pop p s r rest) = inv_pop n p (move_pop p s r rest) s r (Stop l) rest is refl refl (subst (λ z. p.control z r ≡ Stop l ∷ rest → Kept n (move_pop p z r rest)) (sym from) (λ w. kept_pop_stop n p r l rest w h.kept) is) h in
    cond_both (p.layer r).logging (move_stop (move_pop p s r rest) r) (move_pop p s r rest) (Invariant n)
    (λ e. inv_push_pair n (move_pop p s r rest) (move_stop (move_pop p s r rest) r) r 0 (Stopped (p.layer r).epoch) refl refl refl (logs_saved n p r b e h.kept)
    (kept_stop n (move_pop p s r rest) r b e (RankMoves.down_stop p.wave.line p.wave.under_way p.wave.stop_told (p.layer r).epoch l (p.layer r).asked rest (subst (λ c. DownKept p.wave.line p.wave.under_way p.wave.stop_told (p.layer r).epoch (p.layer r).asked c) (ap (λ z. p.control z r) (sym from) ∙ is) (h.kept.down r b))
    (logs_saved n p r b e h.kept)) popped.kept) popped)
    (λ e. popped)
inv_handles n p s r (Stopped l ∷ rest) a b is h =
    let noted : Invariant n (move_note_stopped p s r rest) = inv_pop n p (move_note_stopped p s r rest) s r (Stopped l) rest is refl refl (subst (λ z. p.control s z ≡ Stopped l ∷ rest → Kept n (move_note_stopped p s z rest)) (sym (may_come n p s r (Stopped l) rest is h)) (λ w. kept_note_stopped n p s l rest w h.kept) is) h in
    stopped_cases n p s r l rest (Invariant n)
    (λ _ e. let all = all_below-at n (move_note_stopped p s r rest).wave.stopped e in record { kept = kept_commit n (move_note_stopped p s r rest) all noted.kept; origins = noted.origins; says = said_commit n (move_note_stopped p s r rest) all noted.kept })
    (λ _ _. noted)
    (λ e. absurd (true≢false (sym (stopped_comes n p s r l rest a is h) ∙ e)))
inv_handles n p s r (Restored ∷ rest) a b is h = inv_pop n p (move_note_restored p s r rest) s r Restored rest is refl refl (kept_note_restored n p s r rest is h.kept) h

pub inv_start : (n : ℕ) (p : Protocol) → p.wave.under_way ≡ false → ((s r : ℕ) → s < n → r < n → (p.layer s).skip r ≡ 0) → Invariant n p → Invariant n (move_start p)
inv_start n p none left h = inv_push_row n p (move_start p) 0 (λ x. Request (suc p.wave.line)) refl refl (λ y. refl) tt (kept_start n p none left h.kept) h

-- after a restart from a line, whatever the early counts of its images
at_line : (L : ℕ) (got : ℕ) → arrived (record { epoch = L; was_ready = false; got = got; old = 0; early = 0; told = None }) L ≡ got
at_line L got = rw (le-ltb L L (omega arith), eq-eqb L L refl) refl

above_line : (L : ℕ) (got : ℕ) → arrived (record { epoch = L; was_ready = false; got = got; old = 0; early = 0; told = None }) (suc L) ≡ 0
above_line L got = rw (le-ltb (suc L) L (omega arith), ne_eqb (suc L) L (λ d. omega arith)) refl

-- who tells at once that it has nothing to restore: such a control is none of those that are counted
told_zero : (f : List Control → ℕ) → f [] ≡ 0 → f (Restored ∷ []) ≡ 0 → (b c : Bool) → f (if b then told_restored c else []) ≡ 0
told_zero f e d true true = e
told_zero f e d true false = d
told_zero f e d false c = e

told_says : (k : ℕ) (b c : Bool) → CountsSay k (if b then told_restored c else [])
told_says k true true = tt
told_says k true false = tt
told_says k false c = tt

told_timely : (a d : Bool) (b c : Bool) → Timely a d (if b then told_restored c else [])
told_timely a d true true = tt
told_timely a d true false = tt
told_timely a d false c = tt

told_allowed : (s r : ℕ) (b c : Bool) → (b ≡ true → r ≡ 0) → AllByRecursion (Allowed s r) (if b then told_restored c else [])
told_allowed s r true true h = tt
told_allowed s r true false h = (h refl, tt)
told_allowed s r false c h = tt

pub inv_restarted : (n L : ℕ) (early : ℕ → ℕ → ℕ) (restores : ℕ → Bool) → Invariant n (restarted L early restores)
inv_restarted n L early restores = record {
  kept = record {
    rank = λ r b. record { least = omega arith; most = omega arith; idle = λ e. refl; all_ready = λ e. absurd (false≢true e); stopped = λ e. absurd (omega arith) };
    down = λ r b. record { request = omega (arith, told_zero requests_on refl refl (r == 0) (restores 0)); timely = told_timely false false (r == 0) (restores 0); saved = λ e. told_timely false true (r == 0) (restores 0) };
    up = λ r b. record { readies = omega (arith, told_zero readies_on refl refl (0 == 0) (restores r), ap bit (and_right (L == suc L) false refl)); stoppeds = omega (arith, told_zero stoppeds_on refl refl (0 == 0) (restores r), ap bit (and_left (L == suc L) true (ne_eqb L (suc L) (λ d. omega arith)))) };
    pair = λ s r a b. record {
      sender = (omega arith, omega arith);
      receiver = (omega arith, omega arith);
      epochs = tt;
      sent = omega (arith, at_line L (early r s));
      none_yet = λ e. omega (arith, above_line L (early r s));
      no_early = λ e. refl;
      say = λ e. told_says (total (in_of ((restarted L early restores).layer r) s) L []) (r == 0) (restores s);
      told = λ e. tt;
      untold = λ e. omega (arith, told_zero counts_on refl refl (r == 0) (restores s));
      told_once = λ e. absurd (omega arith);
      ready = λ e. absurd (omega arith);
      flags = tt;
    };
    skips = λ e. absurd (false≢true e);
    noted = λ e. absurd (false≢true e);
  };
  origins = λ s r. told_allowed s r (r == 0) (restores s) (eqb-true r 0);
  says = λ r b. said_restored (suc L) (restores r);
}
