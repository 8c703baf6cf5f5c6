-- Each output file has the output of its rank.
use Rattle.std.proofs.Common.{◌≡◌, ℕ, zero, suc, ◌<◌, Bool, true, false, List, [], ◌∷◌, ◌++◌, Some, None, Option, length, drop, take, sym, refl, ap, ◌∙◌, subst, arith}
use Rattle.std.specs.Prelude.{◌&&◌, ◌==◌, not, nat_lt, if◌then◌else◌}
use Rattle.std.proofs.lemmas.Bool.{cond_both, ltb-true, and_parts, true≢false}
use Rattle.std.proofs.lemmas.List.{append_assoc, append-nil}
use Rattle.std.proofs.Math.Seq.{take-append_seam, drop-append_seam, drop-length}
use Rattle.late_logs.specs.declared.entry.Entry.{Entry}
use Rattle.late_logs.specs.declared.entry.Entry.TheVariants.{Late as Late_entry, Intra as Intra_entry}
use Rattle.mpi_queues.specs.Firsts.{Taken}
use Rattle.mpi_queues.specs.Arrivals.{Arrival, given}
use Rattle.mpi_words.specs.declared.control.Control.{Control}
use Rattle.mpi_words.specs.declared.control.Control.TheVariants.{Request, Count, Ready, Stop, Stopped, Restored}
use Rattle.mpi_words.specs.declared.message.Message.{Message}
use Rattle.mpi_words.specs.declared.operation.Op.TheVariants.{Send, Receive, Output, Mark}
use Rattle.mpi_words.specs.declared.operation.Reply.{Reply}
use Rattle.core_laws.specs.Rows.{set_at}
use Rattle.core_laws.specs.Protocol.{Packet, Layer, Protocol, Class, class_of}
use Rattle.core_laws.specs.Process.{Ranks, ranks, Process, Rank, Want, Wants, Ended, Did, Nothing, Sent, Local, Marked, Turned, turn, acted, received, arrive}
use Rattle.core_laws.specs.Quiet.{Event, Turn, Deliver, Handle, Begin_wave}
use Rattle.core_laws.specs.Written.{Written, written_turn, written_arrive}
use Rattle.core_laws.specs.Handling.{notes, after_save, after_stop, all_below, handles, then_stop, stops_at}
use Rattle.core_laws.specs.Replay.{Replaying, absorb, may_turn}
use Rattle.core_laws.specs.Core.{Core, one_turned, core_turned, accepts, landed, core_delivers, core_handled, may_begin, core_began, step_of, steps_of}
use Rattle.core_laws.specs.CoreEvents.{sweep_events, Core_event, Single, Sweep, Kill, next_of, start_of, restart_from, restart_of}
use Rattle.core_laws.specs.Pausing.{Stepping, stepping, Stop_at, Paused, Asks, stopped_at, with_machine}
use Rattle.core_laws.specs.Effects.{Saves, Commits, writes, turn_effects, log_effects, arrival_effects, control_effects, step_effects_of, steps_effects_of, effects_of}
use Rattle.core_laws.specs.Files.{Files, with_effects, cut_back, LinesFiled, StartsWith, OutputsFiled}
use Rattle.core_laws.proofs.Changes.{at_set, at_set_both}
use Rattle.core_laws.proofs.PlanKept.{set_same}
use Rattle.core_laws.proofs.LinesWritten.{effects_more}

-- the bytes that a turn writes
pub bytes_of : List ℕ → List ℕ → Did → List ℕ
bytes_of before after Local = drop (length before) after
bytes_of before after Nothing = []
bytes_of before after (Sent to m) = []
bytes_of before after Marked = []

-- A turn puts what it writes at the end of the rank's output.
pub Appends : {S : Type 0} → Rank S → Turned S → Type 0
Appends k t = t.rank.output ≡ k.output ++ bytes_of k.output t.rank.output t.did

pub EachAppends : {S : Type 0} → Ranks S → Type 0
EachAppends {S} P = (k : Rank S) → Appends k (P.turn_of k)

same_output : (xs : List ℕ) → xs ≡ xs ++ drop (length xs) xs
same_output xs = sym (ap (λ l. xs ++ l) (drop-length xs) ∙ append-nil xs)

more_output : (xs bytes : List ℕ) → xs ++ bytes ≡ xs ++ drop (length xs) (xs ++ bytes)
more_output xs bytes = ap (λ l. xs ++ l) (sym (drop-append_seam xs bytes))

received_appends : {S : Type 0} (answer : S → Reply → S) (k : Rank S) (o : Option (Taken Arrival)) → Appends k (received answer k o)
unfolding Appends bytes_of
received_appends answer k None = sym (append-nil k.output)
received_appends answer k (Some t) = same_output k.output

acted_appends : {S : Type 0} (answer : S → Reply → S) (k : Rank S) (w : Want) → Appends k (acted answer k w)
unfolding Appends bytes_of
acted_appends answer k (Wants (Send to m)) = sym (append-nil k.output)
acted_appends answer k (Wants (Receive ps)) = received_appends answer k (given ps k.mail)
acted_appends answer k (Wants (Output bytes)) = more_output k.output bytes
acted_appends answer k (Wants Mark) = sym (append-nil k.output)
acted_appends answer k Ended = sym (append-nil k.output)

pub ranks_append : {S : Type 0} (P : Process S) → EachAppends (ranks P)
unfolding EachAppends turn
ranks_append P k = acted_appends P.answer k (P.want k.machine)

pub stepping_append : {S : Type 0} (P : Stepping S) → EachAppends (stepping P)
unfolding EachAppends Appends bytes_of
stepping_append {S} P k = stopped (P.step k.machine).stop
  where
    u : Rank S
    u = with_machine k (P.step k.machine).machine

    stopped : (s : Stop_at) → Appends u (stopped_at P u s)
    stopped Paused = sym (append-nil k.output)
    stopped (Asks w) = acted_appends P.answer u w

-- Beginnings of lists.
starts_all : (xs : List ℕ) → StartsWith xs xs
starts_all xs = record { rest = []; is = sym (append-nil xs) }

starts_more : (xs ys bytes : List ℕ) → StartsWith xs ys → StartsWith (xs ++ bytes) ys
starts_more xs ys bytes h = record { rest = h.rest ++ bytes; is = ap (λ l. l ++ bytes) h.is ∙ append_assoc ys h.rest bytes }

-- A turn.
wrote : {S : Type 0} (f : Files S) (l : Layer) (r : ℕ) (before : List ℕ) (k : Rank S) (d : Did) → (with_effects f (turn_effects l r before k d)).output ≡ set_at f.output r (f.output r ++ bytes_of before k.output d)
unfolding bytes_of
wrote f l r before k Nothing = nothing f.output r
  where
    nothing : (o : ℕ → List ℕ) (r : ℕ) → o ≡ set_at o r (o r ++ [])
    nothing o r = sym (ap (set_at o r) (append-nil (o r)) ∙ set_same o r)
wrote f l r before k (Sent to m) = nothing f.output r
  where
    nothing : (o : ℕ → List ℕ) (r : ℕ) → o ≡ set_at o r (o r ++ [])
    nothing o r = sym (ap (set_at o r) (append-nil (o r)) ∙ set_same o r)
wrote f l r before k Local = bytes f r (drop (length before) k.output)
  where
    bytes : {S : Type 0} (f : Files S) (r : ℕ) (l : List ℕ) → (with_effects f (writes r l)).output ≡ set_at f.output r (f.output r ++ l)
    bytes f r [] = sym (ap (set_at f.output r) (append-nil (f.output r)) ∙ set_same f.output r)
    bytes f r (b ∷ l) = refl
wrote {S} f l r before k Marked = saves l.asked
  where
    saves : (b : Bool) → (with_effects f (if b then Saves r k l.early ∷ [] else [])).output ≡ set_at f.output r (f.output r ++ [])
    saves true = sym (ap (set_at f.output r) (append-nil (f.output r)) ∙ set_same f.output r)
    saves false = sym (ap (set_at f.output r) (append-nil (f.output r)) ∙ set_same f.output r)

turn_written : {S : Type 0} (stopped saved : Bool) (w : Written S) (t : Turned S) (o bytes : List ℕ) → t.rank.output ≡ o ++ bytes → StartsWith o w.image.output → StartsWith (o ++ bytes) (written_turn stopped saved w t).image.output
turn_written true saved w t o bytes e h = starts_more o w.image.output bytes h
turn_written false true w t o bytes e h = starts_more o w.image.output bytes h
turn_written false false w t o bytes e h = subst (StartsWith (o ++ bytes)) (sym e) (starts_all (o ++ bytes))

turn_outputs : {S : Type 0} (n : ℕ) (f f' : Files S) (c : Core S) (r : ℕ) (t : Turned S) → r < n → Appends (c.one r).rank t → f'.output ≡ set_at f.output r (f.output r ++ bytes_of (c.one r).rank.output t.rank.output t.did) → OutputsFiled n f c → OutputsFiled n f' (core_turned n c r t)
unfolding Appends
turn_outputs {S} n f f' c r t inside appends is h = record {
  outputs = λ x b. ap (λ o. o x) is ∙ at_set_both (λ o (v : Replaying S). o ≡ v.rank.output) f.output c.one r (f.output r ++ bytes) (one_turned (c.one r) t) x (λ _. ap (λ o. o ++ bytes) (h.outputs r inside) ∙ sym appends) (λ _. h.outputs x b);
  committed = λ x b. subst (λ o. StartsWith (o x) (c.saved x).image.output) (sym is) (at_set (λ o. StartsWith o (c.saved x).image.output) f.output r (f.output r ++ bytes) x
      (λ e. starts_more (f.output r) (c.saved x).image.output bytes (subst (λ z. StartsWith (f.output z) (c.saved x).image.output) e (h.committed x b))) (λ _. h.committed x b));
  written = λ x b. subst (λ o. StartsWith (o x) (written x).image.output) (sym is) (at_set_both (λ o (w : Written S). StartsWith o w.image.output) f.output c.written r (f.output r ++ bytes) (written_turn (after_stop c.protocol r) (after_save c.protocol r) (c.written r) t) x
      (λ e. turn_written (after_stop c.protocol r) (after_save c.protocol r) (c.written r) t (f.output r) bytes (appends ∙ ap (λ o. o ++ bytes) (sym (h.outputs r inside))) (h.written r inside)) (λ _. h.written x b));
}
  where
    bytes : List ℕ
    bytes = bytes_of (c.one r).rank.output t.rank.output t.did

    written : ℕ → Written S
    written = set_at c.written r (written_turn (after_stop c.protocol r) (after_save c.protocol r) (c.written r) t)

-- An arrival changes no output.
pub absorb_output : {S : Type 0} (left : ℕ) (k : Rank S) (log : List Entry) → (absorb left k log).rank.output ≡ k.output
absorb_output left k [] = refl
absorb_output left k (Late_entry s m ∷ l) = absorb_output left (arrive k s m) l
absorb_output left k (Intra_entry s ∷ l) = refl

landed_output : {S : Type 0} (v : Replaying S) (log : List Entry) (s : ℕ) (m : Message) → (landed v log s m).rank.output ≡ v.rank.output
landed_output v [] s m = refl
landed_output v (e ∷ log) s m = absorb_output v.left (arrive v.rank s m) log

arrive_output : {S : Type 0} (stopped saved : Bool) (cl : Class) (w : Written S) (s : ℕ) (m : Message) → (written_arrive stopped saved cl w s m).image.output ≡ w.image.output
arrive_output true saved cl w s m = refl
arrive_output false true cl w s m = refl
arrive_output false false cl w s m = refl

-- outputs and images that have the same outputs
same_outputs : {S : Type 0} (n : ℕ) (f f' : Files S) (c c' : Core S) → f'.output ≡ f.output → ((r : ℕ) → (c'.one r).rank.output ≡ (c.one r).rank.output) → ((r : ℕ) → (c'.written r).image.output ≡ (c.written r).image.output)
    → ((r : ℕ) → r < n → StartsWith (f.output r) (c'.saved r).image.output) → OutputsFiled n f c → OutputsFiled n f' c'
same_outputs n f f' c c' file one written saved h = record {
  outputs = λ r b. ap (λ o. o r) file ∙ h.outputs r b ∙ sym (one r);
  committed = λ r b. subst (λ o. StartsWith (o r) (c'.saved r).image.output) (sym file) (saved r b);
  written = λ r b. subst (λ o. StartsWith (o r) (c'.written r).image.output) (sym file) (subst (StartsWith (f.output r)) (sym (written r)) (h.written r b));
}

log_output : {S : Type 0} (f : Files S) (r : ℕ) (w : Written S) (b : Bool) → (with_effects f (log_effects r w b)).output ≡ f.output
log_output f r w true = refl
log_output f r w false = refl

arrival_outputs : {S : Type 0} (n : ℕ) (f : Files S) (c : Core S) (s r : ℕ) (q : List Packet) → OutputsFiled n f c → OutputsFiled n (with_effects f (arrival_effects c r q)) (core_delivers n c s r q)
arrival_outputs n f c s r [] h = h
arrival_outputs {S} n f c s r (x ∷ rest) h = same_outputs n f (with_effects f (arrival_effects c r (x ∷ rest))) c (core_delivers n c s r (x ∷ rest)) (log_output f r (c.written r) (stops_at (c.protocol.layer r) x))
    (λ y. at_set (λ (v : Replaying S). v.rank.output ≡ (c.one y).rank.output) c.one r (landed (c.one r) (c.one r).log s x.0) y (λ e. landed_output (c.one r) (c.one r).log s x.0 ∙ ap (λ z. (c.one z).rank.output) (sym e)) (λ _. refl))
    (λ y. at_set (λ (w : Written S). w.image.output ≡ (c.written y).image.output) c.written r (written_arrive (after_stop p r) (after_save p r) (class_of (p.layer r).epoch x.1.epoch) (c.written r) s x.0) y
    (λ e. arrive_output (after_stop p r) (after_save p r) (class_of (p.layer r).epoch x.1.epoch) (c.written r) s x.0 ∙ ap (λ z. (c.written z).image.output) (sym e)) (λ _. refl))
    h.committed h
  where
    p : Protocol
    p = then_stop c.protocol r x

-- A control.
control_output : {S : Type 0} (n : ℕ) (f : Files S) (c : Core S) (s r : ℕ) (q : List Control) → (with_effects f (control_effects n c s r q)).output ≡ f.output
control_output n f c s r [] = refl
control_output n f c s r (Request l ∷ q) = refl
control_output n f c s r (Count l k ∷ q) = refl
control_output n f c s r (Ready l ∷ q) = refl
control_output n f c s r (Restored ∷ q) = refl
control_output n f c s r (Stop l ∷ q) = log_output f r (c.written r) (c.protocol.layer r).logging
control_output {S} n f c s r (Stopped l ∷ q) = commits (notes c.protocol.wave l (c.protocol.wave.stopped s) && all_below n (set_at c.protocol.wave.stopped s true))
  where
    commits : (b : Bool) → (with_effects f (if b then Commits (suc c.protocol.wave.line) ∷ [] else [])).output ≡ f.output
    commits true = refl
    commits false = refl

handled_outputs : {S : Type 0} (n : ℕ) (f f' : Files S) (c : Core S) (p : Protocol) → f'.output ≡ f.output → OutputsFiled n f c → OutputsFiled n f' (core_handled c p)
handled_outputs {S} n f f' c p file h = same_outputs n f f' c (core_handled c p) file (λ r. refl) (λ r. refl)
    (λ r b. cond_both (nat_lt c.protocol.wave.line p.wave.line) c.written c.saved (λ (w : ℕ → Written S). StartsWith (f.output r) (w r).image.output) (λ _. h.written r b) (λ _. h.committed r b)) h

-- Each event.
step_outputs : {S : Type 0} (P : Ranks S) (n : ℕ) (f : Files S) (c : Core S) (e : Event) → EachAppends P → OutputsFiled n f c → OutputsFiled n (with_effects f (step_effects_of P n c e)) (step_of P n c e)
unfolding EachAppends
step_outputs {S} P n f c (Turn r) appends h = go (nat_lt r n && (not (c.killed r) && may_turn (c.one r).log (c.one r).left)) refl
  where
    k : Rank S
    k = (c.one r).rank

    t : Turned S
    t = P.turn_of k

    go : (b : Bool) → (nat_lt r n && (not (c.killed r) && may_turn (c.one r).log (c.one r).left)) ≡ b → OutputsFiled n (with_effects f (if b then turn_effects (c.protocol.layer r) r k.output t.rank t.did else [])) (if b then core_turned n c r t else c)
    go true e = turn_outputs n f (with_effects f (turn_effects (c.protocol.layer r) r k.output t.rank t.did)) c r t (ltb-true r n (and_parts (nat_lt r n) (not (c.killed r) && may_turn (c.one r).log (c.one r).left) e).0) (appends k) (wrote f (c.protocol.layer r) r k.output t.rank t.did) h
    go false e = h
step_outputs {S} P n f c (Deliver s r) appends h = go (nat_lt s n && (nat_lt r n && (not (c.killed r) && accepts (c.one r).log (c.one r).left s)))
  where
    go : (b : Bool) → OutputsFiled n (with_effects f (if b then arrival_effects c r (c.protocol.channel s r) else [])) (if b then core_delivers n c s r (c.protocol.channel s r) else c)
    go true = arrival_outputs n f c s r (c.protocol.channel s r) h
    go false = h
step_outputs {S} P n f c (Handle s r) appends h = go (nat_lt s n && (nat_lt r n && not (c.killed r)))
  where
    q : List Control
    q = c.protocol.control s r

    go : (b : Bool) → OutputsFiled n (with_effects f (if b then control_effects n c s r q else [])) (if b then core_handled c (handles n c.protocol s r q) else c)
    go true = handled_outputs n f (with_effects f (control_effects n c s r q)) c (handles n c.protocol s r q) (control_output n f c s r q) h
    go false = h
step_outputs {S} P n f c Begin_wave appends h = cond_both (may_begin n c) (core_began c) c (OutputsFiled n f)
    (λ e. record { outputs = h.outputs; committed = h.committed; written = λ r b. subst (StartsWith (f.output r)) (h.outputs r b) (starts_all (f.output r)) })
    (λ e. h)

steps_outputs : {S : Type 0} (P : Ranks S) (n : ℕ) (es : List Event) (f : Files S) (c : Core S) → EachAppends P → OutputsFiled n f c → OutputsFiled n (with_effects f (steps_effects_of P n c es)) (steps_of P n c es)
steps_outputs P n [] f c appends h = h
steps_outputs P n (e ∷ es) f c appends h = subst (λ g. OutputsFiled n g (steps_of P n (step_of P n c e) es)) (sym (effects_more f (step_effects_of P n c e) (steps_effects_of P n (step_of P n c e) es)))
    (steps_outputs P n es (with_effects f (step_effects_of P n c e)) (step_of P n c e) appends (step_outputs P n f c e appends h))

pub next_outputs : {S : Type 0} (P : Ranks S) (n : ℕ) (f : Files S) (c : Core S) (e : Core_event) → EachAppends P → OutputsFiled n f c → OutputsFiled n (with_effects f (effects_of P n c e)) (next_of P n c e)
next_outputs P n f c (Single e) appends h = step_outputs P n f c e appends h
next_outputs P n f c Sweep appends h = steps_outputs P n (sweep_events n c.protocol) f c appends h
next_outputs P n f c (Kill r) appends h = cond_both (nat_lt r n) (record c { killed = set_at c.killed r true }) c (OutputsFiled n f) (λ e. record { outputs = h.outputs; committed = h.committed; written = h.written }) (λ e. h)

-- A restart: each output is cut to the length that the line's image has of it.
pub restart_outputs : {S : Type 0} (P : Ranks S) (n : ℕ) (f : Files S) (c : Core S) → LinesFiled n f c → OutputsFiled n f c → OutputsFiled n (cut_back f) (restart_of P c)
restart_outputs {S} P n f c lines h = go (c.protocol.wave.line == 0) refl
  where
    some : (k : ℕ) → (k == 0) ≡ false → 0 < k
    some zero e = absurd (true≢false e)
    some (suc k) e = omega arith

    cut : Bool → ℕ → List ℕ
    cut b r = if b then [] else take (length (f.committed r).image.output) (f.output r)

    cut_is : (b : Bool) → (c.protocol.wave.line == 0) ≡ b → (r : ℕ) → (cut_back f).output r ≡ cut b r
    cut_is b e r = ap (λ d. cut d r) (ap (λ k. k == 0) lines.line ∙ e)

    to_line : (r : ℕ) → r < n → (c.protocol.wave.line == 0) ≡ false → cut false r ≡ (c.saved r).image.output
    to_line r b e = let w = h.committed r b in ap (λ (k : Rank S). take (length k.output) (f.output r)) (lines.committed_images (some c.protocol.wave.line e) r b).image
        ∙ ap (take (length (c.saved r).image.output)) w.is ∙ take-append_seam (c.saved r).image.output w.rest

    go : (b : Bool) → (c.protocol.wave.line == 0) ≡ b → OutputsFiled n (cut_back f) (if b then start_of P else restart_from c.protocol.wave.line c.saved)
    go true e = record {
      outputs = λ r b. cut_is true e r;
      committed = λ r b. subst (λ o. StartsWith o []) (sym (cut_is true e r)) (starts_all []);
      written = λ r b. subst (λ o. StartsWith o []) (sym (cut_is true e r)) (starts_all []);
    }
    go false e = record {
      outputs = λ r b. is r b ∙ sym (absorb_output (c.saved r).ops (c.saved r).image (c.saved r).log);
      committed = λ r b. subst (λ o. StartsWith o (c.saved r).image.output) (sym (is r b)) (starts_all (c.saved r).image.output);
      written = λ r b. subst (λ o. StartsWith o (c.saved r).image.output) (sym (is r b)) (starts_all (c.saved r).image.output);
    }
      where
        is : (r : ℕ) → r < n → (cut_back f).output r ≡ (c.saved r).image.output
        is r b = cut_is false e r ∙ to_line r b e
