-- What a network stands for, after a write to one of its parts.
use Rattle.std.proofs.Common.{◌≡◌, ℕ, suc, ◌+◌, ◌<◌, Bool, true, false, not, List, [], ◌∷◌, ◌++◌, sym, refl, ap, ◌∙◌, subst, slice_set, get_or, arith}
use Rattle.std.specs.Prelude.{◌==◌, ◌&&◌, nat_lt, if◌then◌else◌}
use Rattle.late_logs.specs.declared.entry.Entry.{Entry}
use Rattle.mpi_words.specs.declared.control.Control.{Control}
use Rattle.mpi_words.specs.declared.control.Control.TheVariants.{Ready, Stopped}
use Rattle.mpi_words.specs.declared.label.Label.{Label}
use Rattle.mpi_words.specs.declared.message.Message.{Message}
use Rattle.core_laws.specs.Rows.{set_at, set_pair}
use Rattle.core_laws.specs.Ties.{AreBy}
use Rattle.core_laws.specs.Protocol.{Packet, Layer, Protocol, layer_label, layer_send, layer_skip, layer_ready, layer_stop, layer_save, Class, Late, Intra, Early, class_of, move_stop}
use Rattle.core_laws.specs.Handling.{ready_due, then_ready, then_send, stops_on}
use Rattle.core_laws.specs.CoreTies.{Pairs, IsNetwork, Placed, placed, log_while}
use Rattle.core_laws.specs.CoreTies as ties
use Rattle.core_laws.proofs.CoreTied.{are_by_at, placed_layer, placed_set, told_until, row_first, row_next, row_last}
use Rattle.epoch_protocol.specs.Layers.{Kept, IsLayer, after_send, send_as, after_ready, met_as, named}
use Rattle.epoch_protocol.specs.declared.answers.Class.{Class as Met}
use Rattle.epoch_protocol.specs.declared.answers.Class.TheVariants as met
use Rattle.epoch_protocol.specs.declared.answers.SendAs.TheVariants.{Out, Suppressed}
use Rattle.job_network.specs.Networks.{Led, IsLed, IsPlaced, told_each}
use Rattle.job_network.specs.Queues.{with_more}
use Rattle.job_network.proofs.Places.{pairs_more}

abbrev pub Net : Type 0
Net = ties.Network Kept Led

abbrev pub Is : ℕ → Net → Protocol → (ℕ → List Entry) → Type 0
Is n k p logs = IsNetwork (IsPlaced n) (IsLed n) n k p logs

-- the log that a rank's layer has in code
abbrev pub its_log : Protocol → (ℕ → List Entry) → ℕ → List Entry
its_log p logs r = log_while (p.layer r).logging (logs r)

-- the layer that was read at a rank's place
pub layer_there : (n : ℕ) (k : Net) (p : Protocol) (logs : ℕ → List Entry) (at r : ℕ) (now : Kept) → at ≡ r → now ≡ get_or k.layers at now → r < n → Is n k p logs → IsLayer n r now (p.layer r) (its_log p logs r)
layer_there n k p logs at r now same is b h = subst (λ z. IsLayer n r z (p.layer r) (its_log p logs r)) (sym (is ∙ ap (λ z. get_or k.layers z now) same)) (h.layers.each r now b)

pub layer_put : (n : ℕ) (k : Net) (p : Protocol) (logs : ℕ → List Entry) (at r : ℕ) (new : Kept) (l : Layer) → at ≡ r → r < n → IsLayer n r new l (log_while l.logging (logs r)) → Is n k p logs → Is n (record k { layers = slice_set k.layers at new }) (record p { layer = set_at p.layer r l }) logs
layer_put n k p logs at r new l same b is h = record {
  layers = subst (λ z. AreBy (IsPlaced n) n (slice_set k.layers z new) (placed (set_at p.layer r l) logs)) (sym same) (placed_layer (IsPlaced n) n k.layers p.layer logs r new l b is h.layers);
  channels = h.channels;
  controls = h.controls;
  wave = h.wave;
}

pub layer_and_log_put : (n : ℕ) (k : Net) (p : Protocol) (logs : ℕ → List Entry) (at r : ℕ) (new : Kept) (l : Layer) (log : List Entry) → at ≡ r → r < n → IsLayer n r new l (log_while l.logging log) → Is n k p logs
    → Is n (record k { layers = slice_set k.layers at new }) (record p { layer = set_at p.layer r l }) (set_at logs r log)
layer_and_log_put n k p logs at r new l log same b is h = record {
  layers = subst (λ z. AreBy (IsPlaced n) n (slice_set k.layers z new) (placed (set_at p.layer r l) (set_at logs r log))) (sym same) (placed_set (IsPlaced n) n k.layers p.layer logs r new l log b is h.layers);
  channels = h.channels;
  controls = h.controls;
  wave = h.wave;
}

-- a layer is written of which the same is said
pub layer_same : (n : ℕ) (k : Net) (p : Protocol) (logs : ℕ → List Entry) (at r : ℕ) (new : Kept) → at ≡ r → r < n → IsLayer n r new (p.layer r) (its_log p logs r) → Is n k p logs → Is n (record k { layers = slice_set k.layers at new }) p logs
layer_same n k p logs at r new same b is h = record {
  layers = subst (λ z. AreBy (IsPlaced n) n (slice_set k.layers z new) (placed p.layer logs)) (sym same) (are_by_at (IsPlaced n) n k.layers (placed p.layer logs) (placed p.layer logs) r new b is (λ x _ _. refl) h.layers);
  channels = h.channels;
  controls = h.controls;
  wave = h.wave;
}

pub control_put : (n : ℕ) (k : Net) (p : Protocol) (logs : ℕ → List Entry) (controls : List (List (List Control))) (f : ℕ → ℕ → List Control) → Pairs n controls f → Is n k p logs → Is n (record k { controls = controls }) (record p { control = f }) logs
control_put n k p logs controls f new h = record { layers = h.layers; channels = h.channels; controls = new; wave = h.wave }

pub control_more : (n : ℕ) (k : Net) (p : Protocol) (logs : ℕ → List Entry) (s r : ℕ) (x : Control) (controls : List (List (List Control))) → s < n → r < n → controls ≡ with_more k.controls s r x → Is n k p logs
    → Is n (record k { controls = controls }) (record p { control = set_pair p.control s r (p.control s r ++ x ∷ []) }) logs
control_more n k p logs s r x controls a b e h = control_put n k p logs controls (set_pair p.control s r (p.control s r ++ x ∷ [])) (pairs_more n k.controls controls p.control s r x a b h.controls e) h

pub channel_more : (n : ℕ) (k : Net) (p : Protocol) (logs : ℕ → List Entry) (s r : ℕ) (x : Packet) (channels : List (List (List Packet))) → s < n → r < n → channels ≡ with_more k.channels s r x → Is n k p logs
    → Is n (record k { channels = channels }) (record p { channel = set_pair p.channel s r (p.channel s r ++ x ∷ []) }) logs
channel_more n k p logs s r x channels a b e h = record { layers = h.layers; channels = pairs_more n k.channels channels p.channel s r x a b h.channels e; controls = h.controls; wave = h.wave }

-- A send.
is_left_out : (b : Bool) (x : Label) → (if b then Suppressed else Out x) ≡ Suppressed → b ≡ true
is_left_out true x e = refl
is_left_out false x e = cc

is_sent : (b : Bool) (x y : Label) → (if b then Suppressed else Out x) ≡ Out y → (b ≡ false) × (y ≡ x)
is_sent true x y e = cc
is_sent false x y e = (refl, cc)

pub sent_nothing : (n : ℕ) (k : Net) (p : Protocol) (logs : ℕ → List Entry) (at r to : ℕ) (m : Message) (new : Kept) → at ≡ r → r < n → send_as (p.layer r) to ≡ Suppressed → IsLayer n r new (after_send (p.layer r) to) (its_log p logs r) → Is n k p logs
    → Is n (record k { layers = slice_set k.layers at new }) (then_send p r to m) logs
sent_nothing n k p logs at r to m new same b left is h =
    let e = is_left_out (nat_lt 0 ((p.layer r).skip to)) (layer_label (p.layer r)) left in
    rw e (layer_put n k p logs at r new (layer_skip (p.layer r) to) same b (rw e at is) h)

pub sent_out : (n : ℕ) (k : Net) (p : Protocol) (logs : ℕ → List Entry) (at r to : ℕ) (m : Message) (label : Label) (new : Kept) (channels : List (List (List Packet))) → at ≡ r → r < n → to < n → send_as (p.layer r) to ≡ Out label → IsLayer n r new (after_send (p.layer r) to) (its_log p logs r)
    → channels ≡ with_more k.channels r to (m, label) → Is n k p logs → Is n (record k { layers = slice_set k.layers at new; channels = channels }) (then_send p r to m) logs
sent_out n k p logs at r to m label new channels same b i out is e h =
    let g = is_sent (nat_lt 0 ((p.layer r).skip to)) (layer_label (p.layer r)) label out in
    let l = layer_send (p.layer r) to in
    rw g.0 (channel_more n (record k { layers = slice_set k.layers at new }) (record p { layer = set_at p.layer r l }) logs r to (m, layer_label (p.layer r)) channels b i (e ∙ ap (λ z. with_more k.channels r to (m, z)) g.1)
    (layer_put n k p logs at r new l same b (rw g.0 at is) h))

-- Ready, where it is due and where not.
pub not_ready : (n : ℕ) (k : Net) (p : Protocol) (logs : ℕ → List Entry) (at r : ℕ) (new : Kept) → at ≡ r → r < n → ready_due n (p.layer r) ≡ false → IsLayer n r new (after_ready n (p.layer r)) (its_log p logs r) → Is n k p logs
    → Is n (record k { layers = slice_set k.layers at new }) (then_ready n p r) logs
not_ready n k p logs at r new same b e is h = rw e (layer_same n k p logs at r new same b (rw e at is) h)

pub is_ready : (n : ℕ) (k : Net) (p : Protocol) (logs : ℕ → List Entry) (at r line : ℕ) (new : Kept) (controls : List (List (List Control))) → at ≡ r → r < n → ready_due n (p.layer r) ≡ true → line ≡ new.epoch → IsLayer n r new (after_ready n (p.layer r)) (its_log p logs r)
    → controls ≡ with_more k.controls r 0 (Ready line) → Is n k p logs → Is n (record k { layers = slice_set k.layers at new; controls = controls }) (then_ready n p r) logs
is_ready n k p logs at r line new controls same b e said is more h =
    let now : IsLayer n r new (layer_ready (p.layer r)) (its_log p logs r) = rw e at is in
    rw e (control_more n (record k { layers = slice_set k.layers at new }) (record p { layer = set_at p.layer r (layer_ready (p.layer r)) }) logs r 0 (Ready (p.layer r).epoch) controls b (omega arith)
    (more ∙ ap (λ z. with_more k.controls r 0 (Ready z)) (said ∙ now.epoch)) (layer_put n k p logs at r new (layer_ready (p.layer r)) same b now h))

-- A stop.
pub stops : (n : ℕ) (k : Net) (p : Protocol) (logs : ℕ → List Entry) (at r line : ℕ) (new : Kept) (controls : List (List (List Control))) → at ≡ r → r < n → line ≡ (p.layer r).epoch → IsLayer n r new (layer_stop (p.layer r)) []
    → controls ≡ with_more k.controls r 0 (Stopped line) → Is n k p logs → Is n (record k { layers = slice_set k.layers at new; controls = controls }) (move_stop p r) logs
stops n k p logs at r line new controls same b said is more h =
    control_more n (record k { layers = slice_set k.layers at new }) (record p { layer = set_at p.layer r (layer_stop (p.layer r)) }) logs r 0 (Stopped (p.layer r).epoch) controls b (omega arith)
    (more ∙ ap (λ z. with_more k.controls r 0 (Stopped z)) said) (layer_put n k p logs at r new (layer_stop (p.layer r)) same b is h)

met_stops : (b : Bool) (cl : Class) → (if b then met.IntraAndStopped else named cl) ≡ met.IntraAndStopped → b ≡ true
met_stops true cl e = refl
met_stops false Late e = cc
met_stops false Intra e = cc
met_stops false Early e = cc

met_goes_on : (b : Bool) (cl : Class) → ((if b then met.IntraAndStopped else named cl) ≡ met.IntraAndStopped → ⊥) → b ≡ false
met_goes_on true cl e = absurd (e refl)
met_goes_on false cl e = refl

pub stops_there : (l : Layer) (x : Label) (result : Met) → result ≡ met_as l x → result ≡ met.IntraAndStopped → stops_on l x ≡ true
stops_there l x result is stopped = met_stops (stops_on l x) (class_of l.epoch x.epoch) (sym is ∙ stopped)

pub goes_on_there : (l : Layer) (x : Label) (result : Met) → result ≡ met_as l x → (result ≡ met.IntraAndStopped → ⊥) → stops_on l x ≡ false
goes_on_there l x result is other = met_goes_on (stops_on l x) (class_of l.epoch x.epoch) (λ e. other (is ∙ e))

first_true : (a b : Bool) → (a && b) ≡ true → a ≡ true
first_true true b e = refl
first_true false b e = e

pub stopping_logs : (l : Layer) (x : Label) → stops_on l x ≡ true → l.logging ≡ true
stopping_logs l x e = first_true l.logging ((x.epoch == l.epoch) && not x.logging) e

-- A rank tells each rank, and has told the first i of them.
abbrev pub told_row : Protocol → ℕ → (ℕ → Control) → ℕ → Protocol
told_row p r says i = record p { control = set_at p.control r (told_until (p.control r) says i) }

pub told_none : (n : ℕ) (k : Net) (p : Protocol) (logs : ℕ → List Entry) (r : ℕ) (says : ℕ → Control) → Is n k p logs → Is n k (told_row p r says 0) logs
told_none n k p logs r says h = control_put n k p logs k.controls (set_at p.control r (told_until (p.control r) says 0)) (row_first n k.controls p.control r says h.controls) h

pub told_more : (n : ℕ) (k : Net) (p : Protocol) (logs : ℕ → List Entry) (r i : ℕ) (says : ℕ → Control) (v : Control) (controls : List (List (List Control))) → r < n → i < n → v ≡ says i → controls ≡ with_more k.controls r i v → Is n k (told_row p r says i) logs
    → Is n (record k { controls = controls }) (told_row p r says (i + 1)) logs
told_more n k p logs r i says v controls a b same more h =
    let next : suc i ≡ i + 1 = omega arith in
    subst (λ j. Is n (record k { controls = controls }) (told_row p r says j) logs) next
    (control_put n k (told_row p r says i) logs controls (set_at p.control r (told_until (p.control r) says (suc i)))
    (subst (λ z. Pairs n z (set_at p.control r (told_until (p.control r) says (suc i)))) (sym (more ∙ ap (with_more k.controls r i) same)) (row_next n k.controls p.control r i says [] [] a b h.controls)) h)

pub told_all : (n : ℕ) (k : Net) (p : Protocol) (logs : ℕ → List Entry) (r i : ℕ) (says : ℕ → Control) → i ≡ n → Is n k (told_row p r says i) logs → Is n k (told_each p r says) logs
told_all n k p logs r i says e h = control_put n k (told_row p r says i) logs k.controls (set_at p.control r (λ y. p.control r y ++ says y ∷ []))
    (row_last n k.controls p.control r says (subst (λ j. Pairs n k.controls (set_at p.control r (told_until (p.control r) says j))) e h.controls)) h

-- A save, before the ranks are told.
pub saves : (n : ℕ) (k : Net) (p : Protocol) (logs : ℕ → List Entry) (at r : ℕ) (new : Kept) → at ≡ r → r < n → logs r ≡ [] → IsLayer n r new (layer_save (p.layer r)) [] → Is n k p logs
    → Is n (record k { layers = slice_set k.layers at new }) (record p { layer = set_at p.layer r (layer_save (p.layer r)) }) logs
saves n k p logs at r new same b none is h = layer_put n k p logs at r new (layer_save (p.layer r)) same b (subst (IsLayer n r new (layer_save (p.layer r))) (sym none) is) h
