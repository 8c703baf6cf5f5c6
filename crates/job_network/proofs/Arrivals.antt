-- A message that arrives at a layer.
use Rattle.std.proofs.Common.{◌≡◌, ℕ, ◌+◌, ◌<◌, ◌^◌, Bool, true, false, List, sym, refl, ap, ◌∙◌, subst, slice_set, arith}
use Rattle.std.specs.Prelude.{if◌then◌else◌}
use Rattle.std.proofs.lemmas.Bool.{cond_both, false≢true}
use Rattle.late_logs.specs.declared.entry.Entry.{Entry}
use Rattle.mpi_words.specs.declared.label.Label.{Label}
use Rattle.mpi_words.specs.declared.message.Message.{Message}
use Rattle.core_laws.specs.Rows.{set_pair}
use Rattle.core_laws.specs.Protocol.{Packet, Layer, Protocol, Class, Late, Intra, Early, class_of, layer_arrive, layer_stop, move_stop, move_arrive}
use Rattle.core_laws.specs.Handling.{stops_on, stops_at, then_stop}
use Rattle.core_laws.specs.Written.{log_more}
use Rattle.core_laws.specs.CoreTies.{Pairs, log_while}
use Rattle.core_laws.proofs.Changes.{set_at-same}
use Rattle.core_laws.proofs.PromptKept.{arrive_logging}
use Rattle.epoch_protocol.specs.Layers.{Kept, IsLayer, HasRoom, met_as, named, log_after}
use Rattle.epoch_protocol.specs.declared.answers.Class.TheVariants as met
use Rattle.job_network.specs.Networks.{RoomToArrive, counted, logs_with}
use Rattle.job_network.proofs.Nets.{Net, Is, its_log, layer_and_log_put}

-- the protocol after a stop at this label, if there is one
abbrev pub after_stop_on : Protocol → ℕ → Label → Protocol
after_stop_on p r x = if stops_on (p.layer r) x then move_stop p r else p

-- what is logged where the rank goes on
alike : (logging b : Bool) (cl : Class) (log : List Entry) (s : ℕ) (m : Message) → b ≡ false → log_after logging (if b then met.IntraAndStopped else named cl) (log_while logging log) s m ≡ log_while logging (log_more cl log s m)
alike true true cl log s m e = absurd (false≢true (sym e))
alike true false Late log s m e = refl
alike true false Intra log s m e = refl
alike true false Early log s m e = refl
alike false b cl log s m e = refl

logged : (p : Protocol) (logs : ℕ → List Entry) (s r : ℕ) (x : Label) (m : Message) → let q = after_stop_on p r x in
    log_after (q.layer r).logging (met_as (q.layer r) x) (its_log q logs r) s m ≡ log_while (q.layer r).logging (log_more (class_of (p.layer r).epoch x.epoch) (logs r) s m)
logged p logs s r x m = cond_both (stops_on (p.layer r) x) (move_stop p r) p (λ (q : Protocol). log_after (q.layer r).logging (met_as (q.layer r) x) (log_while (q.layer r).logging (logs r)) s m ≡ log_while (q.layer r).logging (log_more (class_of (p.layer r).epoch x.epoch) (logs r) s m))
    (λ _. subst (λ (l : Layer). log_after l.logging (met_as l x) (log_while l.logging (logs r)) s m ≡ log_while l.logging (log_more (class_of (p.layer r).epoch x.epoch) (logs r) s m)) (sym (set_at-same p.layer r (layer_stop (p.layer r)))) refl)
    (λ e. alike (p.layer r).logging (stops_on (p.layer r) x) (class_of (p.layer r).epoch x.epoch) (logs r) s m e)

pub taken_in : (n : ℕ) (k : Net) (p : Protocol) (logs : ℕ → List Entry) (at s r : ℕ) (x : Label) (m : Message) (new : Kept) → let q = after_stop_on p r x in at ≡ r → r < n
    → IsLayer n r new (layer_arrive (q.layer r) s (class_of (q.layer r).epoch x.epoch)) (log_after (q.layer r).logging (met_as (q.layer r) x) (its_log q logs r) s m) → Is n k q logs
    → Is n (record k { layers = slice_set k.layers at new }) (counted q s r x.epoch) (logs_with p logs s r x m)
taken_in n k p logs at s r x m new same b is h =
    let q : Protocol = after_stop_on p r x in
    let l : Layer = layer_arrive (q.layer r) s (class_of (q.layer r).epoch x.epoch) in
    let log : List Entry = log_more (class_of (p.layer r).epoch x.epoch) (logs r) s m in
    layer_and_log_put n k q logs at r new l log same b
    (subst (IsLayer n r new l) (logged p logs s r x m ∙ ap (λ z. log_while z log) (sym (arrive_logging (q.layer r) s (class_of (q.layer r).epoch x.epoch)))) is) h

pub channel_put : (n : ℕ) (k : Net) (p : Protocol) (logs : ℕ → List Entry) (channels : List (List (List Packet))) (f : ℕ → ℕ → List Packet) → Pairs n channels f → Is n k p logs → Is n (record k { channels = channels }) (record p { channel = f }) logs
channel_put n k p logs channels f new h = record { layers = h.layers; channels = new; controls = h.controls; wave = h.wave }

-- the message leaves its channel first, and is counted then
pub in_one : (p : Protocol) (s r : ℕ) (x : Packet) (rest : List Packet) → counted (then_stop (record p { channel = set_pair p.channel s r rest }) r x) s r x.1.epoch ≡ move_arrive (then_stop p r x) s r x.1.epoch rest
in_one p s r x rest = go (stops_at (p.layer r) x)
  where
    go : (b : Bool) → counted (if b then move_stop (record p { channel = set_pair p.channel s r rest }) r else record p { channel = set_pair p.channel s r rest }) s r x.1.epoch ≡ move_arrive (if b then move_stop p r else p) s r x.1.epoch rest
    go true = refl
    go false = refl

-- a stop changes no counts
abbrev Room : Layer → ℕ → Type 0
Room l s = (l.got s + 1 < 2 ^ 32) × (l.old s + 1 < 2 ^ 32) × (l.early s + 1 < 2 ^ 32)

room_after : (p : Protocol) (s r : ℕ) (x : Label) → Room (p.layer r) s → Room ((after_stop_on p r x).layer r) s
room_after p s r x h = cond_both (stops_on (p.layer r) x) (move_stop p r) p (λ (q : Protocol). Room (q.layer r) s) (λ _. subst (λ (l : Layer). Room l s) (sym (set_at-same p.layer r (layer_stop (p.layer r)))) h) (λ _. h)

pub has_room : (n s r : ℕ) (p : Protocol) (x : Label) (now : Kept) (log : List Entry) → RoomToArrive s r n p → IsLayer n r now ((after_stop_on p r x).layer r) log → HasRoom now s
has_room n s r p x now log h is =
    let room = room_after p s r x (h.got, h.old, h.early) in
    record { got = omega (arith, room.0, is.got.each s 0 h.sender); before = omega (arith, room.1, is.before.each s 0 h.sender); early = omega (arith, room.2, is.early.each s 0 h.sender) }
