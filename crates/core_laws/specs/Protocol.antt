-- The checkpoint protocol alone: layers, channels, controls and rank 0's wave, without the ranks' machines.
use Rattle.std.specs.Prelude.{ℕ, suc, pred, Bool, true, false, List, [], ◌∷◌, ◌++◌, Option, Some, None, ◌==◌, nat_lt, if◌then◌else◌}
use Rattle.mpi_words.specs.declared.message.Message.{Message}
use Rattle.mpi_words.specs.declared.label.Label.{Label}
use Rattle.mpi_words.specs.declared.control.Control.{Control}
use Rattle.mpi_words.specs.declared.control.Control.TheVariants.{Request, Count, Ready, Stop, Stopped, Restored}
use Rattle.core_laws.specs.Rows.{set_at, set_pair}

-- a message on a channel, with its sender's epoch and flag as of its send
abbrev pub Packet : Type 0
Packet = Message × Label

-- One rank's layer. Its counts are for each other rank: sent and got in this epoch, got of the old one, and of the next one early.
pub record Layer : Type 0 where
  pub epoch : ℕ
  pub logging : Bool
  pub asked : Bool
  pub was_ready : Bool
  pub sent : ℕ → ℕ
  pub got : ℕ → ℕ
  pub old : ℕ → ℕ
  pub early : ℕ → ℕ
  pub told : ℕ → Option ℕ
  -- how many sends to each rank are left out yet
  pub skip : ℕ → ℕ

-- rank 0's wave
pub record Wave : Type 0 where
  pub line : ℕ
  pub under_way : Bool
  pub stop_told : Bool
  pub ready : ℕ → Bool
  pub stopped : ℕ → Bool

pub record Protocol : Type 0 where
  pub layer : ℕ → Layer
  pub channel : ℕ → ℕ → List Packet
  pub control : ℕ → ℕ → List Control
  pub wave : Wave
  -- who has told rank 0 that it restores no more
  pub restored : ℕ → Bool

-- What one rank's layer does, and the label of what it sends.
abbrev pub layer_label : Layer → Label
layer_label l = record { epoch = l.epoch; logging = l.logging }

abbrev pub layer_send : Layer → ℕ → Layer
layer_send l to = record l { sent = set_at l.sent to (suc (l.sent to)) }

abbrev pub layer_save : Layer → Layer
layer_save l = record {
  epoch = suc l.epoch;
  logging = true;
  asked = false;
  was_ready = false;
  sent = λ x. 0;
  got = l.early;
  old = l.got;
  early = λ x. 0;
  told = l.told;
  skip = l.skip;
}

abbrev pub layer_skip : Layer → ℕ → Layer
layer_skip l to = record (layer_send l to) { skip = set_at l.skip to (pred (l.skip to)) }

abbrev pub layer_ready : Layer → Layer
layer_ready l = record l { was_ready = true; told = λ x. None }

abbrev pub layer_stop : Layer → Layer
layer_stop l = record l { logging = false }

abbrev pub layer_asked : Layer → Layer
layer_asked l = record l { asked = true }

abbrev pub layer_told : Layer → ℕ → ℕ → Layer
layer_told l s k = record l { told = set_at l.told s (Some k) }

-- at a restart, by the early counts of the rank's own image, and those of it in the images of the others
abbrev pub layer_restarted : ℕ → (ℕ → ℕ) → (ℕ → ℕ) → Layer
layer_restarted L early skip = record { epoch = L; logging = false; asked = false; was_ready = false; sent = λ x. 0; got = early; old = λ x. 0; early = λ x. 0; told = λ x. None; skip = skip }

-- by its epoch against the rank's an arrival is late, intra or early
pub data Class : Type 0 where
  Late : Class
  Intra : Class
  Early : Class

abbrev pub class_of : ℕ → ℕ → Class
class_of mine its = if nat_lt its mine then Late else (if its == mine then Intra else Early)

abbrev pub layer_arrive : Layer → ℕ → Class → Layer
layer_arrive l s Late = record l { old = set_at l.old s (suc (l.old s)) }
layer_arrive l s Intra = record l { got = set_at l.got s (suc (l.got s)) }
layer_arrive l s Early = record l { early = set_at l.early s (suc (l.early s)) }

-- What rank 0's wave does.
abbrev pub no_wave : ℕ → Wave
no_wave line = record { line = line; under_way = false; stop_told = false; ready = λ x. false; stopped = λ x. false }

abbrev pub wave_start : Wave → Wave
wave_start w = record (no_wave w.line) { under_way = true }

abbrev pub wave_note_ready : Wave → ℕ → Wave
wave_note_ready w s = record w { ready = set_at w.ready s true }

abbrev pub wave_note_stopped : Wave → ℕ → Wave
wave_note_stopped w s = record w { stopped = set_at w.stopped s true }

abbrev pub wave_tell_stop : Wave → Wave
wave_tell_stop w = record w { stop_told = true }

abbrev pub wave_over : Wave → Wave
wave_over w = no_wave (suc w.line)

-- The moves of the protocol. Each event is at most four of them, one after the other.
abbrev pub move_send : Protocol → ℕ → ℕ → Message → Protocol
move_send p s r m = record p {
  layer = set_at p.layer s (layer_send (p.layer s) r);
  channel = set_pair p.channel s r (p.channel s r ++ (m, layer_label (p.layer s)) ∷ []);
}

abbrev pub move_save : Protocol → ℕ → Protocol
move_save p r = record p {
  layer = set_at p.layer r (layer_save (p.layer r));
  control = set_at p.control r (λ x. p.control r x ++ Count (suc (p.layer r).epoch) ((p.layer r).sent x) ∷ []);
}

-- a message leaves its channel, where `rest` is left
abbrev pub move_arrive : Protocol → ℕ → ℕ → ℕ → List Packet → Protocol
move_arrive p s r epoch rest = record p {
  layer = set_at p.layer r (layer_arrive (p.layer r) s (class_of (p.layer r).epoch epoch));
  channel = set_pair p.channel s r rest;
}

abbrev pub move_ready : Protocol → ℕ → Protocol
move_ready p r = record p {
  layer = set_at p.layer r (layer_ready (p.layer r));
  control = set_pair p.control r 0 (p.control r 0 ++ Ready (p.layer r).epoch ∷ []);
}

abbrev pub move_stop : Protocol → ℕ → Protocol
move_stop p r = record p {
  layer = set_at p.layer r (layer_stop (p.layer r));
  control = set_pair p.control r 0 (p.control r 0 ++ Stopped (p.layer r).epoch ∷ []);
}

-- a control leaves its channel
abbrev pub move_pop : Protocol → ℕ → ℕ → List Control → Protocol
move_pop p s r rest = record p { control = set_pair p.control s r rest }

abbrev pub move_asked : Protocol → ℕ → ℕ → List Control → Protocol
move_asked p s r rest = record p {
  layer = set_at p.layer r (layer_asked (p.layer r));
  control = set_pair p.control s r rest;
}

abbrev pub move_told : Protocol → ℕ → ℕ → ℕ → List Control → Protocol
move_told p s r k rest = record p {
  layer = set_at p.layer r (layer_told (p.layer r) s k);
  control = set_pair p.control s r rest;
}

-- rank r is rank 0 here
abbrev pub move_note_ready : Protocol → ℕ → ℕ → List Control → Protocol
move_note_ready p s r rest = record p {
  wave = wave_note_ready p.wave s;
  control = set_pair p.control s r rest;
}

-- rank r is rank 0 here
abbrev pub move_note_stopped : Protocol → ℕ → ℕ → List Control → Protocol
move_note_stopped p s r rest = record p {
  wave = wave_note_stopped p.wave s;
  control = set_pair p.control s r rest;
}

abbrev pub move_tell_stop : Protocol → Protocol
move_tell_stop p = record p {
  wave = wave_tell_stop p.wave;
  control = set_at p.control 0 (λ x. p.control 0 x ++ Stop (suc p.wave.line) ∷ []);
}

abbrev pub move_commit : Protocol → Protocol
move_commit p = record p { wave = wave_over p.wave }

abbrev pub move_start : Protocol → Protocol
move_start p = record p {
  wave = wave_start p.wave;
  control = set_at p.control 0 (λ x. p.control 0 x ++ Request (suc p.wave.line) ∷ []);
}

-- a send that is left out
abbrev pub move_skip : Protocol → ℕ → ℕ → Protocol
move_skip p s r = record p { layer = set_at p.layer s (layer_skip (p.layer s) r) }

-- a rank that has ceased to restore
abbrev pub move_tell_restored : Protocol → ℕ → Protocol
move_tell_restored p r = record p { control = set_pair p.control r 0 (p.control r 0 ++ Restored ∷ []) }

-- rank r is rank 0 here
abbrev pub move_note_restored : Protocol → ℕ → ℕ → List Control → Protocol
move_note_restored p s r rest = record p {
  restored = set_at p.restored s true;
  control = set_pair p.control s r rest;
}

abbrev pub told_restored : Bool → List Control
told_restored true = []
told_restored false = Restored ∷ []

-- The restart from a line whose images have these early counts. A rank that has nothing to restore tells so.
abbrev pub restarted : ℕ → (ℕ → ℕ → ℕ) → (ℕ → Bool) → Protocol
restarted L early restores = record {
  layer = λ r. layer_restarted L (early r) (λ x. early x r);
  channel = λ s r. [];
  control = λ s r. if r == 0 then told_restored (restores s) else [];
  wave = no_wave L;
  restored = λ r. false;
}

-- the early counts after an arrival, and whether it is late
abbrev pub early_more : Class → (ℕ → ℕ) → ℕ → ℕ → ℕ
early_more Early f s = set_at f s (suc (f s))
early_more Late f s = f
early_more Intra f s = f

abbrev pub is_late : Class → Bool
is_late Late = true
is_late Intra = false
is_late Early = false
