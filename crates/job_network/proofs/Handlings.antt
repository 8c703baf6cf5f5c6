-- A control that has left its channel: what a layer does, and what rank 0 notes.
use Rattle.std.proofs.Common.{◌≡◌, ℕ, suc, ◌<◌, Bool, true, false, not, List, [], ◌∷◌, ◌++◌, sym, refl, ap, ◌∙◌, subst, slice_set, ⊎_elim, arith}
use Rattle.std.proofs.lemmas.Bool.{false≢true, le-ltb, cases_lt}
use Rattle.std.specs.Prelude.{◌&&◌, nat_lt, if◌then◌else◌}
use Rattle.late_logs.specs.declared.entry.Entry.{Entry}
use Rattle.mpi_words.specs.declared.control.Control.{Control}
use Rattle.mpi_words.specs.declared.control.Control.TheVariants.{Request, Count, Ready, Stop, Stopped, Restored}
use Rattle.core_laws.specs.Rows.{set_at, set_pair}
use Rattle.core_laws.specs.Protocol.{Layer, Wave, Protocol, layer_asked, layer_told, layer_ready, wave_note_ready, wave_note_stopped, wave_tell_stop, wave_over, move_stop, move_pop, move_tell_stop, move_commit}
use Rattle.core_laws.specs.Handling.{all_below, notes, ready_due, handles}
use Rattle.core_laws.specs.Ties.{AreBy}
use Rattle.core_laws.specs.CoreTies.{placed, log_while}
use Rattle.core_laws.proofs.Changes.{set_at-same, set_at-other}
use Rattle.core_laws.proofs.CoreTied.{are_by_at}
use Rattle.epoch_protocol.specs.Layers.{Kept, IsLayer, told_by, after_control, log_of}
use Rattle.epoch_protocol.specs.declared.answers.Told.TheVariants as answer
use Rattle.core_laws.specs.Core.{last_line}
use Rattle.wave_commit.specs.Waves.{next_of, wave_after, restored_after, start_of, lowest_failing}
use Rattle.wave_commit.specs.declared.wave.NotNow.{NotNow}
use Rattle.wave_commit.specs.declared.wave.NotNow.TheVariants.{Rank, UnderWay, LastLine}
use Rattle.wave_commit.specs.declared.wave.Started.TheVariants as begins
use Rattle.wave_commit.specs.declared.wave.Next.TheVariants as next
use Rattle.job_network.specs.declared.handling.Handled.TheVariants as came
use Rattle.job_network.specs.Networks.{Led, IsLed, IsPlaced, told_each}
use Rattle.job_network.specs.Controls.{may_start, handled, outcome, Obeys, Notes}
use Rattle.job_network.specs.Queues.{with_more}
use Rattle.job_network.proofs.Nets.{Net, Is, its_log, layer_put, layer_same, control_more}

-- the first control of a channel is handled
pub handles_one : (n : ℕ) (p : Protocol) (s r : ℕ) (x : Control) (rest : List Control) → handles n p s r (x ∷ rest) ≡ handled n (move_pop p s r rest) s r x
handles_one n p s r (Request l) rest = refl
handles_one n p s r (Count l k) rest = refl
handles_one n p s r (Ready l) rest = refl
handles_one n p s r (Stop l) rest = refl
handles_one n p s r (Stopped l) rest = refl
handles_one n p s r Restored rest = refl

pub outcome_popped : (n s r ops : ℕ) (p : Protocol) (logs : ℕ → List Entry) (x : Control) (rest : List Control) → outcome n s r ops (move_pop p s r rest) logs x ≡ outcome n s r ops p logs x
outcome_popped n s r ops p logs (Request l) rest = refl
outcome_popped n s r ops p logs (Count l k) rest = refl
outcome_popped n s r ops p logs (Ready l) rest = refl
outcome_popped n s r ops p logs (Stop l) rest = refl
outcome_popped n s r ops p logs (Stopped l) rest = refl
outcome_popped n s r ops p logs Restored rest = refl

-- Two writes to one layer.
layer_put_over : (n : ℕ) (k : Net) (p : Protocol) (logs : ℕ → List Entry) (at r : ℕ) (new : Kept) (l m : Layer) → at ≡ r → r < n → IsLayer n r new m (log_while m.logging (logs r)) → Is n k p logs
    → Is n (record k { layers = slice_set k.layers at new }) (record p { layer = set_at (set_at p.layer r l) r m }) logs
layer_put_over n k p logs at r new l m same b is h = record {
  layers = subst (λ z. AreBy (IsPlaced n) n (slice_set k.layers z new) (placed (set_at (set_at p.layer r l) r m) logs)) (sym same)
      (are_by_at (IsPlaced n) n k.layers (placed p.layer logs) (placed (set_at (set_at p.layer r l) r m) logs) r new b
      (subst (λ (z : Layer). IsLayer n r new z (log_while z.logging (logs r))) (sym (set_at-same (set_at p.layer r l) r m)) is)
      (λ x _ e. ap (λ (z : Layer). record { rank = x; layer = z; log = log_while z.logging (logs x) }) (set_at-other (set_at p.layer r l) r m x e ∙ set_at-other p.layer r l x e)) h.layers);
  channels = h.channels;
  controls = h.controls;
  wave = h.wave;
}

-- A layer that says nothing, one that is ready, and one that is to stop.
not_ready_yet : (b : Bool) → (if b then answer.SendReady else answer.Nothing) ≡ answer.Nothing → b ≡ false
not_ready_yet true e = cc
not_ready_yet false e = refl

ready_now : (b : Bool) → (if b then answer.SendReady else answer.Nothing) ≡ answer.SendReady → b ≡ true
ready_now true e = refl
ready_now false e = cc

never_stops : (b : Bool) → (if b then answer.SendReady else answer.Nothing) ≡ answer.StopNow → ⊥
never_stops true e = cc
never_stops false e = cc

goes_on : (b : Bool) → (if b then answer.StopNow else answer.Nothing) ≡ answer.Nothing → b ≡ false
goes_on true e = cc
goes_on false e = refl

stops_now : (b : Bool) → (if b then answer.StopNow else answer.Nothing) ≡ answer.StopNow → b ≡ true
stops_now true e = refl
stops_now false e = cc

is_not_ready : (b : Bool) → (if b then answer.StopNow else answer.Nothing) ≡ answer.SendReady → ⊥
is_not_ready true e = cc
is_not_ready false e = cc

nothing_is_ready : answer.Nothing ≡ answer.SendReady → ⊥
nothing_is_ready e = cc

nothing_stops : answer.Nothing ≡ answer.StopNow → ⊥
nothing_stops e = cc

pub obeys_quietly : (n : ℕ) (k : Net) (p : Protocol) (logs : ℕ → List Entry) (at s r ops : ℕ) (x : Control) (new : Kept) → at ≡ r → r < n → Obeys x → told_by n (p.layer r) s x ≡ answer.Nothing → IsLayer n r new (after_control n (p.layer r) s x) (its_log p logs r) → Is n k p logs
    → (came.Nothing ≡ outcome n s r ops p logs x) × Is n (record k { layers = slice_set k.layers at new }) (handled n p s r x) logs
obeys_quietly n k p logs at s r ops (Request l) new same b ok e is h = (refl, layer_put n k p logs at r new (layer_asked (p.layer r)) same b is h)
obeys_quietly n k p logs at s r ops (Count l j) new same b ok e is h =
    let m : Layer = layer_told (p.layer r) s j in
    let due : ready_due n m ≡ false = not_ready_yet (ready_due n m) e in
    let later : ready_due n (set_at p.layer r m r) ≡ false = ap (ready_due n) (set_at-same p.layer r m) ∙ due in
    (refl, rw later (layer_put n k p logs at r new m same b (rw due at is) h))
obeys_quietly n k p logs at s r ops (Ready l) new same b ok e is h = absurd ok
obeys_quietly n k p logs at s r ops (Stop l) new same b ok e is h =
    let off : (p.layer r).logging ≡ false = goes_on (p.layer r).logging e in
    let kept = layer_same n k p logs at r new same b is h in
    (rw off refl, rw off kept)
obeys_quietly n k p logs at s r ops (Stopped l) new same b ok e is h = absurd ok
obeys_quietly n k p logs at s r ops Restored new same b ok e is h = absurd ok

pub obeys_ready : (n : ℕ) (k : Net) (p : Protocol) (logs : ℕ → List Entry) (at s r ops line : ℕ) (x : Control) (new : Kept) (controls : List (List (List Control))) → at ≡ r → r < n → Obeys x → told_by n (p.layer r) s x ≡ answer.SendReady → line ≡ new.epoch
    → IsLayer n r new (after_control n (p.layer r) s x) (its_log p logs r) → controls ≡ with_more k.controls r 0 (Ready line) → Is n k p logs
    → (came.Nothing ≡ outcome n s r ops p logs x) × Is n (record k { layers = slice_set k.layers at new; controls = controls }) (handled n p s r x) logs
obeys_ready n k p logs at s r ops line (Request l) new controls same b ok e said is more h = absurd (nothing_is_ready e)
obeys_ready n k p logs at s r ops line (Count l j) new controls same b ok e said is more h =
    let m : Layer = layer_told (p.layer r) s j in
    let due : ready_due n m ≡ true = ready_now (ready_due n m) e in
    let later : ready_due n (set_at p.layer r m r) ≡ true = ap (ready_due n) (set_at-same p.layer r m) ∙ due in
    let now : IsLayer n r new (layer_ready m) (its_log p logs r) = rw due at is in
    let told = control_more n (record k { layers = slice_set k.layers at new }) (record p { layer = set_at (set_at p.layer r m) r (layer_ready m) }) logs r 0 (Ready m.epoch) controls b (omega arith)
    (more ∙ ap (λ z. with_more k.controls r 0 (Ready z)) (said ∙ now.epoch)) (layer_put_over n k p logs at r new m (layer_ready m) same b now h) in
    (refl, rw later (subst (λ (z : Layer). Is n (record k { layers = slice_set k.layers at new; controls = controls }) (record p { layer = set_at (set_at p.layer r m) r (layer_ready z); control = set_pair p.control r 0 (p.control r 0 ++ Ready z.epoch ∷ []) }) logs) (sym (set_at-same p.layer r m)) told))
obeys_ready n k p logs at s r ops line (Ready l) new controls same b ok e said is more h = absurd ok
obeys_ready n k p logs at s r ops line (Stop l) new controls same b ok e said is more h = absurd (is_not_ready (p.layer r).logging e)
obeys_ready n k p logs at s r ops line (Stopped l) new controls same b ok e said is more h = absurd ok
obeys_ready n k p logs at s r ops line Restored new controls same b ok e said is more h = absurd ok

-- the control is a Stop, and the rank logs
pub record StopObeyed (n s r ops : ℕ) (p : Protocol) (logs : ℕ → List Entry) (x : Control) : Type 0 where
  pub logging : (p.layer r).logging ≡ true
  pub layer : after_control n (p.layer r) s x ≡ p.layer r
  pub comes_to : came.Stopped (log_of n r (p.layer r).epoch ops (logs r)) ≡ outcome n s r ops p logs x
  pub after : move_stop p r ≡ handled n p s r x

pub obeys_stop : (n s r ops : ℕ) (p : Protocol) (logs : ℕ → List Entry) (x : Control) → Obeys x → told_by n (p.layer r) s x ≡ answer.StopNow → StopObeyed n s r ops p logs x
obeys_stop n s r ops p logs (Request l) ok e = absurd (nothing_stops e)
obeys_stop n s r ops p logs (Count l j) ok e = absurd (never_stops (ready_due n (layer_told (p.layer r) s j)) e)
obeys_stop n s r ops p logs (Ready l) ok e = absurd ok
obeys_stop n s r ops p logs (Stop l) ok e = let on : (p.layer r).logging ≡ true = stops_now (p.layer r).logging e in record { logging = on; layer = refl; comes_to = rw on refl; after = rw on refl }
obeys_stop n s r ops p logs (Stopped l) ok e = absurd ok
obeys_stop n s r ops p logs Restored ok e = absurd ok

-- What rank 0 notes.
pub wave_put : (n : ℕ) (k : Net) (p : Protocol) (logs : ℕ → List Entry) (led : Led) (w : Wave) (restored : ℕ → Bool) → IsLed n led w restored → Is n k p logs → Is n (record k { wave = led }) (record p { wave = w; restored = restored }) logs
wave_put n k p logs led w restored new h = record { layers = h.layers; channels = h.channels; controls = h.controls; wave = new }

abbrev pub noted : ℕ → Protocol → ℕ → Control → Protocol
noted n p s x = record p { wave = wave_after n p.wave s x; restored = restored_after p.restored s x }

pub record Quietly (n s r ops : ℕ) (p : Protocol) (logs : ℕ → List Entry) (x : Control) : Type 0 where
  pub line : p.wave.line ≡ (wave_after n p.wave s x).line
  pub after : noted n p s x ≡ handled n p s r x
  pub comes_to : came.Nothing ≡ outcome n s r ops p logs x

pub notes_quietly : (n s r ops : ℕ) (p : Protocol) (logs : ℕ → List Entry) (x : Control) → Notes x → next_of n p.wave s x ≡ next.Nothing → Quietly n s r ops p logs x
notes_quietly n s r ops p logs (Request l) ok e = absurd ok
notes_quietly n s r ops p logs (Count l j) ok e = absurd ok
notes_quietly n s r ops p logs (Ready l) ok e = let got = go (notes p.wave l (p.wave.ready s)) (all_below n (set_at p.wave.ready s true)) e in record { line = got.0; after = got.1; comes_to = refl }
  where
    q : Protocol
    q = record p { wave = wave_note_ready p.wave s }

    no : next.TellStop (suc p.wave.line) ≡ next.Nothing → ⊥
    no e = cc

    go : (a b : Bool) → (if a && b then next.TellStop (suc p.wave.line) else next.Nothing) ≡ next.Nothing
        → (p.wave.line ≡ (if a then (if b then wave_tell_stop q.wave else q.wave) else p.wave).line) × (◌≡◌ {A = Protocol} (record p { wave = if a then (if b then wave_tell_stop q.wave else q.wave) else p.wave }) (if a then (if b then move_tell_stop q else q) else p))
    go true true e = absurd (no e)
    go true false e = (refl, refl)
    go false b e = (refl, refl)
notes_quietly n s r ops p logs (Stop l) ok e = absurd ok
notes_quietly n s r ops p logs (Stopped l) ok e = let got = go (notes p.wave l (p.wave.stopped s)) (all_below n (set_at p.wave.stopped s true)) e in record { line = got.0; after = got.1; comes_to = got.2 }
  where
    q : Protocol
    q = record p { wave = wave_note_stopped p.wave s }

    no : next.Commit (suc p.wave.line) ≡ next.Nothing → ⊥
    no e = cc

    go : (a b : Bool) → (if a && b then next.Commit (suc p.wave.line) else next.Nothing) ≡ next.Nothing
        → (p.wave.line ≡ (if a then (if b then wave_over q.wave else q.wave) else p.wave).line) × (◌≡◌ {A = Protocol} (record p { wave = if a then (if b then wave_over q.wave else q.wave) else p.wave }) (if a then (if b then move_commit q else q) else p)) × (came.Nothing ≡ (if a && b then came.Committed (suc p.wave.line) else came.Nothing))
    go true true e = absurd (no e)
    go true false e = (refl, refl, refl)
    go false b e = (refl, refl, refl)
notes_quietly n s r ops p logs Restored ok e = record { line = refl; after = refl; comes_to = refl }

-- all are ready then, and Stop is told
pub record StopTold (n s r ops line : ℕ) (p : Protocol) (logs : ℕ → List Entry) (x : Control) : Type 0 where
  pub same : p.wave.line ≡ (wave_after n p.wave s x).line
  pub said : line ≡ suc p.wave.line
  pub after : told_each (noted n p s x) 0 (λ y. Stop (suc p.wave.line)) ≡ handled n p s r x
  pub comes_to : came.Nothing ≡ outcome n s r ops p logs x

same_stop : (k l : ℕ) → next.TellStop k ≡ next.TellStop l → l ≡ k
same_stop k l e = cc

same_commit : (k l : ℕ) → next.Commit k ≡ next.Commit l → l ≡ k
same_commit k l e = cc

stop_not_told : (l : ℕ) → next.Nothing ≡ next.TellStop l → ⊥
stop_not_told l e = cc

no_commit : (l : ℕ) → next.Nothing ≡ next.Commit l → ⊥
no_commit l e = cc

pub notes_last_ready : (n s r ops line : ℕ) (p : Protocol) (logs : ℕ → List Entry) (x : Control) → Notes x → next_of n p.wave s x ≡ next.TellStop line → StopTold n s r ops line p logs x
notes_last_ready n s r ops line p logs (Request l) ok e = absurd ok
notes_last_ready n s r ops line p logs (Count l j) ok e = absurd ok
notes_last_ready n s r ops line p logs (Ready l) ok e = let got = go (notes p.wave l (p.wave.ready s)) (all_below n (set_at p.wave.ready s true)) e in record { same = got.0; said = got.1; after = got.2; comes_to = refl }
  where
    q : Protocol
    q = record p { wave = wave_note_ready p.wave s }

    go : (a b : Bool) → (if a && b then next.TellStop (suc p.wave.line) else next.Nothing) ≡ next.TellStop line
        → (p.wave.line ≡ (if a then (if b then wave_tell_stop q.wave else q.wave) else p.wave).line) × (line ≡ suc p.wave.line)
        × (told_each (record p { wave = if a then (if b then wave_tell_stop q.wave else q.wave) else p.wave }) 0 (λ y. Stop (suc p.wave.line)) ≡ (if a then (if b then move_tell_stop q else q) else p))
    go true true e = (refl, same_stop (suc p.wave.line) line e, refl)
    go true false e = absurd (stop_not_told line e)
    go false b e = absurd (stop_not_told line e)
notes_last_ready n s r ops line p logs (Stop l) ok e = absurd ok
notes_last_ready n s r ops line p logs (Stopped l) ok e = absurd (go (notes p.wave l (p.wave.stopped s) && all_below n (set_at p.wave.stopped s true)) e)
  where
    go : (a : Bool) → (if a then next.Commit (suc p.wave.line) else next.Nothing) ≡ next.TellStop line → ⊥
    go true e = cc
    go false e = cc
notes_last_ready n s r ops line p logs Restored ok e = absurd (stop_not_told line e)

-- all have stopped then, and the line is committed
pub record LineCommitted (n s r ops line : ℕ) (p : Protocol) (logs : ℕ → List Entry) (x : Control) : Type 0 where
  pub line_is : line ≡ (wave_after n p.wave s x).line
  pub after : noted n p s x ≡ handled n p s r x
  pub comes_to : came.Committed line ≡ outcome n s r ops p logs x

pub notes_last_stopped : (n s r ops line : ℕ) (p : Protocol) (logs : ℕ → List Entry) (x : Control) → Notes x → next_of n p.wave s x ≡ next.Commit line → LineCommitted n s r ops line p logs x
notes_last_stopped n s r ops line p logs (Request l) ok e = absurd ok
notes_last_stopped n s r ops line p logs (Count l j) ok e = absurd ok
notes_last_stopped n s r ops line p logs (Ready l) ok e = absurd (go (notes p.wave l (p.wave.ready s) && all_below n (set_at p.wave.ready s true)) e)
  where
    go : (a : Bool) → (if a then next.TellStop (suc p.wave.line) else next.Nothing) ≡ next.Commit line → ⊥
    go true e = cc
    go false e = cc
notes_last_stopped n s r ops line p logs (Stop l) ok e = absurd ok
notes_last_stopped n s r ops line p logs (Stopped l) ok e = let got = go (notes p.wave l (p.wave.stopped s)) (all_below n (set_at p.wave.stopped s true)) e in record { line_is = got.0; after = got.1; comes_to = got.2 }
  where
    q : Protocol
    q = record p { wave = wave_note_stopped p.wave s }

    go : (a b : Bool) → (if a && b then next.Commit (suc p.wave.line) else next.Nothing) ≡ next.Commit line
        → (line ≡ (if a then (if b then wave_over q.wave else q.wave) else p.wave).line)
        × (◌≡◌ {A = Protocol} (record p { wave = if a then (if b then wave_over q.wave else q.wave) else p.wave }) (if a then (if b then move_commit q else q) else p))
        × (came.Committed line ≡ (if a && b then came.Committed (suc p.wave.line) else came.Nothing))
    go true true e = let same = same_commit (suc p.wave.line) line e in (same, refl, ap came.Committed same)
    go true false e = absurd (no_commit line e)
    go false b e = absurd (no_commit line e)
notes_last_stopped n s r ops line p logs Restored ok e = absurd (no_commit line e)

-- The beginning of a wave.
pub record MayStart (n : ℕ) (p : Protocol) : Type 0 where
  pub may : may_start n p ≡ true
  pub room : p.wave.line < 65535

started : (r u l : Bool) (a b c : NotNow) → (if not r then begins.NotNow a else if u then begins.NotNow b else if l then begins.Started else begins.NotNow c) ≡ begins.Started → ((not u && (l && r)) ≡ true) × (l ≡ true)
started true false true a b c e = (refl, refl)
started true false false a b c e = cc
started true true l a b c e = cc
started false u l a b c e = cc

waits : (r u l : Bool) (a b c why : NotNow) → (if not r then begins.NotNow a else if u then begins.NotNow b else if l then begins.Started else begins.NotNow c) ≡ begins.NotNow why → (not u && (l && r)) ≡ false
waits true false true a b c why e = cc
waits true false false a b c why e = refl
waits true true l a b c why e = refl
waits false false true a b c why e = refl
waits false false false a b c why e = refl
waits false true l a b c why e = refl

below_last : (line : ℕ) → nat_lt line last_line ≡ true → line < 65535
unfolding last_line
below_last line e = ⊎_elim (λ d. d) (λ d. absurd (false≢true (sym (le-ltb line 65535 d) ∙ e))) (cases_lt line 65535)

pub may_from : (n : ℕ) (p : Protocol) → start_of n p.wave p.restored ≡ begins.Started → MayStart n p
may_from n p e = let got = started (all_below n p.restored) p.wave.under_way (nat_lt p.wave.line last_line) (Rank (lowest_failing n p.restored)) (UnderWay (suc p.wave.line)) LastLine e in record { may = got.0; room = below_last p.wave.line got.1 }

pub may_not_from : (n : ℕ) (p : Protocol) (why : NotNow) → start_of n p.wave p.restored ≡ begins.NotNow why → may_start n p ≡ false
may_not_from n p why e = waits (all_below n p.restored) p.wave.under_way (nat_lt p.wave.line last_line) (Rank (lowest_failing n p.restored)) (UnderWay (suc p.wave.line)) LastLine why e
