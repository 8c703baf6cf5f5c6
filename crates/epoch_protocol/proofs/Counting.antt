-- Lists over the ranks go along with the layer that they stand for.
use Rattle.std.proofs.Common.{map, ◌≡◌, ℕ, suc, pred, ◌+◌, ◌<◌, ◌≤◌, Bool, true, false, ltb, List, [], get_or, slice_set, replicate, Option, Some, None, sym, refl, ap, ◌∙◌, subst, arith}
use Rattle.std.proofs.lemmas.Bool.{cond_both, cond-true, cond-false, ltb-false}
use Rattle.std.proofs.lemmas.List.{get_or_default}
use Rattle.late_logs.specs.declared.entry.Entry.{Entry}
use Rattle.mpi_words.specs.declared.control.Control.{Control}
use Rattle.mpi_words.specs.declared.control.Control.TheVariants.{Count}
use Rattle.mpi_words.specs.declared.label.Label.{Label}
use Rattle.mpi_words.specs.declared.message.Message.{Message}
use Rattle.core_laws.specs.Rows.{set_at}
use Rattle.core_laws.specs.Protocol.{Layer, layer_send, layer_skip, layer_save, layer_ready, layer_stop, layer_asked, layer_told, layer_arrive, layer_label}
use Rattle.core_laws.specs.Protocol as protocol
use Rattle.core_laws.specs.Handling.{all_below, is_told, ready_due}
use Rattle.core_laws.specs.Ties.{Are}
use Rattle.core_laws.proofs.Tied.{are_set, are_changed, are_kept, are_all, are_map}
use Rattle.epoch_protocol.specs.declared.answers.SendAs.TheVariants.{Out, Suppressed}
use Rattle.epoch_protocol.specs.declared.answers.Class.{Class}
use Rattle.epoch_protocol.specs.Layers.{Kept, IsLayer, send_as, after_send, met_as, log_after, after_ready, log_of}

-- one more of a count
pub one_more : (n : ℕ) (items : List ℕ) (f : ℕ → ℕ) (k at now : ℕ) → k < n → at ≡ k → now ≡ get_or items at now → Are n items f → Are n (slice_set items at (now + 1)) (set_at f k (suc (f k)))
one_more n items f k at now inside place is h = subst (λ x. Are n (slice_set items x (now + 1)) (set_at f k (suc (f k)))) (sym place)
    (are_changed n items f k now (now + 1) suc inside (is ∙ ap (λ x. get_or items x now) place) (omega arith) h)

-- one less, down to none
one_less : (n : ℕ) (items : List ℕ) (f : ℕ → ℕ) (k : ℕ) → k < n → Are n items f → Are n (slice_set items k (pred (get_or items k 0))) (set_at f k (pred (f k)))
one_less n items f k inside h = are_changed n items f k (get_or items k 0) (pred (get_or items k 0)) pred inside (get_or_default items k 0 (get_or items k 0) (omega (arith, h.size))) refl h

pub sent : (n r : ℕ) (k : Kept) (l : Layer) (log : List Entry) (to at now : ℕ) (skip : List ℕ) → to < n → at ≡ to → now ≡ get_or k.sent at now → skip ≡ slice_set k.skip to (pred (get_or k.skip to 0)) → IsLayer n r k l log
    → IsLayer n r (record k { sent = slice_set k.sent at (now + 1); skip = skip }) (after_send l to) log
sent n r k l log to at now skip inside place is left h = cond_both (ltb 0 (l.skip to)) (layer_skip l to) (layer_send l to) (λ m. IsLayer n r (record k { sent = slice_set k.sent at (now + 1); skip = skip }) m log)
    (λ e. record { ranks = h.ranks; rank = h.rank; epoch = h.epoch; logging = h.logging; asked = h.asked; was_ready = h.was_ready; sent = more; got = h.got; before = h.before; early = h.early; told = h.told; skip = fewer; log = h.log })
    (λ e. record { ranks = h.ranks; rank = h.rank; epoch = h.epoch; logging = h.logging; asked = h.asked; was_ready = h.was_ready; sent = more; got = h.got; before = h.before; early = h.early; told = h.told; skip = same (ltb-false 0 (l.skip to) e); log = h.log })
  where
    more : Are n (slice_set k.sent at (now + 1)) (set_at l.sent to (suc (l.sent to)))
    more = one_more n k.sent l.sent to at now inside place is h.sent

    fewer : Are n skip (set_at l.skip to (pred (l.skip to)))
    fewer = subst (λ s. Are n s (set_at l.skip to (pred (l.skip to)))) (sym left) (one_less n k.skip l.skip to inside h.skip)

    none : (x : ℕ) → x ≤ 0 → pred x ≡ x
    none x z = let e : x ≡ 0 = omega arith in rw e refl

    same : l.skip to ≤ 0 → Are n skip l.skip
    same z = subst (λ s. Are n s l.skip) (sym left) (are_kept n k.skip l.skip to (pred (get_or k.skip to 0)) inside (ap pred (h.skip.each to 0 inside) ∙ none (l.skip to) z) h.skip)

-- what a send answers
pub left_out : (n r : ℕ) (k : Kept) (l : Layer) (log : List Entry) (to : ℕ) → to < n → IsLayer n r k l log → ltb 0 (get_or k.skip to 0) ≡ true → Suppressed ≡ send_as l to
left_out n r k l log to inside h e = rw (ap (ltb 0) (sym (h.skip.each to 0 inside)) ∙ e) refl

pub goes_out : (n r : ℕ) (k : Kept) (l : Layer) (log : List Entry) (to : ℕ) → to < n → IsLayer n r k l log → ltb 0 (get_or k.skip to 0) ≡ false → Out (record { epoch = k.epoch; logging = k.logging }) ≡ send_as l to
goes_out n r k l log to inside h e = rw (ap (ltb 0) (sym (h.skip.each to 0 inside)) ∙ e, h.epoch, h.logging) refl

pub came_late : (n r : ℕ) (k : Kept) (l : Layer) (log : List Entry) (s at now : ℕ) → s < n → at ≡ s → now ≡ get_or k.before at now → IsLayer n r k l log → IsLayer n r (record k { before = slice_set k.before at (now + 1) }) (layer_arrive l s protocol.Late) log
came_late n r k l log s at now inside place is h = record { ranks = h.ranks; rank = h.rank; epoch = h.epoch; logging = h.logging; asked = h.asked; was_ready = h.was_ready; sent = h.sent; got = h.got; before = one_more n k.before l.old s at now inside place is h.before; early = h.early; told = h.told; skip = h.skip; log = h.log }

pub came_intra : (n r : ℕ) (k : Kept) (l : Layer) (log : List Entry) (s at now : ℕ) → s < n → at ≡ s → now ≡ get_or k.got at now → IsLayer n r k l log → IsLayer n r (record k { got = slice_set k.got at (now + 1) }) (layer_arrive l s protocol.Intra) log
came_intra n r k l log s at now inside place is h = record { ranks = h.ranks; rank = h.rank; epoch = h.epoch; logging = h.logging; asked = h.asked; was_ready = h.was_ready; sent = h.sent; got = one_more n k.got l.got s at now inside place is h.got; before = h.before; early = h.early; told = h.told; skip = h.skip; log = h.log }

pub came_early : (n r : ℕ) (k : Kept) (l : Layer) (log : List Entry) (s at now : ℕ) → s < n → at ≡ s → now ≡ get_or k.early at now → IsLayer n r k l log → IsLayer n r (record k { early = slice_set k.early at (now + 1) }) (layer_arrive l s protocol.Early) log
came_early n r k l log s at now inside place is h = record { ranks = h.ranks; rank = h.rank; epoch = h.epoch; logging = h.logging; asked = h.asked; was_ready = h.was_ready; sent = h.sent; got = h.got; before = h.before; early = one_more n k.early l.early s at now inside place is h.early; told = h.told; skip = h.skip; log = h.log }

pub saved : (n r : ℕ) (k : Kept) (l : Layer) (log new : List Entry) (line : ℕ) (sent got before early : List ℕ) → line ≡ suc k.epoch → sent ≡ replicate n 0 → got ≡ k.early → before ≡ k.got → early ≡ replicate n 0 → new ≡ [] → IsLayer n r k l log
    → IsLayer n r (record k { epoch = line; logging = true; asked = false; was_ready = false; sent = sent; got = got; before = before; early = early; log = new }) (layer_save l) []
saved n r k l log new line sent got before early next s g b e none h = record {
  ranks = h.ranks;
  rank = h.rank;
  epoch = next ∙ ap suc h.epoch;
  logging = refl;
  asked = refl;
  was_ready = refl;
  sent = subst (λ x. Are n x (λ y. 0)) (sym s) (are_all n 0);
  got = subst (λ x. Are n x l.early) (sym g) h.early;
  before = subst (λ x. Are n x l.got) (sym b) h.got;
  early = subst (λ x. Are n x (λ y. 0)) (sym e) (are_all n 0);
  told = h.told;
  skip = h.skip;
  log = none;
}

-- what each rank is told
pub told_each : (n r : ℕ) (k : Kept) (l : Layer) (log : List Entry) (line : ℕ) (counts : List Control) → counts ≡ map (λ x. Count line x) k.sent → line ≡ suc k.epoch → IsLayer n r k l log → Are n counts (λ x. Count (suc l.epoch) (l.sent x))
told_each n r k l log line counts e next h = subst (λ c. Are n c (λ x. Count (suc l.epoch) (l.sent x))) (sym e) (subst (λ y. Are n (map (λ x. Count line x) k.sent) (λ x. Count y (l.sent x))) (next ∙ ap suc h.epoch) (are_map n k.sent l.sent (λ x. Count line x) h.sent))

pub told_more : (n r : ℕ) (k : Kept) (l : Layer) (log : List Entry) (s at count : ℕ) → s < n → at ≡ s → IsLayer n r k l log → IsLayer n r (record k { told = slice_set k.told at (Some count) }) (layer_told l s count) log
told_more n r k l log s at count inside place h = record { ranks = h.ranks; rank = h.rank; epoch = h.epoch; logging = h.logging; asked = h.asked; was_ready = h.was_ready; sent = h.sent; got = h.got; before = h.before; early = h.early; told = subst (λ x. Are n (slice_set k.told x (Some count)) (set_at l.told s (Some count))) (sym place) (are_set n k.told l.told s (Some count) inside h.told); skip = h.skip; log = h.log }

pub readied : (n r : ℕ) (k : Kept) (l : Layer) (log : List Entry) (told : List (Option ℕ)) → told ≡ replicate n None → IsLayer n r k l log → IsLayer n r (record k { was_ready = true; told = told }) (layer_ready l) log
readied n r k l log told e h = record { ranks = h.ranks; rank = h.rank; epoch = h.epoch; logging = h.logging; asked = h.asked; was_ready = refl; sent = h.sent; got = h.got; before = h.before; early = h.early; told = subst (λ x. Are n x (λ y. None)) (sym e) (are_all n None); skip = h.skip; log = h.log }

-- what is told of None alone
pub none_alone : (P : Option ℕ → Type 0) → ((x : ℕ) → P (Some x) → ⊥) → (y : Option ℕ) → P y → y ≡ None
none_alone P never None q = refl
none_alone P never (Some x) q = absurd (never x q)

-- Ready is due, or isn't.
pub is_due : (n : ℕ) (l : Layer) (b : Bool) → l.logging ≡ true → l.was_ready ≡ false → b ≡ all_below n (λ x. is_told (l.told x) (l.old x)) → b ≡ ready_due n l
is_due n l b e f g = rw (e, f) g

pub not_due : (n r : ℕ) (k : Kept) (l : Layer) (log : List Entry) → ready_due n l ≡ false → IsLayer n r k l log → (false ≡ ready_due n l) × IsLayer n r k (after_ready n l) log
not_due n r k l log e h = (sym e, subst (λ m. IsLayer n r k m log) (sym (cond-false (ready_due n l) (layer_ready l) l e)) h)

pub due : (n r : ℕ) (k : Kept) (l : Layer) (log : List Entry) (told : List (Option ℕ)) → ready_due n l ≡ true → told ≡ replicate n None → IsLayer n r k l log → (true ≡ ready_due n l) × IsLayer n r (record k { was_ready = true; told = told }) (after_ready n l) log
due n r k l log told e all h = (sym e, subst (λ m. IsLayer n r (record k { was_ready = true; told = told }) m log) (sym (cond-true (ready_due n l) (layer_ready l) l e)) (readied n r k l log told all h))

-- a stop, and what it writes
pub stopped : (n r : ℕ) (k : Kept) (l : Layer) (log new : List Entry) → new ≡ [] → IsLayer n r k l log → IsLayer n r (record k { logging = false; log = new }) (layer_stop l) []
stopped n r k l log new e h = record { ranks = h.ranks; rank = h.rank; epoch = h.epoch; logging = refl; asked = h.asked; was_ready = h.was_ready; sent = h.sent; got = h.got; before = h.before; early = h.early; told = h.told; skip = h.skip; log = e }

pub written : (n r : ℕ) (k : Kept) (l : Layer) (log entries : List Entry) (ops : ℕ) → entries ≡ k.log → IsLayer n r k l log → log_of k.ranks k.rank k.epoch ops entries ≡ log_of n r l.epoch ops log
written n r k l log entries ops e h = rw (e, h.log, h.ranks, h.rank, h.epoch) refl

-- the log after an arrival
pub logged : (n r : ℕ) (k : Kept) (l : Layer) (log new : List Entry) (met : Class) (x : Label) (s : ℕ) (m : Message) → met ≡ met_as l x → new ≡ log_after k.logging met k.log s m → IsLayer n r k l log
    → IsLayer n r (record k { log = new }) l (log_after l.logging (met_as l x) log s m)
logged n r k l log new met x s m e g h = record { ranks = h.ranks; rank = h.rank; epoch = h.epoch; logging = h.logging; asked = h.asked; was_ready = h.was_ready; sent = h.sent; got = h.got; before = h.before; early = h.early; told = h.told; skip = h.skip; log = g ∙ ap (λ b. log_after b met k.log s m) h.logging ∙ ap (λ c. log_after l.logging c k.log s m) e ∙ ap (λ t. log_after l.logging (met_as l x) t s m) h.log }
