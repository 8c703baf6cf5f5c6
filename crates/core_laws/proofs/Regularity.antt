-- A core that is kept is regular.
use Rattle.std.proofs.Common.{◌≡◌, ℕ, suc, ◌<◌, true, false, sym, ap, ◌∙◌, subst, arith}
use Rattle.std.proofs.lemmas.Bool.{eq-eqb, ne_eqb}
use Rattle.core_laws.specs.Protocol.{Protocol}
use Rattle.core_laws.specs.Process.{Process}
use Rattle.core_laws.specs.Handling.{after_save}
use Rattle.core_laws.specs.Invariant.{DownKept, bit}
use Rattle.core_laws.specs.Replay.{entries}
use Rattle.core_laws.specs.Core.{Core}
use Rattle.core_laws.specs.Kept.{IsKept}
use Rattle.core_laws.specs.Pausing.{Stepping, without_pauses}
use Rattle.core_laws.specs.PausingKept.{IsKeptWithin, IsKeptPausing}
use Rattle.core_laws.specs.CoreTies.{Regular}
use Rattle.core_laws.proofs.RankMoves
use Rattle.core_laws.proofs.EventsKept.{logs_saved}

pub regular_kept : {S : Type 0} (P : Process S) (n : ℕ) (c : Core S) → IsKept P n c → Regular n c
regular_kept P n c h = record {
  logs = λ r b e. let saved = eq-eqb (p.layer r).epoch (suc p.wave.line) (logs_saved n p r b e h.protocol.kept) in (RankMoves.in_wave p.wave (p.layer r) saved (h.protocol.kept.rank r b), saved);
  asked = λ r b e. (way r b e, ne_eqb (p.layer r).epoch (suc p.wave.line) (λ d. omega (arith, d, at r b e)));
  empty = λ r b e. let line = h.wave (way r b e) in let none = line.line.unsaved r b (at r b e) in (sym (line.written r).log ∙ ap entries none.since, sym (line.written r).ops ∙ none.ops);
}
  where
    p : Protocol
    p = c.protocol

    way : (r : ℕ) → r < n → (p.layer r).asked ≡ true → p.wave.under_way ≡ true
    way r b e = RankMoves.way_on p.wave.line p.wave.under_way p.wave.stop_told (p.layer r).epoch (p.control 0 r) (subst (λ a. DownKept p.wave.line p.wave.under_way p.wave.stop_told (p.layer r).epoch a (p.control 0 r)) e (h.protocol.kept.down r b))

    at : (r : ℕ) → r < n → (p.layer r).asked ≡ true → (p.layer r).epoch ≡ p.wave.line
    at r b e = omega (arith, (h.protocol.kept.down r b).request, ap bit e, RankMoves.bit_most p.wave.under_way, (h.protocol.kept.rank r b).least)

pub regular_within : {S : Type 0} (P : Stepping S) (n b most : ℕ) (c : Core S) → IsKeptWithin P n b most c → Regular n c
regular_within P n b most c h = record {
  logs = λ r i e. subst (λ p. (p.wave.under_way ≡ true) × (after_save p r ≡ true)) (sym h.is.protocol) (its.logs r i (subst (λ p. (p.layer r).logging ≡ true) h.is.protocol e));
  asked = λ r i e. subst (λ p. (p.wave.under_way ≡ true) × (after_save p r ≡ false)) (sym h.is.protocol) (its.asked r i (subst (λ p. (p.layer r).asked ≡ true) h.is.protocol e));
  empty = λ r i e. let none = its.empty r i (subst (λ p. (p.layer r).asked ≡ true) h.is.protocol e) in ((h.is.written r).log ∙ none.0, (h.is.written r).ops ∙ none.1);
}
  where
    its : Regular n h.core
    its = regular_kept (without_pauses b P) n h.core h.kept

pub regular_pausing : {S : Type 0} (P : Stepping S) (n : ℕ) (c : Core S) → IsKeptPausing P n c → Regular n c
regular_pausing P n c h = let now = h 0 in regular_within P n now.0 now.1 c now.3
