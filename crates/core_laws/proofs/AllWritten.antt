-- The files have all that the core says it has written.
use Rattle.std.proofs.Common.{◌≡◌, ℕ, suc, ◌<◌, true, [], ◌++◌, length, take, sym, refl, ap, ◌∙◌, arith}
use Rattle.std.specs.Prelude.{◌==◌}
use Rattle.std.proofs.lemmas.Bool.{cond-true, cond-false, and_parts, eqb-true, eq-eqb, ne_eqb, false≢true}
use Rattle.std.proofs.lemmas.List.{append-nil}
use Rattle.std.proofs.Math.Seq.{take-append_seam}
use Rattle.core_laws.specs.Process.{Ranks, Process, ranks}
use Rattle.core_laws.specs.Core.{Core}
use Rattle.core_laws.specs.CoreEvents.{Core_event, next_of, start_of, restart_from, restart_of}
use Rattle.core_laws.specs.Kept.{IsKept}
use Rattle.core_laws.specs.Pausing.{Stepping, stepping}
use Rattle.core_laws.specs.PausingKept.{IsKeptWithin}
use Rattle.core_laws.specs.Effects.{effects_of}
use Rattle.core_laws.specs.Files.{Files, with_effects, cut_back, StartsWith, Filed}
use Rattle.core_laws.proofs.LinesWritten.{next_lines, next_lines_paused, restart_lines}
use Rattle.core_laws.proofs.OutputsWritten.{next_outputs, restart_outputs, absorb_output, ranks_append, stepping_append}

pub next_filed : {S : Type 0} (P : Process S) (n : ℕ) (f : Files S) (c : Core S) (e : Core_event) → IsKept P n c → Filed n f c → Filed n (with_effects f (effects_of (ranks P) n c e)) (next_of (ranks P) n c e)
next_filed P n f c e k h = record { lines = next_lines P n f c e k h.lines; outputs = next_outputs (ranks P) n f c e (ranks_append P) h.outputs }

pub next_filed_pausing : {S : Type 0} (P : Stepping S) (n b most : ℕ) (f : Files S) (c : Core S) (e : Core_event) → IsKeptWithin P n b most c → Filed n f c → Filed n (with_effects f (effects_of (stepping P) n c e)) (next_of (stepping P) n c e)
next_filed_pausing P n b most f c e k h = record { lines = next_lines_paused P n b most f c e k h.lines; outputs = next_outputs (stepping P) n f c e (stepping_append P) h.outputs }

pub restart_filed : {S : Type 0} (P : Ranks S) (n : ℕ) (f : Files S) (c : Core S) → Filed n f c → Filed n (cut_back f) (restart_of P c)
restart_filed P n f c h = record { lines = restart_lines P n f c h.lines; outputs = restart_outputs P n f c h.lines h.outputs }

-- at the beginning, and from what the files have of a line
pub start_filed : {S : Type 0} (P : Ranks S) (n : ℕ) (f : Files S) → f.line ≡ 0 → Filed n (cut_back f) (start_of P)
start_filed {S} P n f none = record {
  lines = record {
    images = λ x b g. absurd (false≢true g);
    logs = λ x b g. absurd (false≢true g);
    line = none;
    committed_images = λ g. absurd (omega arith);
    committed_logs = λ g. absurd (omega arith);
  };
  outputs = record { outputs = λ r b. is r; committed = λ r b. record { rest = []; is = is r }; written = λ r b. record { rest = []; is = is r } };
}
  where
    is : (r : ℕ) → (cut_back f).output r ≡ []
    is r = cond-true (f.line == 0) [] (take (length (f.committed r).image.output) (f.output r)) (eq-eqb f.line 0 none)

pub disk_filed : {S : Type 0} (n : ℕ) (f : Files S) (c : Core S) → 0 < f.line → Filed n f c → Filed n (cut_back f) (restart_from f.line f.committed)
disk_filed {S} n f c some h = record {
  lines = record {
    images = λ x b g. absurd (omega (arith, eqb-true f.line (suc f.line) g));
    logs = λ x b g. absurd (omega (arith, eqb-true f.line (suc f.line) (and_parts (f.line == suc f.line) true g).0));
    line = refl;
    committed_images = λ e x b. record { image = refl; early = λ s. refl };
    committed_logs = λ e x b. record { log = refl; ops = refl };
  };
  outputs = record { outputs = λ r b. is r b ∙ sym (absorb_output (f.committed r).ops (f.committed r).image (f.committed r).log); committed = begins; written = begins };
}
  where
    is : (r : ℕ) → r < n → (cut_back f).output r ≡ (f.committed r).image.output
    is r b = let w = h.outputs.committed r b in
        cond-false (f.line == 0) [] (take (length (f.committed r).image.output) (f.output r)) (ne_eqb f.line 0 (λ e. omega (arith, e, some)))
        ∙ ap (take (length (f.committed r).image.output)) (w.is ∙ ap (λ k. k.output ++ w.rest) (sym (h.lines.committed_images (omega (arith, some, h.lines.line)) r b).image))
        ∙ take-append_seam (f.committed r).image.output w.rest

    begins : (r : ℕ) → r < n → StartsWith ((cut_back f).output r) (f.committed r).image.output
    begins r b = record { rest = []; is = is r b ∙ sym (append-nil (f.committed r).image.output) }
