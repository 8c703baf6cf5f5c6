-- What is kept, of ranks that pause too, tells enough for the four sweeps.
use Rattle.std.proofs.Common.{◌≡◌, ℕ, suc, ◌+◌, ◌<◌, not, List, [], ◌∷◌, length, sym, ap, ◌∙◌, subst, arith}
use Rattle.core_laws.specs.Process.{Process, ranks}
use Rattle.core_laws.specs.Core.{Core, is_back, restores}
use Rattle.core_laws.specs.CoreEvents.{Single, Session_event, session_of, session_next_of, start_of}
use Rattle.core_laws.specs.Invariant.{Invariant, bit}
use Rattle.core_laws.specs.Kept.{IsKept, Tells}
use Rattle.core_laws.specs.Pausing.{Stepping, stepping}
use Rattle.core_laws.specs.PausingKept.{IsCore, IsKeptWithin, IsKeptPausing}
use Rattle.core_laws.specs.Sweeps.{Keeps}
use Rattle.core_laws.specs.Prompt.{Prompt}
use Rattle.core_laws.proofs.CoreKept.{step_kept, session_kept, start_kept}
use Rattle.core_laws.proofs.PausingCore.{next_pausing, session_pausing, start_pausing}
use Rattle.core_laws.proofs.PromptKept.{prompt_start, prompt_session}

pub keeps_kept : {S : Type 0} (P : Process S) (n : ℕ) → Keeps (ranks P) n (IsKept P n)
keeps_kept P n = record { invariant = λ c h. h.protocol; tells = λ c h. h.tells; step = λ c e h. step_kept P n c e h }

invariant_pausing : {S : Type 0} (P : Stepping S) (n b most : ℕ) (c : Core S) → IsKeptWithin P n b most c → Invariant n c.protocol
invariant_pausing P n b most c h = subst (Invariant n) (sym h.is.protocol) h.kept.protocol

same_back : {S : Type 0} (P : Stepping S) (n most : ℕ) (a c : Core S) → IsCore P n most a c → (r : ℕ) → is_back (a.one r) ≡ is_back (c.one r)
same_back P n most a c h r = ap (λ l. not (restores l (a.one r).left)) (sym (h.log r)) ∙ ap (λ k. not (restores (c.one r).log k)) (sym (h.left r))

tells_pausing : {S : Type 0} (P : Stepping S) (n b most : ℕ) (c : Core S) → IsKeptWithin P n b most c → Tells n c.one c.protocol
tells_pausing {S} P n b most c h = subst (Tells n c.one) (sym h.is.protocol) (record {
  told = λ r a. h.kept.tells.told r a ∙ ap bit (same_back P n most h.core c h.is r);
  wave = h.kept.tells.wave;
})

pub keeps_on : {S : Type 0} (P : Stepping S) (n : ℕ) → Keeps (stepping P) n (IsKeptPausing P n)
keeps_on {S} P n = record {
  invariant = λ c h. let now = h 0 in invariant_pausing P n now.0 now.1 c now.3;
  tells = λ c h. let now = h 0 in tells_pausing P n now.0 now.1 c now.3;
  step = λ c e h more. let now = h (suc more) in (now.0, suc now.1, omega (arith, now.2), next_pausing P n now.0 now.1 c (Single e) (omega (arith, now.2)) now.3);
}

pub on_session : {S : Type 0} (P : Stepping S) (n : ℕ) (es : List Session_event) → IsKeptPausing P n (session_of (stepping P) n (start_of (stepping P)) es)
on_session P n es more = (
  length es + more,
  length es,
  omega arith,
  subst (λ k. IsKeptWithin P n (length es + more) k (session_of (stepping P) n (start_of (stepping P)) es)) (omega arith) (session_pausing P n (length es + more) 0 es (start_of (stepping P)) (omega arith) (start_pausing P n (length es + more) 0)),
)

pub each_on : {S : Type 0} (P : Stepping S) (n : ℕ) (c : Core S) (e : Session_event) → IsKeptPausing P n c → IsKeptPausing P n (session_next_of (stepping P) n c e)
each_on P n c e h more = let now = h (suc more) in (now.0, now.1 + length (e ∷ []), omega (arith, now.2), session_pausing P n now.0 now.1 (e ∷ []) c (omega (arith, now.2)) now.3)

pub prompt_on : {S : Type 0} (P : Stepping S) (n : ℕ) (es : List Session_event) → 0 < n → Prompt n (session_of (stepping P) n (start_of (stepping P)) es).protocol
prompt_on P n es some = prompt_session (stepping P) n (IsKeptPausing P n) (keeps_on P n) (each_on P n) es (start_of (stepping P)) some (on_session P n []) (prompt_start (stepping P) n some)

pub prompt_kept : {S : Type 0} (P : Process S) (n : ℕ) (es : List Session_event) → 0 < n → Prompt n (session_of (ranks P) n (start_of (ranks P)) es).protocol
prompt_kept P n es some = prompt_session (ranks P) n (IsKept P n) (keeps_kept P n) (λ c e h. session_kept P n (e ∷ []) c h) es (start_of (ranks P)) some (start_kept P n) (prompt_start (ranks P) n some)
