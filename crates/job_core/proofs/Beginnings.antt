-- What a core in code is at its beginning.
use Rattle.std.proofs.Common.{◌≡◌, ℕ, ◌+◌, ◌<◌, Bool, true, false, List, [], ◌∷◌, ◌++◌, Option, get_or, map, replicate, sym, refl, ◌∙◌, subst, ⊎_elim, arith}
use Rattle.std.specs.Prelude.{if◌then◌else◌, ◌==◌}
use Rattle.std.proofs.lemmas.Bool.{cases_lt, false≢true}
use Rattle.std.proofs.lemmas.List.{length-append, length-map, get_or_append_left, get_or_push, get_or-map}
use Rattle.mpi_words.specs.declared.operation.End.{End}
use Rattle.mpi_words.specs.declared.operation.Reply.{Reply}
use Rattle.mpi_words.specs.declared.control.Control.{Control}
use Rattle.core_laws.specs.Ties.{AreBy, Are}
use Rattle.core_laws.specs.Process.{Ranks, Want}
use Rattle.core_laws.specs.Pausing.{Asks, Stepped, Stepping, stepping}
use Rattle.core_laws.specs.CoreEvents.{start_of}
use Rattle.core_laws.specs.CoreTies.{IsRunning, Pairs}
use Rattle.core_laws.proofs.CoreTied.{are_by_map}
use Rattle.core_laws.proofs.KeptForSweeps.{keeps_on, on_session}
use Rattle.core_laws.proofs.Tied.{are_all}
use Rattle.job_network.specs.Members.{IsMember, running_of, stepping_of}
use Rattle.job_network.specs.Networks.{IsNet}
use Rattle.job_network.specs.Sound.{Sound}
use Rattle.job_core.specs.declared.job.Core.{Core}
use Rattle.job_core.specs.Beginning.{IsBegun, nothing_sent}
use Rattle.job_core.specs.Cores.{IsCore, StandsSo}

-- one rank more
pub are_push : {A B : Type 0} (P : A → B → Type 0) (n : ℕ) (items : List A) (f : ℕ → B) (x : A) → P x (f n) → AreBy P n items f → AreBy P (n + 1) (items ++ x ∷ []) f
are_push P n items f x is h = record {
  size = length-append items (x ∷ []) ∙ omega (arith, h.size);
  each = λ k d b. ⊎_elim
      (λ e. subst (λ z. P z (f k)) (sym (get_or_append_left items (x ∷ []) d k (omega (arith, e, h.size)))) (h.each k d e))
      (λ e. let last : k ≡ n = omega (arith, b, e) in subst (λ z. P z (f k)) (sym (get_or_push items x d k (h.size ∙ sym last))) (subst (λ z. P x (f z)) (sym last) is))
      (cases_lt k n);
}

-- each item is mapped
are_mapped : {A B C : Type 0} (P : A → C → Type 0) (Q : B → C → Type 0) (g : A → B) (n : ℕ) (items : List A) (f : ℕ → C) → ((a : A) (c : C) → P a c → Q (g a) c) → AreBy P n items f → AreBy Q n (map g items) f
are_mapped P Q g n [] f same h = record { size = h.size; each = λ k d b. absurd (omega (arith, b, h.size)) }
are_mapped P Q g n (x ∷ xs) f same h = record {
  size = length-map (x ∷ xs) g ∙ h.size;
  each = λ k d b. subst (λ z. Q z (f k)) (sym (get_or-map g (x ∷ xs) k x d (omega (arith, b, h.size)))) (same (get_or (x ∷ xs) k x) (f k) (h.each k x b));
}

-- nobody has anything to tell
pub none_told : (n : ℕ) (rows : List (List (List Control))) → Pairs n rows (λ s r. []) → Pairs n rows nothing_sent.control
none_told n rows h = are_by_map (Are n) (Are n) n rows (λ s r. []) nothing_sent.control
    (λ s row b. are_by_map (λ x y. x ≡ y) (λ x y. x ≡ y) n row (λ r. []) (nothing_sent.control s) (λ r l c e. e ∙ none [] (r == 0))) h
  where
    none : (l : List Control) (b : Bool) → l ≡ (if b then l else l)
    none l true = refl
    none l false = refl

pub core_begun : {S : Type 0} (ended : S → Option End) (bytes among serial : S → ℕ) (P : Ranks S) (n : ℕ) (k : Core S) → AreBy (IsBegun ended bytes among serial n) n k.members.items P.begin → k.killed.items ≡ replicate n false → IsNet n k.network nothing_sent (λ r. [])
    → IsCore ended bytes among n (λ r. 0) k (start_of P)
core_begun ended bytes among serial P n k members killed net = record {
  ranks = net.ranks;
  members = are;
  holds = record {
    ranks = are_mapped (IsMember ended bytes among n) IsRunning running_of n k.members.items (start_of P).one (λ m v h. h.running) are;
    ops = λ r d b e. absurd (false≢true e);
    killed = subst (λ z. Are n z (λ r. false)) (sym killed) (are_all n false);
    network = net.stands;
  };
}
  where
    are : AreBy (IsMember ended bytes among n) n k.members.items (start_of P).one
    are = are_by_map (IsBegun ended bytes among serial n) (IsMember ended bytes among n) n k.members.items P.begin (start_of P).one (λ r m b h. h.member) members

sound_start : {S : Type 0} (P : Stepping S) (n : ℕ) → Sound n 0 (start_of (stepping P)).protocol
sound_start P n = record {
  kept = (keeps_on P n).invariant (start_of (stepping P)) (on_session P n []);
  last = λ e. absurd (false≢true e);
  counted = record { sent = λ s r a b. omega arith; come = λ s r a b. omega arith };
}

pub stands_begun : {S : Type 0} (ended : S → Option End) (bytes among serial : S → ℕ) (turned : ℕ → S → Stepped S) (answered : S → Reply → S) (again : (limit : ℕ) (s : S) (w : Want) → (turned limit s).stop ≡ Asks w → turned limit (turned limit s).machine ≡ turned limit s) (begin : ℕ → S) (n : ℕ) (k : Core S)
    → 0 < n → AreBy (IsBegun ended bytes among serial n) n k.members.items begin → IsCore ended bytes among n (λ r. 0) k (start_of (stepping (stepping_of begin turned answered again))) → StandsSo ended bytes among serial turned answered again 0 k
stands_begun {S} ended bytes among serial turned answered again begin n k some members is = (
  n,
  λ r. 0,
  start_of (stepping P),
  is,
  some,
  sound_start P n,
  begin,
  on_session P n [],
  λ r m b. let new = members.each r m b in record { ops = omega (arith, new.ops); serials = omega (arith, new.serials) },
)
  where
    P : Stepping S
    P = stepping_of begin turned answered again
