-- Restart mode comes to a mark along sites.
use Rattle.std.proofs.Common.{◌≡◌, ◌+◌, ◌*◌, ◌-◌, ◌≤◌, ℕ, zero, suc, List, [], length, reverse, true, Option, Some, None, is_some, refl, ap, sym, ◌∙◌, subst, arith}
use Rattle.std.specs.Prelude.{unwrap_or}
use Rattle.std.proofs.lemmas.List.{reverse-reverse}
use Rattle.c_memory.specs.Memory.{total}
use Rattle.flat_code.specs.declared.code.FlatFunction.{FlatFunction}
use Rattle.flat_code.specs.Machine.{lengths_in}
use Rattle.flat_code.specs.Restart.{IsAtMark, LeadsAt, Reenters, Restarting, Stage, by_call, reenter, restarting, to_mark}
use Rattle.flat_code.specs.declared.code.Code.{Code}
use Rattle.flat_code.specs.Machine.{Machine}
use Rattle.image_text.specs.declared.state.RankState.{RankState}
use Rattle.ccift_pass.proofs.Leads.{onto}
use Rattle.ccift_pass.proofs.Restarts.{Back, began, comes_from_start, with_calls}
use Rattle.rank_machine.specs.Placing.{Standing}
use Rattle.rank_machine.specs.WellFormed.{IsFor, IsWellFormed}
use Rattle.rank_machine.specs.Returning.{IsReturning, restarting_of}

module _ (functions : List FlatFunction) where
  next_same : (r s t : Restarting) → reenter functions r ≡ Some s → reenter functions r ≡ Some t → s ≡ t
  next_same r s t p q =
      let e : ◌≡◌ {A = Option Restarting} (Some s) (Some t) = sym p ∙ q in
      cc e

  -- so many instructions come to one place
  pub comes_same : (n : ℕ) (r s t : Restarting) → Reenters functions n r s → Reenters functions n r t → s ≡ t
  comes_same zero r s t p q = sym p ∙ q
  comes_same (suc n) r s t p q = comes_same n q.0 s t (subst (λ m. Reenters functions n m s) (next_same r p.0 q.0 p.1 q.1) p.2) q.2

  less_one : (k : ℕ) (r s t : Restarting) → reenter functions r ≡ Some s → Reenters functions (suc k) r t → Reenters functions k s t
  less_one k r s t p q = subst (λ m. Reenters functions k m t) (next_same r q.0 s q.1 p) q.2

  pub one_less : (n k : ℕ) (r s t : Restarting) → n ≡ suc k → reenter functions r ≡ Some s → Reenters functions n r t → Reenters functions k s t
  one_less n k r s t e p q = less_one k r s t p (subst (λ m. Reenters functions m r t) e q)

  -- each call has a cell of its own
  pub few_sites : (used f : ℕ) (sites : List ℕ) (stages : List Stage) → LeadsAt functions used f sites stages → used + length sites ≤ 8192
  few_sites _ _ _ _ (to_mark used site n s room is e) = omega (arith, room)
  few_sites _ _ _ _ (by_call used site g s into arguments sites stages room is e rest) =
      let more = few_sites (used + 1 + total (lengths_in functions s.function)) g sites stages rest in
      omega (arith, more)

the_sites : (o : Option (List ℕ)) → is_some o ≡ true → o ≡ Some (unwrap_or o [])
the_sites None e = absurd (cc e)
the_sites (Some sites) e = refl

pub returning : (functions : List FlatFunction) (p : Standing) (n k : ℕ) (t : Restarting) → p.functions ≡ functions → is_some p.left ≡ true → n ≡ suc k → Reenters functions n (restarting_of p) t → IsAtMark functions t.machine → IsReturning p
returning functions p n k t same mode e leads mark = record {
  left = unwrap_or p.left [];
  mode = the_sites p.left mode;
  more = k;
  there = t;
  leads = subst (λ fs. Reenters fs (suc k) (restarting_of p) t) (sym same) (subst (λ m. Reenters functions m (restarting_of p) t) e leads);
  mark = subst (λ fs. IsAtMark fs t.machine) (sym same) mark;
}

abbrev again : Machine → List ℕ → Restarting
again m left = record { machine = m; left = left }

module _ (c : Code) (rank ranks : ℕ) (s : RankState) (formed : IsWellFormed c s) where
  abbrev turns : List ℕ → ℕ
  turns sites = 2 * length sites - 1

  abbrev from : Restarting
  from = restarting c rank ranks s.sites

  arrival : Back c.functions (began c rank ranks s.sites) from s.sites (onto formed.sites.stages [])
  arrival = comes_from_start c rank ranks s.sites formed.sites.stages formed.sites.leads

  abbrev there : Restarting
  there = record { machine = with_calls (began c rank ranks s.sites) arrival.frames arrival.memory arrival.described; left = [] }

  runs : Reenters c.functions (turns s.sites) from there
  runs = let count = arrival.count in subst (λ k. Reenters c.functions k from there) (omega (arith, count)) arrival.runs

  pub few : (sites : List ℕ) → sites ≡ s.sites → length sites ≤ 8192
  few sites e = subst (λ xs. length xs ≤ 8192) (sym e) (let most = few_sites c.functions 0 c.main s.sites formed.sites.stages formed.sites.leads in omega (arith, most))

  -- a machine before main's Enter
  module _ (sites : List ℕ) (e : sites ≡ s.sites) (p : Standing) (same : p.functions ≡ c.functions) (machine : p.placing.machine ≡ (restarting c rank ranks sites).machine) (left : p.left ≡ Some sites) where
    starts : restarting_of p ≡ from
    starts =
        ap (λ m. again m (unwrap_or p.left [])) machine
        ∙ ap (λ o. again (restarting c rank ranks sites).machine (unwrap_or o [])) left
        ∙ ap (restarting c rank ranks) e

    pub leads_there : (t : Restarting) × Reenters p.functions (turns sites) (restarting_of p) t × IsAtMark p.functions t.machine
    leads_there = (
      there,
      subst (λ fs. Reenters fs (turns sites) (restarting_of p) there) (sym same) (subst (λ r. Reenters c.functions (turns sites) r there) (sym starts) (subst (λ xs. Reenters c.functions (turns xs) from there) (sym e) runs)),
      subst (λ fs. IsAtMark fs there.machine) (sym same) (record { site = arrival.site; mark = arrival.mark }),
    )

    -- and the machine that it comes to
    module _ (q : Standing) (kept : q.functions ≡ p.functions) (run : Reenters p.functions (turns sites) (restarting_of p) (restarting_of q)) where
      comes_on : Reenters c.functions (turns s.sites) from (restarting_of q)
      comes_on = subst (λ xs. Reenters c.functions (turns xs) from (restarting_of q)) e (subst (λ r. Reenters c.functions (turns sites) r (restarting_of q)) starts (subst (λ fs. Reenters fs (turns sites) (restarting_of p) (restarting_of q)) same run))

      pub is_there : (t : Restarting) → Reenters c.functions (turns s.sites) from t → restarting_of q ≡ t
      is_there t leads = comes_same c.functions (turns s.sites) from (restarting_of q) t comes_on leads

      arrived : restarting_of q ≡ there
      arrived = is_there there runs

      pub none_left : is_some q.left ≡ true → q.left ≡ Some []
      none_left mode = the_sites q.left mode ∙ ap (λ r. Some r.left) arrived

      pub at_mark : IsAtMark q.functions q.placing.machine
      at_mark = subst (λ fs. IsAtMark fs q.placing.machine) (sym (kept ∙ same)) (subst (λ r. IsAtMark c.functions r.machine) (sym arrived) (record { site = arrival.site; mark = arrival.mark }))

      pub for_state : IsFor q s
      for_state = record {
        code = c;
        functions = sym (kept ∙ same);
        formed = formed;
        sites = sym (reverse-reverse s.sites) ∙ ap (λ r. reverse r.machine.sites) (sym arrived);
      }
