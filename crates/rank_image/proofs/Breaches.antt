-- The first row that is broken, from what the tests of rows found.
use Rattle.std.proofs.Common.{◌≡◌, ℕ, List, Option, Some, None, ap, sym, ◌∙◌, subst}
use Rattle.std.proofs.lemmas.List.Elements.{All-append}
use Rattle.flat_code.specs.declared.code.Code.{Code}
use Rattle.flat_code.specs.Restart.{LeadsTo}
use Rattle.image_text.specs.declared.field.Field.{Field}
use Rattle.image_text.specs.declared.state.RankState.{RankState}
use Rattle.rank_machine.specs.WellFormed.{Span, IsBelow, IsWellFormed, spans_of}
use Rattle.rank_image.specs.Along.{spans_along, spans_seen}
use Rattle.rank_image.specs.Breach.{FirstBreach, HasObjects, HasVariables, IsWithinLimits}
use Rattle.rank_image.specs.declared.spans.Span as found
use Rattle.rank_image.specs.declared.sites.Way.TheVariants.{Into}
use Rattle.rank_image.proofs.Leads.{sites_found, spans_found}

module _ (c : Code) (s : RankState) where
  abbrev along : Option (List Span)
  along = spans_along c.functions 0 (Into c.main) s.sites

  along_at : (sites : List ℕ) → sites ≡ s.sites → spans_along c.functions 0 (Into c.main) sites ≡ along
  along_at sites e = ap (spans_along c.functions 0 (Into c.main)) e

  pub no_sites : (sites : List ℕ) → sites ≡ s.sites → None ≡ spans_along c.functions 0 (Into c.main) sites → LeadsTo c s.sites → ⊥
  no_sites sites e none to =
      let clash : ◌≡◌ {A = Option (List Span)} None (Some (spans_of c.functions 0 to.stages)) = none ∙ along_at sites e ∙ spans_found c.functions 0 c.main s.sites to.stages to.leads in
      absurd (cc clash)

  pub found_by : (sites : List ℕ) (items seen : List found.Span) → sites ≡ s.sites → seen ≡ items → Some (spans_seen items) ≡ spans_along c.functions 0 (Into c.main) sites → Some (spans_seen seen) ≡ along
  found_by sites items seen e same is = subst (λ l. ◌≡◌ {A = Option (List Span)} (Some (spans_seen l)) along) (sym same) (is ∙ along_at sites e)

  module _ (spans : List Span) (found : Some spans ≡ along) where
    pub leads : LeadsTo c s.sites
    leads = let f = sites_found c.functions s.sites 0 c.main spans (sym found) in record { stages = f.stages; leads = f.leads }

    same : (to : LeadsTo c s.sites) → spans ≡ spans_of c.functions 0 to.stages
    same to =
        let e : ◌≡◌ {A = Option (List Span)} (Some spans) (Some (spans_of c.functions 0 to.stages)) = found ∙ spans_found c.functions 0 c.main s.sites to.stages to.leads in
        cc e

    pub here : (to : LeadsTo c s.sites) → HasVariables spans s → HasVariables (spans_of c.functions 0 to.stages) s
    here to = subst (λ sp. HasVariables sp s) (same to)

    pub no_variables : (HasVariables spans s → ⊥) → LeadsTo c s.sites × ((to : LeadsTo c s.sites) → HasVariables (spans_of c.functions 0 to.stages) s → ⊥)
    no_variables not = (leads, (λ to has. not (subst (λ sp. HasVariables sp s) (sym (same to)) has)))

    pub no_objects : HasVariables spans s → (HasObjects s → ⊥) → ((to : LeadsTo c s.sites) × HasVariables (spans_of c.functions 0 to.stages) s) × (HasObjects s → ⊥)
    no_objects has not = ((leads, here leads has), not)

    pub well_formed : IsWithinLimits s → HasVariables spans s → HasObjects s → IsWellFormed c s
    well_formed limits has objects =
        let variables = here leads has in
        record {
          output = limits.output;
          serial = limits.serial;
          phase = limits.phase;
          sites = leads;
          frames = variables.frames;
          ascending = variables.ascending;
          cells = λ k d less. (objects.each k d less).cells;
          apart = objects.apart;
          positive = λ k d less. (objects.each k d less).positive;
          below = All-append (IsBelow s.serial) s.variables s.objects variables.below (λ k d less. (objects.each k d less).below);
          distinct = objects.distinct;
        }

pub told : (k c : Code) (s : RankState) (o : Option Field) (field : Field) → k ≡ c → o ≡ Some field → FirstBreach k s o → FirstBreach c s (Some field)
told k c s o field same is first = subst (λ p. FirstBreach c s p) is (subst (λ d. FirstBreach d s o) same first)
