-- Sites lead through calls to a mark exactly where a walk along them finds spans.
use Rattle.std.proofs.Common.{◌≡◌, ◌++◌, ◌+◌, ℕ, List, [], ◌∷◌, Bool, true, false, Option, Some, None, refl, ap, ◌∙◌, arith}
use Rattle.std.specs.Prelude.{if◌then◌else◌, nat_lt, option_map, slice_get}
use Rattle.std.proofs.lemmas.Bool.Decides.{nat_tests}
use Rattle.c_memory.specs.Memory.{total}
use Rattle.c_kernel.specs.declared.program.Expr.{Expr}
use Rattle.c_kernel.specs.declared.program.Target.{Target}
use Rattle.flat_code.specs.declared.code.FlatFunction.{FlatFunction}
use Rattle.flat_code.specs.declared.code.Instr.{Instr}
use Rattle.flat_code.specs.declared.code.Instr.TheVariants.{Step, Zero, Set, Call, Malloc, Free, Goto, Unless, Return, Mark, Push, Pop, Enter, Leave, Print, Mpi}
use Rattle.flat_code.specs.declared.code.Site.{Site}
use Rattle.flat_code.specs.Machine.{code_at, lengths_in}
use Rattle.flat_code.specs.Restart.{HasRoom, IsPlaceOf, LeadsAt, Stage, by_call, instr_on, place_named, to_mark}
use Rattle.rank_machine.specs.WellFormed.{Span, spans, spans_of}
use Rattle.rank_image.specs.Along.{sites_in, spans_along, way_at, way_by, way_from}
use Rattle.rank_image.specs.declared.sites.Way.{Way}
use Rattle.rank_image.specs.declared.sites.Way.TheVariants.{Nowhere, Into, ToMark}

-- ---- what stands at a place

abbrev IsBy : Way → Option Instr → Type 0
IsBy Nowhere o = Unit {0}
IsBy (Into g) o = (into : Option Target) × (arguments : List Expr) × (o ≡ Some (Call into g arguments))
IsBy ToMark o = (n : ℕ) × (o ≡ Some (Mark n))

is_by : (o : Option Instr) → IsBy (way_by o) o
is_by None = tt
is_by (Some Step) = tt
is_by (Some (Zero at)) = tt
is_by (Some (Set place value)) = tt
is_by (Some (Call into f arguments)) = (into, arguments, refl)
is_by (Some (Malloc place bytes each)) = tt
is_by (Some (Free e)) = tt
is_by (Some (Goto at)) = tt
is_by (Some (Unless test to)) = tt
is_by (Some (Return e)) = tt
is_by (Some (Mark n)) = (n, refl)
is_by (Some (Push n)) = tt
is_by (Some Pop) = tt
is_by (Some (Enter variables sites)) = tt
is_by (Some Leave) = tt
is_by (Some (Print format arguments)) = tt
is_by (Some (Mpi call)) = tt

abbrev Begins : Option Instr → List Site → Type 0
Begins o [] = Unit {0}
Begins o (x ∷ xs) = (variables : ℕ) × (o ≡ Some (Enter variables (x ∷ xs)))

begins_in : (o : Option Instr) → Begins o (sites_in o)
begins_in None = tt
begins_in (Some Step) = tt
begins_in (Some (Zero at)) = tt
begins_in (Some (Set place value)) = tt
begins_in (Some (Call into f arguments)) = tt
begins_in (Some (Malloc place bytes each)) = tt
begins_in (Some (Free e)) = tt
begins_in (Some (Goto at)) = tt
begins_in (Some (Unless test to)) = tt
begins_in (Some (Return e)) = tt
begins_in (Some (Mark n)) = tt
begins_in (Some (Push n)) = tt
begins_in (Some Pop) = tt
begins_in (Some (Enter variables [])) = tt
begins_in (Some (Enter variables (x ∷ xs))) = (variables, refl)
begins_in (Some Leave) = tt
begins_in (Some (Print format arguments)) = tt
begins_in (Some (Mpi call)) = tt

-- ---- where a site leads

module _ (functions : List FlatFunction) (f site : ℕ) where
  abbrev stage_at : ℕ → Stage
  stage_at place = record { function = f; place = place }

  place_in : (sites : List Site) (place : ℕ) → Begins (slice_get (code_at functions f) 0) sites → place_named sites site ≡ Some place → IsPlaceOf functions site (stage_at place)
  place_in [] place b e = absurd (cc e)
  place_in (x ∷ xs) place b e = record { variables = b.0; sites = x ∷ xs; enter = b.1; named = e }

  -- a stage from which it leads on
  abbrev LeadsOn : Way → Type 0
  LeadsOn w = (place : ℕ) × IsPlaceOf functions site (stage_at place) × IsBy w (instr_on functions (stage_at place))

  abbrev Leads : Way → Type 0
  Leads Nowhere = Unit {0}
  Leads (Into g) = LeadsOn (Into g)
  Leads ToMark = LeadsOn ToMark

  leads_on : (place : ℕ) → IsPlaceOf functions site (stage_at place) → (w : Way) → IsBy w (instr_on functions (stage_at place)) → Leads w
  leads_on place is Nowhere by = tt
  leads_on place is (Into g) by = (place, is, by)
  leads_on place is ToMark by = (place, is, by)

  leads_at : (p : Option ℕ) → place_named (sites_in (slice_get (code_at functions f) 0)) site ≡ p → Leads (way_at (code_at functions f) p)
  leads_at None e = tt
  leads_at (Some place) e = leads_on place (place_in (sites_in (slice_get (code_at functions f) 0)) place (begins_in (slice_get (code_at functions f) 0)) e) (way_by (slice_get (code_at functions f) place)) (is_by (slice_get (code_at functions f) place))

  leads : Leads (way_from functions f site)
  leads = leads_at (place_named (sites_in (slice_get (code_at functions f) 0)) site) refl

way_is : (functions : List FlatFunction) (site : ℕ) (s : Stage) → IsPlaceOf functions site s → way_from functions s.function site ≡ way_by (instr_on functions s)
way_is functions site s is =
    ap (λ o. way_at (code_at functions s.function) (place_named (sites_in o) site)) is.enter
    ∙ ap (way_at (code_at functions s.function)) is.named

-- ---- from the sites to the spans

roomy : {X : Type 0} (t : Bool) (o : Option X) → t ≡ false → (if t then None else o) ≡ o
roomy true o e = absurd (cc e)
roomy false o e = refl

module _ (functions : List FlatFunction) where
  -- how many cells are in use after a call
  abbrev after_call : ℕ → ℕ → ℕ
  after_call used f = used + 1 + total (lengths_in functions f)

  abbrev with_call : ℕ → ℕ → Option (List Span) → Option (List Span)
  with_call used f o = option_map (λ rest. spans (used + 1) (lengths_in functions f) ++ rest) o

  fits : (used f : ℕ) → HasRoom functions used f → nat_lt 8192 (after_call used f) ≡ false
  fits used f room = grind (arith, nat_tests, room)

  enters : (used site : ℕ) (s : Stage) (sites : List ℕ) (w : Way) → HasRoom functions used s.function → IsPlaceOf functions site s → way_by (instr_on functions s) ≡ w →
      spans_along functions used (Into s.function) (site ∷ sites) ≡ with_call used s.function (spans_along functions (after_call used s.function) w sites)
  enters used site s sites w room is e =
      roomy (nat_lt 8192 (after_call used s.function)) (with_call used s.function (spans_along functions (after_call used s.function) (way_from functions s.function site) sites)) (fits used s.function room)
      ∙ ap (λ v. with_call used s.function (spans_along functions (after_call used s.function) v sites)) (way_is functions site s is ∙ e)

  pub spans_found : (used f : ℕ) (sites : List ℕ) (stages : List Stage) → LeadsAt functions used f sites stages → spans_along functions used (Into f) sites ≡ Some (spans_of functions used stages)
  spans_found _ _ _ _ (to_mark used site n s room is e) = enters used site s [] ToMark room is (ap way_by e)
  spans_found _ _ _ _ (by_call used site g s into arguments sites stages room is e rest) =
      enters used site s sites (Into g) room is (ap way_by e)
      ∙ ap (with_call used s.function) (spans_found (after_call used s.function) g sites stages rest)

  -- ---- from the spans to the sites

  -- sites that lead to a mark, with these spans
  pub record Found (used f : ℕ) (sites : List ℕ) (along : List Span) : Type 0 where
    pub stages : List Stage
    pub leads : LeadsAt functions used f sites stages
    pub spans : spans_of functions used stages ≡ along

  room_in : (used f : ℕ) → nat_lt 8192 (after_call used f) ≡ false → HasRoom functions used f
  room_in used f e = grind (arith, nat_tests)

  more : (used f g site : ℕ) (sites : List ℕ) (along : List Span) → HasRoom functions used f → LeadsOn functions f site (Into g) →
      ((rest : List Span) → spans_along functions (after_call used f) (Into g) sites ≡ Some rest → Found (after_call used f) g sites rest) →
      (o : Option (List Span)) → spans_along functions (after_call used f) (Into g) sites ≡ o → with_call used f o ≡ Some along → Found used f (site ∷ sites) along
  more used f g site sites along room on next None e is = absurd (cc is)
  more used f g site sites along room on next (Some rest) e is =
      let found = next rest e in
      let same : spans (used + 1) (lengths_in functions f) ++ rest ≡ along = cc is in
      record {
        stages = stage_at functions f site on.0 ∷ found.stages;
        leads = by_call used site g (stage_at functions f site on.0) on.2.0 on.2.1 sites found.stages room on.1 on.2.2 found.leads;
        spans = ap (λ r. spans (used + 1) (lengths_in functions f) ++ r) found.spans ∙ same;
      }

  one_more_call : (used f site : ℕ) (sites : List ℕ) (along : List Span) → HasRoom functions used f →
      ((g : ℕ) (rest : List Span) → spans_along functions (after_call used f) (Into g) sites ≡ Some rest → Found (after_call used f) g sites rest) →
      (w : Way) → Leads functions f site w → with_call used f (spans_along functions (after_call used f) w sites) ≡ Some along → Found used f (site ∷ sites) along
  one_more_call used f site [] along room next Nowhere on is = absurd (cc is)
  one_more_call used f site (x ∷ sites) along room next Nowhere on is = absurd (cc is)
  one_more_call used f site sites along room next (Into g) on is = more used f g site sites along room on (next g) (spans_along functions (after_call used f) (Into g) sites) refl is
  one_more_call used f site (x ∷ sites) along room next ToMark on is = absurd (cc is)
  one_more_call used f site [] along room next ToMark on is = record {
    stages = stage_at functions f site on.0 ∷ [];
    leads = to_mark used site on.2.0 (stage_at functions f site on.0) room on.1 on.2.1;
    spans = cc is;
  }

  where_room : (used f site : ℕ) (sites : List ℕ) (along : List Span) →
      ((g : ℕ) (rest : List Span) → spans_along functions (after_call used f) (Into g) sites ≡ Some rest → Found (after_call used f) g sites rest) →
      (t : Bool) → nat_lt 8192 (after_call used f) ≡ t →
      (if t then None else with_call used f (spans_along functions (after_call used f) (way_from functions f site) sites)) ≡ Some along → Found used f (site ∷ sites) along
  where_room used f site sites along next true full is = absurd (cc is)
  where_room used f site sites along next false full is = one_more_call used f site sites along (room_in used f full) next (way_from functions f site) (leads functions f site) is

  pub sites_found : (sites : List ℕ) (used f : ℕ) (along : List Span) → spans_along functions used (Into f) sites ≡ Some along → Found used f sites along
  sites_found [] used f along is = absurd (cc is)
  sites_found (site ∷ sites) used f along is =
      where_room used f site sites along (λ g rest e. sites_found sites (after_call used f) g rest e) (nat_lt 8192 (after_call used f)) refl is
