-- The sites of a machine at a mark lead to that mark.
use Rattle.std.proofs.Common.{◌≡◌, ℕ, zero, suc, ◌+◌, ◌≤◌, List, [], ◌∷◌, ◌++◌, map, Option, Some, None, Bool, true, false, refl, sym, ap, ◌∙◌, subst, arith}
use Rattle.std.specs.Prelude.{slice_get, nat_eq, if◌then◌else◌}
use Rattle.c_values.specs.declared.value.Variables.{Variables}
use Rattle.c_memory.specs.Memory.{total}
use Rattle.flat_code.specs.declared.code.FlatFunction.{FlatFunction}
use Rattle.flat_code.specs.declared.code.Site.{Site}
use Rattle.flat_code.specs.declared.code.Instr.{Instr}
use Rattle.flat_code.specs.declared.code.Instr.TheVariants.{Step, Zero, Set, Call, Malloc, Free, Goto, Unless, Return, Mark, Push, Pop, Leave, Enter, Print, Mpi}
use Rattle.flat_code.specs.Machine.{Frame, Machine, code_at, lengths_in, descriptors}
use Rattle.flat_code.specs.Restart.{place_named, instr_here, Stage, IsPlaceOf, LeadsAt, to_mark, by_call}
use Rattle.ccift_lower.specs.Laid.{At}
use Rattle.ccift_lower.specs.Stands.{World, machine_in}
use Rattle.ccift_pass.specs.Passed.{passes, place_in}
use Rattle.ccift_pass.specs.Spots.{Has, HasSite, IsPlain, Moves, missing_code, Spot, entering, between, at_call, at_mark, popping, leaving, Paired, none, pair, PassedTo, nowhere, passes_by, missing}
use Rattle.ccift_pass.specs.Stages.{stage}
use Rattle.ccift_pass.proofs.Calls.{taken, CalledBy, Framed}

-- a list before another, turned round
abbrev pub onto : {A : Type 0} → List A → List A → List A
onto [] l = l
onto (x ∷ xs) l = onto xs (x ∷ l)

-- the descriptors of calls
abbrev pub all_described : List Frame → List ℕ
all_described [] = []
all_described (top ∷ below) = descriptors top.variables ++ all_described below

pub paired_described : (code passed : List FlatFunction) (frames others : List Frame) (sites described : List ℕ) → Paired code passed frames others sites described → described ≡ all_described others
paired_described code passed _ _ _ _ none = refl
paired_described code passed _ _ _ _ (pair f p v into g arguments frames others sites described m at pairs) = ap (λ l. descriptors v ++ l) (paired_described code passed frames others sites described pairs)

-- ---- a place by its site

named_by : (x : Site) (xs : List Site) (site k : ℕ) (t : Bool) → (place_in xs site ≡ k + 1 → place_named xs site ≡ Some (k + 1)) → (if t then x.place else place_in xs site) ≡ k + 1 → (if t then Some x.place else place_named xs site) ≡ Some (k + 1)
named_by x xs site k true h e = ap Some e
named_by x xs site k false h e = h e

named : (list : List Site) (site k : ℕ) → place_in list site ≡ k + 1 → place_named list site ≡ Some (k + 1)
named [] site k e = absurd (omega (arith, e))
named (x ∷ xs) site k e = named_by x xs site k (nat_eq x.number site) (named xs site k) e

place_of : (code passed : List FlatFunction) (f : ℕ) (m : Moves (code_at code f) (code_at passed f)) (p : ℕ) (i : Instr) → At (code_at code f) p i → HasSite i → IsPlaceOf passed (m.site p) (record { function = f; place = m.move p + 1 })
place_of code passed f m p i at has = record { variables = m.variables; sites = m.list; enter = m.enter; named = named m.list (m.site p) (m.move p) (m.found p i at has) }

-- ---- the calls below

module _ (code passed : List FlatFunction) (main : ℕ) where
  leads_below : (g : ℕ) (frames others : List Frame) (sites described left : List ℕ) (stages : List Stage) → Paired code passed frames others sites described → CalledBy passed main g others → taken passed others ≤ 8192 →
      LeadsAt passed (taken passed others) g left stages → LeadsAt passed 0 main (onto sites left) (onto (map stage others) stages)
  leads_below g _ _ _ _ left stages none called room leads = subst (λ f. LeadsAt passed 0 f left stages) called leads
  leads_below g _ _ _ _ left stages (pair f p v into h arguments frames others sites described m at pairs) called room leads =
      leads_below f frames others sites described (m.site p ∷ left) (record { function = f; place = m.move p + 1 } ∷ stages) pairs called.3 (omega (arith, room))
      (by_call (taken passed others) (m.site p) g (record { function = f; place = m.move p + 1 }) called.0 called.1 left stages room (place_of code passed f m p (Call into h arguments) at tt) called.2 leads)

-- ---- the newest call

other_first : (d : List Instr) (q site n : ℕ) (to : ℕ → ℕ) (i : Instr) → IsPlain i → Has d q (passes to site i) → slice_get d q ≡ Some (Mark n) → ⊥
other_first d q site n to Step plain h e = let no : ◌≡◌ {A = Option Instr} (Some Step) (Some (Mark n)) = sym h.0 ∙ e in absurd (cc no)
other_first d q site n to (Zero k) plain h e = let no : ◌≡◌ {A = Option Instr} (Some (Zero k)) (Some (Mark n)) = sym h.0 ∙ e in absurd (cc no)
other_first d q site n to (Set place value) plain h e = let no : ◌≡◌ {A = Option Instr} (Some (Set place value)) (Some (Mark n)) = sym h.0 ∙ e in absurd (cc no)
other_first d q site n to (Call into f arguments) plain h e = let no : ◌≡◌ {A = Option Instr} (Some (Push site)) (Some (Mark n)) = sym h.0 ∙ e in absurd (cc no)
other_first d q site n to (Malloc place bytes each) plain h e = let no : ◌≡◌ {A = Option Instr} (Some (Malloc place bytes each)) (Some (Mark n)) = sym h.0 ∙ e in absurd (cc no)
other_first d q site n to (Free x) plain h e = let no : ◌≡◌ {A = Option Instr} (Some (Free x)) (Some (Mark n)) = sym h.0 ∙ e in absurd (cc no)
other_first d q site n to (Goto p) plain h e = let no : ◌≡◌ {A = Option Instr} (Some (Goto (to p))) (Some (Mark n)) = sym h.0 ∙ e in absurd (cc no)
other_first d q site n to (Unless x p) plain h e = let no : ◌≡◌ {A = Option Instr} (Some (Unless x (to p))) (Some (Mark n)) = sym h.0 ∙ e in absurd (cc no)
other_first d q site n to (Return x) plain h e = let no : ◌≡◌ {A = Option Instr} (Some Leave) (Some (Mark n)) = sym h.0 ∙ e in absurd (cc no)
other_first d q site n to (Mark k) plain h e = let no : ◌≡◌ {A = Option Instr} (Some (Push site)) (Some (Mark n)) = sym h.0 ∙ e in absurd (cc no)
other_first d q site n to (Push k) plain h e = absurd plain
other_first d q site n to Pop plain h e = absurd plain
other_first d q site n to Leave plain h e = absurd plain
other_first d q site n to (Enter variables list) plain h e = absurd plain
other_first d q site n to (Print format arguments) plain h e = let no : ◌≡◌ {A = Option Instr} (Some (Print format arguments)) (Some (Mark n)) = sym h.0 ∙ e in absurd (cc no)
other_first d q site n to (Mpi call) plain h e = let no : ◌≡◌ {A = Option Instr} (Some (Mpi call)) (Some (Mark n)) = sym h.0 ∙ e in absurd (cc no)

-- at a mark there is the mark's site, and the call's own descriptors
pub record AtSite (c d : List Instr) (m : Moves c d) (own : List ℕ) (q : ℕ) (pushed described : List ℕ) : Type 0 where
  pub place : ℕ
  pub mark : ℕ
  pub at : At c place (Mark mark)
  pub moved : q ≡ m.move place + 1
  pub site : pushed ≡ m.site place ∷ []
  pub held : described ≡ own

between_not : (c d : List Instr) (m : Moves c d) (p n : ℕ) (i : Option Instr) → slice_get c p ≡ i → slice_get d (m.move p) ≡ Some (Mark n) → ⊥
between_not c d m p n None at e = let no : ◌≡◌ {A = Option Instr} None (Some (Mark n)) = sym (m.past p at) ∙ e in absurd (cc no)
between_not c d m p n (Some i) at e = other_first d (m.move p) (m.site p) n m.move i (m.plain p i at) (m.fetch p i at) e

at_site : (c d : List Instr) (m : Moves c d) (own : List ℕ) (p q n : ℕ) (pushed described : List ℕ) → Spot c d m own p q pushed described → slice_get d q ≡ Some (Mark n) → AtSite c d m own q pushed described
at_site c d m own _ _ n _ _ entering e = let no : ◌≡◌ {A = Option Instr} (Some (Enter m.variables m.list)) (Some (Mark n)) = sym m.enter ∙ e in absurd (cc no)
at_site c d m own _ _ n _ _ (between p) e = absurd (between_not c d m p n (slice_get c p) refl e)
at_site c d m own _ _ n _ _ (at_call p into g arguments at) e = let no : ◌≡◌ {A = Option Instr} (Some (Call into g arguments)) (Some (Mark n)) = sym (m.fetch p (Call into g arguments) at).1.0 ∙ e in absurd (cc no)
at_site c d m own _ _ n _ _ (at_mark p k at) e = record { place = p; mark = k; at = at; moved = refl; site = refl; held = refl }
at_site c d m own _ _ n _ _ (popping p q site at f) e = let no : ◌≡◌ {A = Option Instr} (Some Pop) (Some (Mark n)) = sym at ∙ e in absurd (cc no)
at_site c d m own _ _ n _ _ (leaving p x at) e = let no : ◌≡◌ {A = Option Instr} (Some (Return x)) (Some (Mark n)) = sym (m.fetch p (Return x) at).1.0 ∙ e in absurd (cc no)

no_mark : (p n : ℕ) → slice_get missing_code p ≡ Some (Mark n) → ⊥
no_mark zero n e = absurd (cc e)
no_mark (suc zero) n e = absurd (cc e)
no_mark (suc (suc p)) n e = absurd (cc e)

pub record Leading (passed : List FlatFunction) (main : ℕ) (n : Machine) : Type 0 where
  pub leads : LeadsAt passed 0 main (onto n.sites []) (onto (map stage n.frames) [])
  pub described : n.described ≡ all_described n.frames

module _ (code passed : List FlatFunction) (main : ℕ) where
  by_site : (w : World) (f q n : ℕ) (v : Variables) (pushed own : List ℕ) (frames others : List Frame) (sites described : List ℕ) (m : Moves (code_at code f) (code_at passed f)) → AtSite (code_at code f) (code_at passed f) m (descriptors v) q pushed own → slice_get (code_at passed f) q ≡ Some (Mark n) →
      Paired code passed frames others sites described → CalledBy passed main f others → taken passed others + 1 + total (lengths_in passed f) ≤ 8192 →
      Leading passed main (machine_in (record w { sites = pushed ++ sites; described = own ++ described }) (record { function = f; place = q; variables = v } ∷ others))
  by_site w f q n v pushed own frames others sites described m a mark pairs called room =
      let s : Stage = record { function = f; place = q } in
      let is : IsPlaceOf passed (m.site a.place) s = subst (λ k. IsPlaceOf passed (m.site a.place) (record { function = f; place = k })) (sym a.moved) (place_of code passed f m a.place (Mark a.mark) a.at tt) in
      let last : LeadsAt passed (taken passed others) f (m.site a.place ∷ []) (s ∷ []) = to_mark (taken passed others) (m.site a.place) n s room is mark in
      let leads : LeadsAt passed 0 main (onto sites (m.site a.place ∷ [])) (onto (map stage others) (s ∷ [])) = leads_below code passed main f frames others sites described (m.site a.place ∷ []) (s ∷ []) pairs called (omega (arith, room)) last in
      record {
        leads = subst (λ l. LeadsAt passed 0 main (onto (l ++ sites) []) (onto (map stage others) (s ∷ []))) (sym a.site) leads;
        described = ap (λ l. l ++ described) a.held ∙ ap (λ l. descriptors v ++ l) (paired_described code passed frames others sites described pairs);
      }

  pub leading : (m n : Machine) (site : ℕ) → PassedTo code passed m n → Framed passed main n.frames n.memory → instr_here passed n.frames ≡ Some (Mark site) → Leading passed main n
  leading _ _ site (nowhere w) h e = absurd (cc e)
  leading _ _ site (passes_by w f p q v pushed own frames others sites described m spot pairs) h e =
      by_site w f q site v pushed own frames others sites described m (at_site (code_at code f) (code_at passed f) m (descriptors v) p q site pushed own spot e) e pairs h.called h.room
  leading _ _ site (missing w f p v frames others sites described c d pairs) h e = absurd (no_mark p site (subst (λ l. slice_get l p ≡ Some (Mark site)) d e))
