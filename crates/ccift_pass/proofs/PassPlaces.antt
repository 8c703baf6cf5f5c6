-- Where passed code stands.
use Rattle.std.proofs.Common.{◌≡◌, ◌⊎◌, inl, inr, ℕ, zero, suc, ◌+◌, List, [], ◌∷◌, ◌++◌, length, map, Option, Some, None, Bool, true, false, ◌≤◌, ◌<◌, refl, sym, ap, ◌∙◌, subst, arith, add-one}
use Rattle.std.proofs.lemmas.Bool.Decides.{nat_tests}
use Rattle.std.specs.Prelude.{slice_get, nat_eq, if◌then◌else◌}
use Rattle.c_kernel.specs.declared.program.Function.{Function}
use Rattle.flat_code.specs.declared.code.FlatFunction.{FlatFunction}
use Rattle.flat_code.specs.declared.code.Site.{Site}
use Rattle.flat_code.specs.declared.code.Instr.{Instr}
use Rattle.flat_code.specs.declared.code.Instr.TheVariants.{Step, Zero, Set, Call, Malloc, Free, Goto, Unless, Return, Mark, Push, Pop, Leave, Enter, Print, Mpi}
use Rattle.flat_code.specs.Machine.{code_at, lengths_in}
use Rattle.ccift_lower.specs.Laid.{At}
use Rattle.ccift_pass.specs.Passed.{width, sites, passes, place_in, all_passed, widths, moved, site_at, site_places, passed_code, sites_in, passed_from}
use Rattle.ccift_pass.specs.Spots.{Has, HasSite, IsPlain, Moves, missing_code, Passes}

has_onto : (x : Instr) (xs ys : List Instr) (q : ℕ) → Has xs q ys → Has (x ∷ xs) (q + 1) ys
has_onto x xs [] q h = tt
has_onto x xs (y ∷ ys) q h = (ap (slice_get (x ∷ xs)) (add-one q) ∙ h.0, has_onto x xs ys (q + 1) h.1)

has_after : (pre xs ys : List Instr) (q : ℕ) → Has xs q ys → Has (pre ++ xs) (length pre + q) ys
has_after [] xs ys q h = let e : q ≡ 0 + q = omega arith in subst (λ n. Has xs n ys) e h
has_after (x ∷ pre) xs ys q h =
    let e : length pre + q + 1 ≡ length (x ∷ pre) + q = omega arith in
    subst (λ n. Has (x ∷ (pre ++ xs)) n ys) e (has_onto x (pre ++ xs) ys (length pre + q) (has_after pre xs ys q h))

has_start : (ys xs : List Instr) → Has (ys ++ xs) 0 ys
has_start [] xs = tt
has_start (y ∷ ys) xs = (refl, has_onto y (ys ++ xs) ys 0 (has_start ys xs))

width_is : (to : ℕ → ℕ) (site : ℕ) (i : Instr) → length (passes to site i) ≡ width i
width_is to site Step = refl
width_is to site (Zero k) = refl
width_is to site (Set place value) = refl
width_is to site (Call into f arguments) = refl
width_is to site (Malloc place bytes each) = refl
width_is to site (Free e) = refl
width_is to site (Goto p) = refl
width_is to site (Unless e p) = refl
width_is to site (Return e) = refl
width_is to site (Mark n) = refl
width_is to site (Push n) = refl
width_is to site Pop = refl
width_is to site Leave = refl
width_is to site (Enter variables list) = refl
width_is to site (Print format arguments) = refl
width_is to site (Mpi call) = refl

at_instr : (to : ℕ → ℕ) (site : ℕ) (is : List Instr) (p : ℕ) (i : Instr) → slice_get is p ≡ Some i → Has (all_passed to site is) (widths is p) (passes to (site_at is site p) i)
at_instr to site [] p i e = absurd (cc e)
at_instr to site (x ∷ is) zero i e =
    let same : x ≡ i = cc e in
    subst (λ z. Has (all_passed to site (x ∷ is)) 0 (passes to site z)) same (has_start (passes to site x) (all_passed to (site + sites x) is))
at_instr to site (x ∷ is) (suc p) i e =
    let n : length (passes to site x) + widths is p ≡ width x + widths is p = ap (λ k. k + widths is p) (width_is to site x) in
    subst (λ k. Has (all_passed to site (x ∷ is)) k (passes to (site_at is (site + sites x) p) i)) n
    (has_after (passes to site x) (all_passed to (site + sites x) is) _ (widths is p) (at_instr to (site + sites x) is p i e))

fetched : (variables site : ℕ) (code : List Instr) (p : ℕ) (i : Instr) → slice_get code p ≡ Some i → Has (passed_code variables site code) (moved code p) (passes (moved code) (site_at code site p) i)
fetched variables site code p i e =
    let n : widths code p + 1 ≡ moved code p = omega arith in
    subst (λ k. Has (passed_code variables site code) k (passes (moved code) (site_at code site p) i)) n
    (has_onto (Enter variables (site_places 1 site code)) (all_passed (moved code) site code) _ (widths code p) (at_instr (moved code) site code p i e))

widths_next : (is : List Instr) (p : ℕ) (i : Instr) → slice_get is p ≡ Some i → widths is (suc p) ≡ widths is p + width i
widths_next [] p i e = absurd (cc e)
widths_next (x ∷ is) zero i e = let same : x ≡ i = cc e in let w = ap width same in omega (arith, w)
widths_next (x ∷ is) (suc p) i e = let ih = widths_next is p i e in omega (arith, ih)

moved_next : (code : List Instr) (p : ℕ) (i : Instr) → slice_get code p ≡ Some i → moved code p + width i ≡ moved code (p + 1)
moved_next code p i e = let w = widths_next code p i e in let s = ap (widths code) (add-one p) in omega (arith, w, s)

get_after : (pre xs : List Instr) (q : ℕ) → slice_get (pre ++ xs) (length pre + q) ≡ slice_get xs q
get_after [] xs q = let e : 0 + q ≡ q = omega arith in ap (slice_get xs) e
get_after (x ∷ pre) xs q =
    let e : length (x ∷ pre) + q ≡ suc (length pre + q) = omega arith in
    ap (slice_get (x ∷ (pre ++ xs))) e ∙ get_after pre xs q

past_end : (to : ℕ → ℕ) (site : ℕ) (is : List Instr) (p : ℕ) → slice_get is p ≡ None → slice_get (all_passed to site is) (widths is p) ≡ None
past_end to site [] zero e = refl
past_end to site [] (suc p) e = refl
past_end to site (x ∷ is) zero e = absurd (cc e)
past_end to site (x ∷ is) (suc p) e =
    let n : width x + widths is p ≡ length (passes to site x) + widths is p = ap (λ k. k + widths is p) (sym (width_is to site x)) in
    ap (slice_get (all_passed to site (x ∷ is))) n ∙ get_after (passes to site x) (all_passed to (site + sites x) is) (widths is p) ∙ past_end to (site + sites x) is p e

past_passed : (variables site : ℕ) (code : List Instr) (p : ℕ) → slice_get code p ≡ None → slice_get (passed_code variables site code) (moved code p) ≡ None
past_passed variables site code p e =
    let n : moved code p ≡ suc (widths code p) = omega arith in
    ap (slice_get (passed_code variables site code)) n ∙ past_end (moved code) site code p e

-- ---- the places of sites

site_at_least : (is : List Instr) (site p : ℕ) → site ≤ site_at is site p
site_at_least is site zero = omega arith
site_at_least [] site (suc p) = omega arith
site_at_least (i ∷ is) site (suc p) = let h = site_at_least is (site + sites i) p in omega (arith, h)

-- past an entry of a smaller site
skip : (s at : ℕ) (list : List Site) (site : ℕ) → s < site → place_in (record { number = s; place = at } ∷ list) site ≡ place_in list site
skip s at list site h =
    let b : nat_eq s site ≡ false = grind (arith, nat_tests) in
    ap (λ t. if t then at else place_in list site) b

is_found : (s at : ℕ) (list : List Site) → place_in (record { number = s; place = at } ∷ list) s ≡ at
is_found s at list =
    let b : nat_eq s s ≡ true = grind (arith, nat_tests) in
    ap (λ t. if t then at else place_in list s) b

at_first : (x : Instr) (is : List Instr) (place site : ℕ) → HasSite x → place_in (site_places place site (x ∷ is)) site ≡ place + 0 + 1
at_first (Call into f es) is place site h = let e : place + 1 ≡ place + 0 + 1 = omega arith in is_found site (place + 1) (site_places (place + 3) (site + 1) is) ∙ e
at_first (Mark n) is place site h = let e : place + 1 ≡ place + 0 + 1 = omega arith in is_found site (place + 1) (site_places (place + 3) (site + 1) is) ∙ e
at_first Step is place site h = absurd h
at_first (Zero x) is place site h = absurd h
at_first (Set x e) is place site h = absurd h
at_first (Malloc x e n) is place site h = absurd h
at_first (Free e) is place site h = absurd h
at_first (Unless e p) is place site h = absurd h
at_first (Goto p) is place site h = absurd h
at_first (Return e) is place site h = absurd h
at_first (Push n) is place site h = absurd h
at_first Pop is place site h = absurd h
at_first Leave is place site h = absurd h
at_first (Enter n l) is place site h = absurd h
at_first (Print e l) is place site h = absurd h
at_first (Mpi x) is place site h = absurd h

no_site : (w place site : ℕ) (is : List Instr) (p : ℕ) → place_in (site_places (place + w) site is) (site_at is site p) ≡ place + w + widths is p + 1 → place_in (site_places (place + w) site is) (site_at is (site + 0) p) ≡ place + (w + widths is p) + 1
no_site w place site is p h =
    let e : site + 0 ≡ site = omega arith in
    let d : place + w + widths is p + 1 ≡ place + (w + widths is p) + 1 = omega arith in
    ap (λ k. place_in (site_places (place + w) site is) (site_at is k p)) e ∙ h ∙ d

a_site : (place site : ℕ) (is : List Instr) (p : ℕ) → place_in (site_places (place + 3) (site + 1) is) (site_at is (site + 1) p) ≡ place + 3 + widths is p + 1 → place_in (record { number = site; place = place + 1 } ∷ site_places (place + 3) (site + 1) is) (site_at is (site + 1) p) ≡ place + (3 + widths is p) + 1
a_site place site is p h =
    let l = site_at_least is (site + 1) p in
    let d : place + 3 + widths is p + 1 ≡ place + (3 + widths is p) + 1 = omega arith in
    skip site (place + 1) (site_places (place + 3) (site + 1) is) (site_at is (site + 1) p) (omega (arith, l)) ∙ h ∙ d

at_later : (x : Instr) (is : List Instr) (place site p : ℕ) → ((place site : ℕ) → place_in (site_places place site is) (site_at is site p) ≡ place + widths is p + 1) → place_in (site_places place site (x ∷ is)) (site_at is (site + sites x) p) ≡ place + (width x + widths is p) + 1
at_later (Call into f es) is place site p h = a_site place site is p (h (place + 3) (site + 1))
at_later (Mark n) is place site p h = a_site place site is p (h (place + 3) (site + 1))
at_later Step is place site p h = no_site 1 place site is p (h (place + 1) site)
at_later (Set x e) is place site p h = no_site 1 place site is p (h (place + 1) site)
at_later (Zero x) is place site p h = no_site 1 place site is p (h (place + 1) site)
at_later (Malloc x e n) is place site p h = no_site 1 place site is p (h (place + 1) site)
at_later (Free e) is place site p h = no_site 1 place site is p (h (place + 1) site)
at_later (Unless e q) is place site p h = no_site 1 place site is p (h (place + 1) site)
at_later (Goto q) is place site p h = no_site 1 place site is p (h (place + 1) site)
at_later (Return e) is place site p h = no_site 2 place site is p (h (place + 2) site)
at_later (Push n) is place site p h = no_site 1 place site is p (h (place + 1) site)
at_later Pop is place site p h = no_site 1 place site is p (h (place + 1) site)
at_later Leave is place site p h = no_site 1 place site is p (h (place + 1) site)
at_later (Enter n l) is place site p h = no_site 1 place site is p (h (place + 1) site)
at_later (Print e l) is place site p h = no_site 1 place site is p (h (place + 1) site)
at_later (Mpi x) is place site p h = no_site 1 place site is p (h (place + 1) site)

-- a site's entry has the place of its Call or Mark
place_of_site : (is : List Instr) (p : ℕ) (i : Instr) → slice_get is p ≡ Some i → HasSite i → (place site : ℕ) → place_in (site_places place site is) (site_at is site p) ≡ place + widths is p + 1
place_of_site [] p i e h place site = absurd (cc e)
place_of_site (x ∷ is) zero i e h place site = let same : i ≡ x = cc e in at_first x is place site (subst HasSite same h)
place_of_site (x ∷ is) (suc p) i e h place site = at_later x is place site p (place_of_site is p i e h)

-- ---- functions

abbrev pub AllPlain : List Instr → Type 0
AllPlain [] = Unit {0}
AllPlain (i ∷ is) = IsPlain i × AllPlain is

abbrev pub FunctionsPlain : List FlatFunction → Type 0
FunctionsPlain [] = Unit {0}
FunctionsPlain (f ∷ fs) = AllPlain f.code × FunctionsPlain fs

plain_at : (code : List Instr) → AllPlain code → (p : ℕ) (i : Instr) → slice_get code p ≡ Some i → IsPlain i
plain_at [] h p i e = absurd (cc e)
plain_at (x ∷ code) h zero i e = let same : x ≡ i = cc e in subst IsPlain same h.0
plain_at (x ∷ code) h (suc p) i e = plain_at code h.1 p i e

moves_of : (variables site : ℕ) (code : List Instr) → AllPlain code → Moves code (passed_code variables site code)
moves_of variables site code plain = record {
  move = moved code;
  site = site_at code site;
  start = refl;
  variables = variables;
  list = site_places 1 site code;
  enter = refl;
  fetch = fetched variables site code;
  next = moved_next code;
  plain = plain_at code plain;
  found = λ p i e h. place_of_site code p i e h 1 site;
  past = past_passed variables site code;
}

moves_from : (site : ℕ) (fs : List FlatFunction) → FunctionsPlain fs → (f : ℕ) → Moves (code_at fs f) (code_at (passed_from site fs) f) ⊎ ((code_at fs f ≡ missing_code) × (code_at (passed_from site fs) f ≡ missing_code))
moves_from site [] h f = inr (refl, refl)
moves_from site (g ∷ fs) h zero = inl (moves_of (length g.variables) site g.code h.0)
moves_from site (g ∷ fs) h (suc f) = moves_from (site + sites_in g.code) fs h.1 f

lengths_from : (site : ℕ) (fs : List FlatFunction) (f : ℕ) → lengths_in fs f ≡ lengths_in (passed_from site fs) f
lengths_from site [] f = refl
lengths_from site (g ∷ fs) zero = refl
lengths_from site (g ∷ fs) (suc f) = lengths_from (site + sites_in g.code) fs f

pub passing : (fs : List FlatFunction) → FunctionsPlain fs → Passes fs (passed_from 1 fs)
passing fs h = record { lengths = lengths_from 1 fs; moves = moves_from 1 fs h }
