-- Where sites lead, and where the variables of the calls stand that they lead through.
use Rattle.std.specs.Prelude.{ℕ, ◌+◌, nat_lt, if◌then◌else◌, List, [], ◌∷◌, ◌++◌, map, Option, Some, None, option_map, slice_get}
use Rattle.c_memory.specs.Memory.{total}
use Rattle.flat_code.specs.declared.code.FlatFunction.{FlatFunction}
use Rattle.flat_code.specs.declared.code.Site.{Site}
use Rattle.flat_code.specs.declared.code.Instr.{Instr}
use Rattle.flat_code.specs.declared.code.Instr.TheVariants.{Call, Mark, Enter}
use Rattle.flat_code.specs.Machine.{code_at, lengths_in}
use Rattle.flat_code.specs.Restart.{place_named}
use Rattle.rank_machine.specs.WellFormed as formed
use Rattle.rank_machine.specs.WellFormed.{spans}
use Rattle.rank_image.specs.declared.spans.Span.{Span}
use Rattle.rank_image.specs.declared.sites.Way.{Way}
use Rattle.rank_image.specs.declared.sites.Way.TheVariants.{Nowhere, Into, ToMark}

abbrev pub spans_seen : List Span → List formed.Span
spans_seen spans = map (λ s. record { place = s.place; length = s.length }) spans

-- the sites of a function that begins with this instruction
abbrev pub sites_in : Option Instr → List Site
sites_in (Some (Enter variables sites)) = sites
sites_in other = []

abbrev pub way_by : Option Instr → Way
way_by (Some (Call into f arguments)) = Into f
way_by (Some (Mark site)) = ToMark
way_by other = Nowhere

abbrev pub way_at : List Instr → Option ℕ → Way
way_at code None = Nowhere
way_at code (Some place) = way_by (slice_get code place)

-- where a site leads in a function's code
abbrev pub way_in : List Instr → ℕ → Way
way_in code site = way_at code (place_named (sites_in (slice_get code 0)) site)

abbrev pub way_from : List FlatFunction → ℕ → ℕ → Way
way_from functions f site = way_in (code_at functions f) site

-- the spans of the calls that sites lead through to a mark, where so many cells are in use
abbrev pub spans_along : List FlatFunction → ℕ → Way → List ℕ → Option (List formed.Span)
spans_along functions used ToMark [] = Some []
spans_along functions used (Into f) (site ∷ sites) =
    if nat_lt 8192 (used + 1 + total (lengths_in functions f)) then None
    else option_map (λ rest. spans (used + 1) (lengths_in functions f) ++ rest) (spans_along functions (used + 1 + total (lengths_in functions f)) (way_from functions f site) sites)
spans_along functions used way sites = None
