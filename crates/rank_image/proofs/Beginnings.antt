-- What holds of a rank that begins.
use Rattle.std.proofs.Common.{◌≡◌, ◌+◌, ◌^◌, ◌≤◌, ◌<◌, ℕ, zero, suc, Bool, true, false, List, [], ◌∷◌, length, Option, Some, None, Result, Ok, Err, refl, sym, ap, ◌∙◌, subst, arith}
use Rattle.std.specs.Prelude.{max, nat_lt, if◌then◌else◌}
use Rattle.std.proofs.lemmas.Bool.Decides.{nat_tests}
use Rattle.std.proofs.Math.Nat.{max-le}
use Rattle.c_memory.specs.Memory.{Memory, add_variables, empty, enter, total}
use Rattle.c_memory.proofs.Enters.{added_next}
use Rattle.flat_code.specs.declared.code.Code.{Code}
use Rattle.flat_code.specs.declared.code.FlatFunction.{FlatFunction}
use Rattle.flat_code.specs.Machine.{Machine, lengths_in, start}
use Rattle.rank_machine.specs.Placing.{Standing}
use Rattle.turn_bounds.specs.Settled.{IsSettled}
use Rattle.turn_bounds.specs.Spaced.{IsSpaced, HasCells, HaveCells}
use Rattle.turn_bounds.proofs.PassedFits.{spaced}
use Rattle.turn_bounds.proofs.Solid.{has_cells}
use Rattle.rank_image.specs.Rank as rank
use Rattle.rank_image.specs.Rank.{Rank, Runs, IsCompiled, IsSound, Waits, begun}
use Rattle.rank_image.proofs.Standings.{same_placing, same_standing}

code_spaced : (c : Code) → IsCompiled c → IsSpaced c.functions
code_spaced c is = subst (λ (x : Code). IsSpaced x.functions) (sym is.code) (spaced is.program)

code_cells : (c : Code) → IsCompiled c → HasCells c.functions
code_cells c is = subst (λ (x : Code). HasCells x.functions) (sym is.code) (has_cells is.program is.regular is.objects)

-- ---- serials

few : (ns : List ℕ) → HaveCells ns → length ns ≤ total ns
few [] h = omega arith
few (n ∷ ns) h = let some = h.0 in let rest = few ns h.1 in omega (arith, some, rest)

abbrev entered : Bool → List ℕ → Result Memory ℕ
entered t ns = if t then Err 108 else Ok (add_variables (record empty { calls = 1 }) ns)

entered_by : (ns : List ℕ) (t : Bool) → nat_lt 8192 (0 + 1 + total ns) ≡ t → length ns ≤ total ns → (m : Memory) → entered t ns ≡ Ok m → m.next ≤ 8192
entered_by ns true e less m is = absurd cc
entered_by ns false e less m is =
    let same : add_variables (record empty { calls = 1 }) ns ≡ m = cc in
    let next = ap (λ (x : Memory). x.next) (sym same) ∙ added_next (record empty { calls = 1 }) ns in
    let room : 0 + 1 + total ns ≤ 8192 = grind (arith, nat_tests, e) in
    omega (arith, next, room, less)

started : (c : Code) (me ranks : ℕ) (r : Result Memory ℕ) → enter empty (lengths_in c.functions c.main) ≡ r → length (lengths_in c.functions c.main) ≤ total (lengths_in c.functions c.main) → (start c me ranks).memory.next ≤ 8192
started c me ranks (Err code) e less = rw (e, start) (omega arith)
started c me ranks (Ok m) e less =
    let next = entered_by (lengths_in c.functions c.main) (nat_lt 8192 (0 + 1 + total (lengths_in c.functions c.main))) refl less m e in
    rw (e, start) next

first_serial : (c : Code) (me ranks : ℕ) → IsCompiled c → rank.serial (begun c me ranks) ≤ 2 ^ 13
first_serial c me ranks is =
    let next = started c me ranks (enter empty (lengths_in c.functions c.main)) refl (few (lengths_in c.functions c.main) ((code_cells c is).variables c.main)) in
    max-le next (omega arith)

-- ---- the rest

settled_by : (c : Code) (me ranks : ℕ) (r : Result Memory ℕ) → enter empty (lengths_in c.functions c.main) ≡ r → IsSettled c.functions (record { machine = start c me ranks; stack = []; heap = [] })
settled_by c me ranks (Err code) e = rw (e, start) (record { within = omega arith; asked = omega arith; cells = tt; waiting = tt })
settled_by c me ranks (Ok m) e = rw (e, start) (record { within = omega arith; asked = omega arith; cells = tt; waiting = tt })

pub record First (ranks : ℕ) (m : Machine) : Type 0 where
  pub asked : m.asked ≡ None
  pub among : m.seat.ranks ≡ ranks
  pub bytes : m.printed ≡ 0

first_by : (c : Code) (me ranks : ℕ) (r : Result Memory ℕ) → enter empty (lengths_in c.functions c.main) ≡ r → First ranks (start c me ranks)
first_by c me ranks (Err code) e = rw (e, start) (record { asked = refl; among = refl; bytes = refl })
first_by c me ranks (Ok m) e = rw (e, start) (record { asked = refl; among = refl; bytes = refl })

-- what is to be shown of a rank that begins
pub record Begins (ranks : ℕ) (r : Rank) : Type 0 where
  pub ended : rank.ended r ≡ None
  pub among : rank.among r ≡ ranks
  pub bytes : rank.bytes r ≡ 0
  pub serial : rank.serial r ≤ 2 ^ 13
  pub sound : IsSound r

begins : (c : Code) (me ranks : ℕ) → IsCompiled c → Begins ranks (begun c me ranks)
begins c me ranks is =
    let first = first_by c me ranks (enter empty (lengths_in c.functions c.main)) refl in
    record {
      ended = refl;
      among = first.among;
      bytes = first.bytes;
      serial = first_serial c me ranks is;
      sound = record {
        spaced = code_spaced c is;
        cells = code_cells c is;
        settled = settled_by c me ranks (enter empty (lengths_in c.functions c.main)) refl;
        end = refl;
        left = refl;
        waits = subst (λ x. Waits c.functions (start c me ranks) x) (sym first.asked) tt;
      };
    }

-- a machine that begins
pub record IsNew (c : Code) (me ranks : ℕ) (s : Standing) : Type 0 where
  pub functions : s.functions ≡ c.functions
  pub start : s.placing.machine ≡ start c me ranks
  pub stack : s.placing.stack ≡ []
  pub heap : s.placing.heap ≡ []
  pub end : s.end ≡ None
  pub left : s.left ≡ None
  pub begun : s.begun ≡ 0

abbrev first_standing : Code → ℕ → ℕ → Standing
first_standing c me ranks = record { functions = c.functions; placing = record { machine = start c me ranks; stack = []; heap = [] }; end = None; left = None; begun = 0 }

pub begun_so : (c : Code) (me ranks : ℕ) (s : Standing) → IsNew c me ranks s → Runs s ≡ begun c me ranks
begun_so c me ranks s new =
    let first = first_standing c me ranks in
    ap (λ (x : Standing). Runs x) (same_standing s first new.functions (same_placing s.placing first.placing new.start new.stack new.heap) new.end new.left new.begun)

pub begins_so : (c : Code) (me ranks : ℕ) (s : Standing) → IsCompiled c → IsNew c me ranks s → Begins ranks (Runs s)
begins_so c me ranks s is new = subst (λ r. Begins ranks r) (sym (begun_so c me ranks s new)) (begins c me ranks is)
