-- What a turn of a rank that runs comes to.
use Rattle.std.proofs.Common.{◌≡◌, ◌≤◌, ◌<◌, ◌+◌, ◌*◌, ◌^◌, ℕ, List, length, Option, Some, None, refl, sym, ap, ◌∙◌, subst, option_map, arith}
use Rattle.std.specs.Prelude.{max}
use Rattle.std.proofs.Math.Nat.{le-max_left, le-max_right, max-le}
use Rattle.mpi_words.specs.declared.operation.Op.{Op}
use Rattle.mpi_words.specs.declared.operation.Op.TheVariants as op
use Rattle.mpi_words.specs.declared.operation.End.{End}
use Rattle.mpi_words.specs.declared.operation.Want.{Want}
use Rattle.mpi_words.specs.declared.operation.Want.TheVariants as want
use Rattle.mpi_effects.specs.declared.seat.Seat.{Seat}
use Rattle.mpi_effects.specs.declared.requests.Request.{Request}
use Rattle.core_laws.specs.Process as asks
use Rattle.core_laws.specs.Pausing.{Stepped, Asks}
use Rattle.job_network.specs.Wants.{stop_of, pending_of, FitsOp, Fits}
use Rattle.flat_code.specs.declared.code.FlatFunction.{FlatFunction}
use Rattle.flat_code.specs.Machine.{Machine}
use Rattle.runs.specs.Turn as turn
use Rattle.rank_machine.specs.Placing.{Placing, Standing, act_of, end_in, Turns, IsTurn}
use Rattle.rank_machine.specs.Turning.{turned_in, most_steps}
use Rattle.turn_bounds.specs.Settled.{IsSettled}
use Rattle.turn_bounds.specs.Spaced.{IsSpaced, HasCells}
use Rattle.turn_bounds.proofs.Takes.{turn_taken}
use Rattle.rank_image.specs.Rank as rank
use Rattle.rank_image.specs.Rank.{Rank, Runs, Over, IsWanted, Waits, MayRun, came_to, operation_of}
use Rattle.rank_image.proofs.Standings.{same_standing}
use Rattle.rank_image.specs.Asking.{IsLike, HasAsked, turn_came}

-- ---- a turn

-- what is known of a machine s after a turn that left it as m
pub record HasTurned (limit : ℕ) (s m : Standing) (w : Want) : Type 0 where
  pub few : limit ≤ 4096
  pub sound : MayRun s
  pub functions : m.functions ≡ s.functions
  pub turn : Turns s.functions limit s.placing (act_of w m.placing)
  pub function : turned_in s.functions most_steps limit s.placing ≡ act_of w m.placing
  pub end : m.end ≡ end_in w
  pub left : m.left ≡ None
  pub begun : m.begun ≡ s.begun

pub has_turned : (limit : ℕ) (s m : Standing) (f w : Want) → f ≡ w → limit ≤ 4096 → MayRun s → m.functions ≡ s.functions → (s.end ≡ None → IsTurn s.functions limit s.placing f m.placing) → (s.end ≡ None → turned_in s.functions most_steps limit s.placing ≡ act_of f m.placing) →
    m.end ≡ end_in f → m.left ≡ None → m.begun ≡ s.begun → HasTurned limit s m w
has_turned limit s m f w e few sound functions turn function end left begun =
    subst (λ x. HasTurned limit s m x) e (record { few = few; sound = sound; functions = functions; turn = turn sound.end; function = function sound.end; end = end; left = left; begun = begun })

-- what is to be shown of a rank that goes on
pub record GoesOn (limit : ℕ) (old : Rank) (m : Standing) (w : Want) : Type 0 where
  pub turned : rank.turned limit old ≡ record { machine = Runs m; stop = stop_of w }
  pub fits : Fits (rank.among old) (rank.bytes old) w
  pub pending : operation_of m.placing.machine.asked ≡ pending_of w
  pub among : m.placing.machine.seat.ranks ≡ rank.among old
  pub bytes : m.placing.machine.printed ≡ rank.bytes old
  pub serial : max m.placing.machine.memory.next m.begun ≤ rank.serial old + 2 ^ 25 + 2 ^ 17
  pub sound : MayRun m

abbrev stopped : Want → Standing → Stepped Rank
stopped w x = record { machine = Runs x; stop = stop_of w }

with_placing : (limit : ℕ) (s m : Standing) (w : Want) → HasTurned limit s m w → end_in w ≡ None → record s { placing = m.placing } ≡ m
with_placing limit s m w h e = same_standing (record s { placing = m.placing }) m (sym h.functions) refl (h.sound.end ∙ sym e ∙ sym h.end) (h.sound.left ∙ sym h.left) (sym h.begun)

fits_so : (functions : List FlatFunction) (ranks bytes : ℕ) (m : Machine) (o : Op) → m.seat.ranks ≡ ranks → m.printed ≡ bytes → IsWanted functions m o → FitsOp ranks bytes o
fits_so functions ranks bytes m (op.Send to message) r b h = subst (λ n. to < n) r h
fits_so functions ranks bytes m (op.Receive patterns) r b h = h
fits_so functions ranks bytes m (op.Output text) r b h = subst (λ n. n + length text ≤ 1048576) b h
fits_so functions ranks bytes m op.Mark r b h = tt

waits_so : (functions others : List FlatFunction) (m : Machine) (q : Request) (o : Op) → functions ≡ others → m.asked ≡ Some q → q.operation ≡ o → IsWanted functions m o → Waits others m m.asked
waits_so functions others m q o f a e h =
    subst (λ x. Waits others m x) (sym a) (subst (λ x. IsWanted others m x) (sym e) (subst (λ x. IsWanted x m o) f h))

-- the greater of two, of which one stays
greater : (limit a b c d : ℕ) → limit ≤ 4096 → a ≤ c + ((limit + 1) * 8192 + 65536) → b ≡ d → max a b ≤ max c d + 2 ^ 25 + 2 ^ 17
greater limit a b c d few less same =
    let first = le-max_left c d in
    let second = le-max_right c d in
    max-le (omega (arith, few, less, first)) (omega (arith, same, second))

-- what holds of it while it runs, by what its turn came to
pub sound_so : (s m : Standing) → MayRun s → m.functions ≡ s.functions → m.end ≡ None → m.left ≡ None → IsSettled s.functions m.placing → Waits m.functions m.placing.machine m.placing.machine.asked → MayRun m
sound_so s m before same end left settled waits = record {
  spaced = subst (λ f. IsSpaced f) (sym same) before.spaced;
  cells = subst (λ f. HasCells f) (sym same) before.cells;
  settled = subst (λ f. IsSettled f m.placing) (sym same) settled;
  end = end;
  left = left;
  waits = waits;
}

goes_on : (limit : ℕ) (s m : Standing) (w : Want) → end_in w ≡ None → HasTurned limit s m w → GoesOn limit (Runs s) m w
goes_on limit s m want.Paused e h =
    let came = turn_came s.functions limit s.placing (turn.Goes m.placing) h.sound.waits h.turn in
    let taken = turn_taken s.functions h.sound.spaced h.sound.cells limit s.placing (turn.Goes m.placing) h.sound.settled h.turn in
    record {
      turned = ap (came_to s) h.function ∙ ap (stopped want.Paused) (with_placing limit s m want.Paused h refl);
      fits = tt;
      pending = ap operation_of came.1;
      among = ap (λ (x : Seat). x.ranks) came.0.seat;
      bytes = came.0.printed;
      serial = greater limit m.placing.machine.memory.next m.begun s.placing.machine.memory.next s.begun h.few taken.1 h.begun;
      sound = sound_so s m h.sound h.functions h.end h.left taken.0 (subst (λ x. Waits m.functions m.placing.machine x) (sym came.1) tt);
    }
goes_on limit s m (want.Wants o) e h =
    let came = turn_came s.functions limit s.placing (turn.Asks o m.placing) h.sound.waits h.turn in
    let taken = turn_taken s.functions h.sound.spaced h.sound.cells limit s.placing (turn.Asks o m.placing) h.sound.settled h.turn in
    record {
      turned = ap (came_to s) h.function ∙ ap (stopped (want.Wants o)) (with_placing limit s m (want.Wants o) h refl);
      fits = fits_so s.functions s.placing.machine.seat.ranks s.placing.machine.printed m.placing.machine o (ap (λ (x : Seat). x.ranks) came.0.seat) came.0.printed came.2;
      pending = ap operation_of came.1.asked ∙ ap (λ (x : Op). Some x) came.1.operation;
      among = ap (λ (x : Seat). x.ranks) came.0.seat;
      bytes = came.0.printed;
      serial = greater limit m.placing.machine.memory.next m.begun s.placing.machine.memory.next s.begun h.few taken.1 h.begun;
      sound = sound_so s m h.sound h.functions h.end h.left taken.0 (waits_so s.functions m.functions m.placing.machine came.1.request o (sym h.functions) came.1.asked came.1.operation came.2);
    }
goes_on limit s m (want.Ended x) e h = absurd cc

pub goes_from : (limit : ℕ) (old : Rank) (s m : Standing) (w : Want) → Runs s ≡ old → end_in w ≡ None → HasTurned limit s m w → GoesOn limit old m w
goes_from limit old s m w same e h = subst (λ r. GoesOn limit r m w) same (goes_on limit s m w e h)

-- or ends
pub record IsOver (limit : ℕ) (old : Rank) (e : End) (ranks out : ℕ) : Type 0 where
  pub turned : rank.turned limit old ≡ record { machine = Over e ranks out; stop = Asks asks.Ended }
  pub among : ranks ≡ rank.among old
  pub bytes : out ≡ rank.bytes old

pub ends_from : (limit : ℕ) (old : Rank) (s m : Standing) (e : End) (ranks out : ℕ) → Runs s ≡ old → ranks ≡ s.placing.machine.seat.ranks → out ≡ s.placing.machine.printed → HasTurned limit s m (want.Ended e) → IsOver limit old e ranks out
ends_from limit old s m e ranks out same n b h =
    let over : IsOver limit (Runs s) e s.placing.machine.seat.ranks s.placing.machine.printed = record { turned = ap (came_to s) h.function; among = refl; bytes = refl } in
    subst (λ r. IsOver limit r e ranks out) same (subst (λ k. IsOver limit (Runs s) e k out) (sym n) (subst (λ k. IsOver limit (Runs s) e s.placing.machine.seat.ranks k) (sym b) over))
