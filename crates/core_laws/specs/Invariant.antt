-- What every move of the protocol keeps, by pairs of ranks and by ranks.
use Rattle.std.specs.Prelude.{◌≡◌, ℕ, suc, ◌+◌, ◌<◌, ◌≤◌, Bool, true, false, not, ◌&&◌, List, [], ◌∷◌, Option, ◌==◌, nat_lt, if◌then◌else◌, ◌-◌, IfSome, is_some}
use Rattle.std.specs.List.{AllByRecursion}
use Rattle.mpi_words.specs.declared.control.Control.{Control}
use Rattle.mpi_words.specs.declared.control.Control.TheVariants.{Request, Count, Ready, Stop, Stopped, Restored}
use Rattle.core_laws.specs.Protocol.{Packet, Layer, Wave, Protocol}
use Rattle.core_laws.specs.Says.{Says}

abbrev pub bit : Bool → ℕ
bit true = 1
bit false = 0

-- how many messages of this epoch are on the channel
abbrev pub on_channel : ℕ → List Packet → ℕ
on_channel e [] = 0
on_channel e (p ∷ q) = (if p.1.epoch == e then 1 else 0) + on_channel e q

-- the kinds of controls, by number
abbrev pub kind_of : Control → ℕ
kind_of (Request l) = 0
kind_of (Count l k) = 1
kind_of (Ready l) = 2
kind_of (Stop l) = 3
kind_of (Stopped l) = 4
kind_of Restored = 5

-- how many controls of one kind are on the channel
abbrev pub many : ℕ → List Control → ℕ
many kind [] = 0
many kind (x ∷ c) = if kind_of x == kind then 1 + many kind c else many kind c

abbrev pub requests_on : List Control → ℕ
requests_on = many 0

abbrev pub counts_on : List Control → ℕ
counts_on = many 1

abbrev pub readies_on : List Control → ℕ
readies_on = many 2

abbrev pub stoppeds_on : List Control → ℕ
stoppeds_on = many 4

abbrev pub tells_on : List Control → ℕ
tells_on = many 5

-- each Count on the way says k
abbrev pub CountsSay : ℕ → List Control → Type 0
CountsSay k [] = Unit {0}
CountsSay k (Count l j ∷ c) = (j ≡ k) × CountsSay k c
CountsSay k (Request l ∷ c) = CountsSay k c
CountsSay k (Ready l ∷ c) = CountsSay k c
CountsSay k (Stop l ∷ c) = CountsSay k c
CountsSay k (Stopped l ∷ c) = CountsSay k c
CountsSay k (Restored ∷ c) = CountsSay k c

-- a rank that was asked in this wave, or has saved in it, handles no Stop before all are ready
abbrev pub Timely : Bool → Bool → List Control → Type 0
Timely all_ready asked [] = Unit {0}
Timely all_ready asked (Request l ∷ c) = Timely all_ready true c
Timely all_ready true (Stop l ∷ c) = (all_ready ≡ true) × Timely all_ready true c
Timely all_ready false (Stop l ∷ c) = Timely all_ready false c
Timely all_ready asked (Count l k ∷ c) = Timely all_ready asked c
Timely all_ready asked (Ready l ∷ c) = Timely all_ready asked c
Timely all_ready asked (Stopped l ∷ c) = Timely all_ready asked c
Timely all_ready asked (Restored ∷ c) = Timely all_ready asked c

-- what a layer has of its sends to one rank, and of its arrivals from one rank
pub record Out : Type 0 where
  pub epoch : ℕ
  pub logging : Bool
  pub sent : ℕ
  pub skip : ℕ

pub record In : Type 0 where
  pub epoch : ℕ
  pub was_ready : Bool
  pub got : ℕ
  pub old : ℕ
  pub early : ℕ
  pub told : Option ℕ

abbrev pub out_of : Layer → ℕ → Out
out_of l r = record { epoch = l.epoch; logging = l.logging; sent = l.sent r; skip = l.skip r }

abbrev pub in_of : Layer → ℕ → In
in_of l s = record { epoch = l.epoch; was_ready = l.was_ready; got = l.got s; old = l.old s; early = l.early s; told = l.told s }

-- how many messages of epoch e have arrived, and how many with those on the channel
abbrev pub arrived : In → ℕ → ℕ
arrived i e = if nat_lt e i.epoch then i.old else (if e == i.epoch then i.got else i.early)

abbrev pub total : In → ℕ → List Packet → ℕ
total i e q = arrived i e + on_channel e q

-- one ordered pair of ranks, at line L
pub record PairKept (L : ℕ) (o : Out) (i : In) (q : List Packet) (c : List Control) : Type 0 where
  pub sender : (L ≤ o.epoch) × (o.epoch ≤ suc L)
  pub receiver : (L ≤ i.epoch) × (i.epoch ≤ suc L)
  -- the epochs on the channel
  pub epochs : AllByRecursion (λ p. (L ≤ p.1.epoch) × (p.1.epoch ≤ o.epoch)) q
  -- counts of one epoch
  pub sent : o.sent + o.skip ≡ total i o.epoch q
  pub none_yet : o.epoch ≡ L → total i (suc L) q ≡ 0
  pub no_early : i.epoch ≡ suc L → i.early ≡ 0
  -- told counts
  pub say : o.epoch ≡ suc L → CountsSay (total i L q) c
  pub told : o.epoch ≡ suc L → IfSome i.told (λ k. k ≡ total i L q)
  pub untold : o.epoch ≡ L → counts_on c + bit (is_some i.told) ≡ 0
  pub told_once : o.epoch ≡ suc L → counts_on c + bit (is_some i.told) + bit ((i.epoch == suc L) && i.was_ready) ≡ 1
  -- ready
  pub ready : i.epoch ≡ suc L → i.was_ready ≡ true → (o.epoch ≡ suc L) × (on_channel L q ≡ 0)
  -- flags
  pub flags : AllByRecursion (λ p. p.1.epoch ≡ suc L → p.1.logging ≡ false → o.logging ≡ false) q

-- one rank by itself, at line L
pub record RankKept (L : ℕ) (under_way stop_told : Bool) (epoch : ℕ) (logging was_ready : Bool) : Type 0 where
  pub least : L ≤ epoch
  pub most : epoch ≤ L + bit under_way
  pub idle : epoch ≡ L → logging ≡ false
  pub all_ready : stop_told ≡ true → (epoch ≡ suc L) × (was_ready ≡ true)
  pub stopped : epoch ≡ suc L → logging ≡ false → stop_told ≡ true

-- the control channel from rank 0 to it
pub record DownKept (L : ℕ) (under_way stop_told : Bool) (epoch : ℕ) (asked : Bool) (c : List Control) : Type 0 where
  pub request : requests_on c + bit asked + (epoch - L) ≡ bit under_way
  pub timely : Timely stop_told asked c
  pub saved : epoch ≡ suc L → Timely stop_told true c

-- the control channel from it to rank 0, and what rank 0 noted
pub record UpKept (L : ℕ) (noted_ready noted_stopped : Bool) (epoch : ℕ) (logging was_ready : Bool) (c : List Control) : Type 0 where
  pub readies : readies_on c + bit noted_ready ≡ bit ((epoch == suc L) && was_ready)
  pub stoppeds : stoppeds_on c + bit noted_stopped ≡ bit ((epoch == suc L) && not logging)

abbrev pub rank_kept : Wave → Layer → Type 0
rank_kept w l = RankKept w.line w.under_way w.stop_told l.epoch l.logging l.was_ready

abbrev pub down_kept : Wave → Layer → List Control → Type 0
down_kept w l c = DownKept w.line w.under_way w.stop_told l.epoch l.asked c

abbrev pub up_kept : Wave → Bool → Bool → Layer → List Control → Type 0
up_kept w ready stopped l c = UpKept w.line ready stopped l.epoch l.logging l.was_ready c

pub record Kept (n : ℕ) (p : Protocol) : Type 0 where
  pub rank : (r : ℕ) → r < n → rank_kept p.wave (p.layer r)
  pub down : (r : ℕ) → r < n → down_kept p.wave (p.layer r) (p.control 0 r)
  pub up : (r : ℕ) → r < n → up_kept p.wave (p.wave.ready r) (p.wave.stopped r) (p.layer r) (p.control r 0)
  pub pair : (s r : ℕ) → s < n → r < n → PairKept p.wave.line (out_of (p.layer s) r) (in_of (p.layer r) s) (p.channel s r) (p.control s r)
  -- in a wave nothing is left out
  pub skips : p.wave.under_way ≡ true → (s r : ℕ) → s < n → r < n → (p.layer s).skip r ≡ 0
  -- Stop is told only when each rank's Ready was noted
  pub noted : p.wave.stop_told ≡ true → (r : ℕ) → r < n → p.wave.ready r ≡ true

-- which controls go from s to r
abbrev pub Allowed : ℕ → ℕ → Control → Type 0
Allowed s r (Request l) = s ≡ 0
Allowed s r (Stop l) = s ≡ 0
Allowed s r (Ready l) = r ≡ 0
Allowed s r (Stopped l) = r ≡ 0
Allowed s r (Count l k) = Unit {0}
Allowed s r Restored = r ≡ 0

pub record Invariant (n : ℕ) (p : Protocol) : Type 0 where
  pub kept : Kept n p
  pub origins : (s r : ℕ) → AllByRecursion (Allowed s r) (p.control s r)
  pub says : Says n p
