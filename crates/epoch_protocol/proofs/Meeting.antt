-- How an arrival is met, and counted.
use Rattle.std.proofs.Common.{◌≡◌, ℕ, Bool, true, false, not, ◌&&◌, cond, eqb, ltb, refl, arith}
use Rattle.std.proofs.lemmas.Bool.{eqb-true, le-ltb}
use Rattle.mpi_words.specs.declared.label.Label.{Label}
use Rattle.core_laws.specs.Protocol.{Layer, class_of}
use Rattle.core_laws.specs.Protocol as protocol
use Rattle.epoch_protocol.specs.declared.answers.Class.TheVariants as class
use Rattle.epoch_protocol.specs.Layers.{named, met_as, counted_as}

-- the counts see its class alone
pub counted : (l : Layer) (x : Label) → counted_as (met_as l x) ≡ class_of l.epoch x.epoch
counted l x = by (l.logging && (eqb x.epoch l.epoch && not x.logging)) (ltb x.epoch l.epoch) (eqb x.epoch l.epoch) (λ h. stopping l.logging (eqb x.epoch l.epoch) x.logging h) (λ h. not_less x.epoch l.epoch h)
  where
    plain : (c : protocol.Class) → counted_as (named c) ≡ c
    plain protocol.Late = refl
    plain protocol.Intra = refl
    plain protocol.Early = refl

    stopping : (a e b : Bool) → (a && (e && not b)) ≡ true → e ≡ true
    stopping true true b h = refl
    stopping true false b h = cc
    stopping false e b h = cc

    not_less : (a b : ℕ) → eqb a b ≡ true → ltb a b ≡ false
    not_less a b h = le-ltb a b (let e : a ≡ b = eqb-true a b h in omega arith)

    by : (s t e : Bool) → (s ≡ true → e ≡ true) → (e ≡ true → t ≡ false) → counted_as (cond s class.IntraAndStopped (named (cond t protocol.Late (cond e protocol.Intra protocol.Early)))) ≡ cond t protocol.Late (cond e protocol.Intra protocol.Early)
    by false t e h g = plain (cond t protocol.Late (cond e protocol.Intra protocol.Early))
    by true t e h g = rw (h refl, g (h refl)) refl
