-- A table of functions, as headers are added.
use Rattle.std.proofs.Common.{◌≡◌, ℕ, Bool, true, false, true≢false, List, [], ◌∷◌, Option, Some, None, refl, ap, sym, subst, ◌∙◌, if◌then◌else◌, unwrap_or}
use Rattle.std.specs.Prelude.{Vec}
use Rattle.std.specs.declared.alloc.Global.{Global}
use Rattle.std.specs.Map.{lookup}
use Rattle.std.specs.Option.{option_or}
use Rattle.std.specs.Str.{bytes_eq}
use Rattle.std.proofs.lemmas.Slice.Eq.{bytes_eq-Decides}
use Rattle.indexmap.specs.IndexMap.{insert_entry}
use Rattle.c_rules.specs.declared.signature.Signature.{Signature}
use Rattle.c_rules.specs.Scope.{Bytes, entries}
use Rattle.c_rules.specs.Table.{called}
use Rattle.c_rules.proofs.Named.{insert_entries, lookup_entries}
use Rattle.c_check.specs.Functions.{joined}

or_same : (a : Option ℕ) → option_or a a ≡ a
or_same None = refl
or_same (Some k) = refl

abbrev numbered : Signature → Option ℕ → Signature
numbered f number = record f { number = number }

-- ---- what is found after a write

other_way : (b : Bool) (k q : Bytes) → bytes_eq k q ≡ false → bytes_eq q k ≡ b → b ≡ false
other_way true k q other same = absurd (true≢false (sym ((bytes_eq-Decides k q).1 (sym ((bytes_eq-Decides q k).0 same))) ∙ other))
other_way false k q other same = refl

module _ {X : Type 0} where
  -- a key that is there, with b what its test says
  held : (b : Bool) (q : Bytes) (v : X) (e : Bytes × X) (es fs : List (Bytes × X)) → bytes_eq q e.0 ≡ b → lookup (bytes_eq q) fs ≡ Some v
      → lookup (bytes_eq q) (if b then (e.0, v) ∷ es else e ∷ fs) ≡ Some v
  held true q v e es fs same rest = rw same
  held false q v e es fs same rest = rw same rest

  lookup_same : (q : Bytes) (v : X) (es : List (Bytes × X)) → lookup (bytes_eq q) (insert_entry bytes_eq es q v) ≡ Some v
  lookup_same q v [] = rw ((bytes_eq-Decides q q).1 refl)
  lookup_same q v (e ∷ es) = held (bytes_eq q e.0) q v e es (insert_entry bytes_eq es q v) refl (lookup_same q v es)

  -- another key
  passed : (b c : Bool) (k q : Bytes) (v : X) (e : Bytes × X) (es fs : List (Bytes × X)) → bytes_eq k q ≡ false → bytes_eq k e.0 ≡ b → bytes_eq q e.0 ≡ c
      → lookup (bytes_eq q) fs ≡ lookup (bytes_eq q) es
      → lookup (bytes_eq q) (if b then (e.0, v) ∷ es else e ∷ fs) ≡ lookup (bytes_eq q) (e ∷ es)
  passed true true k q v e es fs other kept same rest =
      absurd (true≢false (sym ((bytes_eq-Decides k q).1 ((bytes_eq-Decides k e.0).0 kept ∙ sym ((bytes_eq-Decides q e.0).0 same))) ∙ other))
  passed true false k q v e es fs other kept same rest = rw same
  passed false true k q v e es fs other kept same rest = rw same
  passed false false k q v e es fs other kept same rest = rw same rest

  lookup_other : (k q : Bytes) (v : X) (es : List (Bytes × X)) → bytes_eq k q ≡ false → lookup (bytes_eq q) (insert_entry bytes_eq es k v) ≡ lookup (bytes_eq q) es
  lookup_other k q v [] other = rw (other_way (bytes_eq q k) k q other refl)
  lookup_other k q v (e ∷ es) other =
      passed (bytes_eq k e.0) (bytes_eq q e.0) k q v e es (insert_entry bytes_eq es k v) other refl refl (lookup_other k q v es other)

-- ---- a header's entry

module _ (es fs : List (Vec ℕ Global × Signature)) (k : Vec ℕ Global) (g f : Signature) (n : Option ℕ)
    (written : fs ≡ insert_entry (λ x y. bytes_eq x.items y.items) es k (record f { number = n }))
    (first : f ≡ unwrap_or (lookup (λ x. bytes_eq k.items x.items) es) g)
    (number : n ≡ option_or f.number g.number) where
  abbrev whole : Signature
  whole = numbered f n

  called_written : (q : Bytes) → called fs q ≡ lookup (bytes_eq q) (insert_entry bytes_eq (entries es) k.items whole)
  called_written q = ap (λ xs. lookup (bytes_eq q) (entries xs)) written ∙ ap (lookup (bytes_eq q)) (insert_entries es k whole)

  one : (a : Option Signature) → Some (numbered (unwrap_or a g) (option_or (unwrap_or a g).number g.number)) ≡ joined a (Some g)
  one None = ap (λ n. Some (numbered g n)) (or_same g.number)
  one (Some h) = refl

  value : Some whole ≡ joined (called es k.items) (Some g)
  value =
      ap (λ n. Some (numbered f n)) number
      ∙ ap (λ f. Some (numbered f (option_or f.number g.number))) first
      ∙ one (lookup (λ x. bytes_eq k.items x.items) es)
      ∙ ap (λ a. joined a (Some g)) (lookup_entries k.items es)

  none : (a : Option Signature) → a ≡ joined a None
  none None = refl
  none (Some h) = refl

  by : (b : Bool) (q : Bytes) → bytes_eq k.items q ≡ b → called fs q ≡ joined (called es q) (if b then Some g else None)
  by true q same =
      subst (λ q. called fs q ≡ joined (called es q) (Some g)) ((bytes_eq-Decides k.items q).0 same)
      (called_written k.items ∙ lookup_same k.items whole (entries es) ∙ value)
  by false q other = called_written q ∙ lookup_other k.items q whole (entries es) other ∙ none (called es q)

  pub called_joined : (q : Bytes) → called fs q ≡ joined (called es q) (if bytes_eq k.items q then Some g else None)
  called_joined q = by (bytes_eq k.items q) q refl
