-- Maps by the bytes of their names.
use Rattle.std.proofs.Common.{◌≡◌, ℕ, Bool, true, false, List, [], ◌∷◌, length, refl, ap, cond, if◌then◌else◌}
use Rattle.std.proofs.lemmas.List.{length-map}
use Rattle.std.specs.declared.alloc.Global.{Global}
use Rattle.std.specs.Map.{lookup}
use Rattle.std.specs.Str.{bytes_eq}
use Rattle.indexmap.specs.IndexMap.{insert_entry}
use Rattle.std.specs.Prelude.{Option, Some, Vec}
use Rattle.c_rules.specs.Scope.{Bytes, entries}

same_choice : {X : Type 0} (b : Bool) (x : Option X) (y z : Option X) → y ≡ z → cond b x y ≡ cond b x z
same_choice true x y z e = refl
same_choice false x y z e = e

pub lookup_entries : {X : Type 0} (q : Bytes) (es : List (Vec ℕ Global × X)) → lookup (λ k. bytes_eq q k.items) es ≡ lookup (bytes_eq q) (entries es)
lookup_entries q [] = refl
lookup_entries q (e ∷ es) = same_choice (bytes_eq q e.0.items) (Some e.1) _ _ (lookup_entries q es)

entries_choice : {X : Type 0} (b : Bool) (k : Vec ℕ Global) (v : X) (e : Vec ℕ Global × X) (es fs : List (Vec ℕ Global × X)) (gs : List (Bytes × X)) → entries fs ≡ gs
    → entries (if b then (k, v) ∷ es else e ∷ fs) ≡ (if b then (k.items, v) ∷ entries es else (e.0.items, e.1) ∷ gs)
entries_choice true k v e es fs gs p = refl
entries_choice false k v e es fs gs p = ap (λ xs. (e.0.items, e.1) ∷ xs) p

pub insert_entries : {X : Type 0} (es : List (Vec ℕ Global × X)) (k : Vec ℕ Global) (v : X) → entries (insert_entry (λ x y. bytes_eq x.items y.items) es k v) ≡ insert_entry bytes_eq (entries es) k.items v
insert_entries [] k v = refl
insert_entries (e ∷ es) k v = entries_choice (bytes_eq k.items e.0.items) e.0 v e es _ _ (insert_entries es k v)

pub length_entries : {X : Type 0} (es : List (Vec ℕ Global × X)) → length (entries es) ≡ length es
length_entries es = length-map es _
