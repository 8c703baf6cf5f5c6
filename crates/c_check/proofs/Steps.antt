-- What is told of a whole, by what is told of its parts.
use Rattle.std.proofs.Common.{◌≡◌, ◌++◌, ◌∙◌, List, Option, Result, option_map, refl, ap, subst, append_assoc, IfOk}
use Rattle.std.proofs.lemmas.Result.{IfOk-weaker}
use Rattle.c_kernel.specs.declared.program.Action.{Action}
use Rattle.c_kernel.specs.declared.program.Expr.{Expr as Term}
use Rattle.c_kernel.specs.declared.program.Stmt.{Stmt as Typed}
use Rattle.c_kernel.specs.declared.program.Stmt.TheVariants as typed
use Rattle.c_rules.specs.declared.found.Found.{Found}
use Rattle.c_rules.specs.declared.scope.Scope.{Scope as Blocks}
use Rattle.c_rules.specs.Judged.{Judged, after, both, pair_of}
use Rattle.c_rules.specs.Scope.{Scope, scope_of, enter, leave}
use Rattle.c_rules.proofs.Gathered.{joined}
use Rattle.c_check.specs.declared.judge.Judge.{Judge}
use Rattle.c_check.specs.declared.walker.Walker.{Walker}
use Rattle.c_check.specs.Expression.{choice_of, whole_choice}
use Rattle.c_check.specs.Statement.{Walk, Walked, staying, scoped, seen_as, listed, one}
use Rattle.c_check.specs.Told.{Tells, Leads, Walks}
use Rattle.c_check.proofs.Bodies.{noted}
use Rattle.c_check.proofs.Nodes.{choice_noted}

-- ---- the same in other words

pub told_same : {A E : Type 0} (r : Result (Option A) E) (before now : Judge) (j k : Judged A) → j ≡ k
    → IfOk r (λ found. Tells before now found j) → IfOk r (λ found. Tells before now found k)
told_same r before now j k e h = subst (λ i. IfOk r (λ found. Tells before now found i)) e h

pub led_same : {A E : Type 0} (r : Result (Option A) E) (before now : Walker) (v w : Walked A) → v ≡ w
    → IfOk r (λ found. Leads before now found v) → IfOk r (λ found. Leads before now found w)
led_same r before now v w e h = subst (λ u. IfOk r (λ found. Leads before now found u)) e h

-- what leaves the names as they are
pub led_staying : {A E : Type 0} (r : Result (Option A) E) (before : Walker) (now : Judge) (j : Judged A)
    → IfOk r (λ found. Tells before.judge now found j)
    → IfOk r (λ found. Leads before (record { judge = now; scope = before.scope }) found (staying j (scope_of before.scope)))
led_staying r before now j h = IfOk-weaker r _ _ (λ found t. record { found = t.found; breaches = t.breaches; scope = refl; around = refl }) h

-- ---- one part, and then the rest that goes on from it

pub told_then : {A B : Type 0} (before mid now : Judge) (part : Judged A) (a : Option A) (rest : Option A → Judged B) (found : Option B)
    → Tells before mid a part → Tells mid now found (rest a) → Tells before now found (after part.breaches (rest part.found))
told_then before mid now part a rest found h k = record {
  found = k.found ∙ ap (λ o. (rest o).found) h.found;
  breaches =
      k.breaches
      ∙ ap (λ o. mid.breaches.items ++ (rest o).breaches) h.found
      ∙ ap (λ fs. fs ++ (rest part.found).breaches) h.breaches
      ∙ append_assoc before.breaches.items part.breaches (rest part.found).breaches;
}

pub told_after : {A B E : Type 0} (r : Result (Option B) E) (before mid now : Judge) (part : Judged A) (a : Option A) (rest : Option A → Judged B)
    → Tells before mid a part → IfOk r (λ found. Tells mid now found (rest a)) → IfOk r (λ found. Tells before now found (after part.breaches (rest part.found)))
told_after r before mid now part a rest h k = IfOk-weaker r _ _ (λ found t. told_then before mid now part a rest found h t) k

-- three parts in order, and then their choice
pub told_choice : {E : Type 0} (r : Result (Option Found) E) (before first second third now : Judge) (c a b : Judged Found) (c' a' b' : Option Found)
    → Tells before first c' c → Tells first second a' a → Tells second third b' b → IfOk r (λ found. Tells third now found (choice_of c' a' b'))
    → IfOk r (λ found. Tells before now found (whole_choice c a b))
told_choice r before first second third now c a b c' a' b' of_c of_a of_b h =
    IfOk-weaker r _ _ (λ found t. record {
      found =
          t.found
          ∙ ap (λ x. (choice_of x a' b').found) of_c.found
          ∙ ap (λ x. (choice_of c.found x b').found) of_a.found
          ∙ ap (λ x. (choice_of c.found a.found x).found) of_b.found;
      breaches =
          choice_noted c a b c' a' b' before.breaches.items first.breaches.items second.breaches.items third.breaches.items now.breaches.items
          of_c.found of_a.found of_b.found of_c.breaches of_a.breaches of_b.breaches t.breaches;
    }) h

-- ---- loops

-- what is gathered so far and what is left are the whole
abbrev pub Goes : {A : Type 0} → Judge → Judge → Option (List A) → Judged (List A) → Judged (List A) → Type 0
Goes before now found rest whole = record {
  found : joined found rest.found ≡ whole.found;
  breaches : now.breaches.items ++ rest.breaches ≡ before.breaches.items ++ whole.breaches;
}

-- and the names in scope are those that the rest begins with
abbrev pub Leaves : {A : Type 0} → Walker → Walker → Option (List A) → Walk (List A) → Walk (List A) → Type 0
Leaves before now found rest whole =
    let last = rest (scope_of now.scope) in
    let all = whole (scope_of before.scope) in
    record {
      found : joined found last.judged.found ≡ all.judged.found;
      breaches : now.judge.breaches.items ++ last.judged.breaches ≡ before.judge.breaches.items ++ all.judged.breaches;
      scope : last.scope ≡ all.scope;
      around : (scope_of now.scope).around ≡ (scope_of before.scope).around;
    }

-- ---- a scope is left as it was entered

pub led_scoped : {A : Type 0} (j k : Judge) (outside entered inside left : Blocks) (w : Walk A) (found : Option A)
    → scope_of entered ≡ enter (scope_of outside)
    → Walks (record { judge = j; scope = entered }) (record { judge = k; scope = inside }) found w
    → ((s : Scope) → (scope_of inside).around ≡ (enter s).around → scope_of left ≡ leave s (scope_of inside))
    → Walks (record { judge = j; scope = outside }) (record { judge = k; scope = left }) found (scoped w)
led_scoped j k outside entered inside left w found e h out =
    let before = scope_of outside in
    let back = out before (h.around ∙ ap (λ (s : Scope). s.around) e) in
    record {
      found = h.found ∙ ap (λ (s : Scope). (w s).judged.found) e;
      breaches = h.breaches ∙ ap (λ (s : Scope). j.breaches.items ++ (w s).judged.breaches) e;
      scope = back ∙ ap (λ (s : Scope). leave before s) (h.scope ∙ ap (λ (s : Scope). (w s).scope) e);
      around = ap (λ (s : Scope). s.around) back;
    }

-- ---- the parts of a for

abbrev for_of : (List Action × Option Term) × (Option Action × Typed) → Typed
for_of p = typed.For p.0.0 p.0.1 (listed p.1.0) (one p.1.1)

pub led_for : {E : Type 0} (r : Result (Option Typed) E) (before first now : Walker) (second third : Judge)
    (head : Walked (List Action)) (test : Scope → Judged (Option Term)) (step : Scope → Judged (Option Action)) (body : Walk Typed)
    (i : Option (List Action)) (c : Option (Option Term)) (n : Option (Option Action)) (x : Option Typed)
    → Leads before first i head
    → Tells first.judge second c (test (scope_of first.scope))
    → Tells second third n (step (scope_of first.scope))
    → Walks (record { judge = third; scope = first.scope }) now x body
    → IfOk r (λ found. found ≡ option_map for_of (both (both i c) (both n x)))
    → IfOk r (λ found. Leads before now found (record { judged = seen_as for_of (pair_of (pair_of head.judged (test head.scope)) (pair_of (step head.scope) (body head.scope).judged)); scope = (body head.scope).scope }))
led_for r before first now second third head test step body i c n x of_head of_test of_step of_body h =
    let s = scope_of first.scope in
    subst (λ (u : Scope). IfOk r (λ found. Leads before now found (record { judged = seen_as for_of (pair_of (pair_of head.judged (test u)) (pair_of (step u) (body u).judged)); scope = (body u).scope }))) of_head.scope
    (IfOk-weaker r _ _ (λ found e. record {
      found =
          e
          ∙ ap (λ o. option_map for_of (both (both o c) (both n x))) of_head.found
          ∙ ap (λ o. option_map for_of (both (both head.judged.found o) (both n x))) of_test.found
          ∙ ap (λ o. option_map for_of (both (both head.judged.found (test s).found) (both o x))) of_step.found
          ∙ ap (λ o. option_map for_of (both (both head.judged.found (test s).found) (both (step s).found o))) of_body.found;
      breaches =
          noted before.judge.breaches.items head.judged.breaches (test s).breaches (step s).breaches (body s).judged.breaches
          first.judge.breaches.items second.breaches.items third.breaches.items now.judge.breaches.items
          of_head.breaches of_test.breaches of_step.breaches of_body.breaches;
      scope = of_body.scope;
      around = of_body.around ∙ of_head.around;
    }) h)
