-- How a run of calls goes on.
use Rattle.std.proofs.Common.{◌≡◌, ◌≢◌, inl, inr, ⊎_elim, ℕ, ◌<◌, true, false, ◌==◌, if◌then◌else◌, List, refl, sym, ◌∙◌, ap, subst, arith, eq-eqb, eqb-true}
use Rattle.std.proofs.lemmas.Bool.{true≢false, cases_eq}
use Rattle.disk_model.specs.Disk.{Contents, View, IsView, Leaves, Elapses, Steps, Same}
use Rattle.disk_model.specs.Runs.{LeavesOnly, DiffersIn, Touches, Keeps}

-- before the first call
pub started : (v : View) (P : Contents → Type 0) → {n : ℕ} → IsView n v → ((c : Contents) → Leaves v c → P c) → LeavesOnly v v P
started v P is here = record { files = refl; later = omega arith; each = λ c left. here c (is.only_now c left); before = λ t c le left. inl left }

-- one call more, after which a stop leaves what has P
pub goes_on : (old mid new : View) (P : Contents → Type 0) → LeavesOnly old mid P → Elapses mid new → ((c : Contents) → Leaves new c → P c) → LeavesOnly old new P
goes_on old mid new P so_far time here = record {
  files = time.files ∙ so_far.files;
  later = omega (arith, so_far.later, time.later);
  each = λ c left. ⊎_elim (so_far.each c) (here c) (time.nothing_else old.moment c so_far.later left);
  before = λ t c le left. ⊎_elim (λ was. so_far.before t c le was) (λ now. inr (here c now)) (time.nothing_else t c (omega (arith, le, so_far.later)) left);
}

-- a run after another
pub and_then : (old mid new : View) (P : Contents → Type 0) → LeavesOnly old mid P → LeavesOnly mid new P → LeavesOnly old new P
and_then old mid new P first next = record {
  files = next.files ∙ first.files;
  later = omega (arith, first.later, next.later);
  each = λ c left. ⊎_elim (first.each c) (λ p. p) (next.before old.moment c first.later left);
  before = λ t c le left. ⊎_elim (λ was. first.before t c le was) (λ p. inr p) (next.before t c (omega (arith, le, first.later)) left);
}

pub weaker : (old new : View) (P Q : Contents → Type 0) → ((c : Contents) → P c → Q c) → LeavesOnly old new P → LeavesOnly old new Q
weaker old new P Q gives run = record {
  files = run.files;
  later = run.later;
  each = λ c left. gives c (run.each c left);
  before = λ t c le left. ⊎_elim (λ was. inl was) (λ p. inr (gives c p)) (run.before t c le left);
}

-- what a stop now may leave is left at a moment of the run
pub left_now : (old new : View) (P : Contents → Type 0) → {n : ℕ} → IsView n new → LeavesOnly old new P → (c : Contents) → Leaves new c → P c
left_now old new P is run c left = run.each c (is.counts_now old.moment c run.later left)

-- the contents with other bytes in one file
abbrev pub put : Contents → ℕ → List ℕ → Contents
put c file bytes g = if g == file then bytes else c g

pub put_here : (c : Contents) (file : ℕ) (bytes : List ℕ) → put c file bytes file ≡ bytes
put_here c file bytes = rw (eq-eqb file file refl) refl

pub put_else : (c : Contents) (file : ℕ) (bytes : List ℕ) (g : ℕ) → g ≢ file → put c file bytes g ≡ c g
put_else c file bytes g other = elim (g == file) as (λ b. (g == file) ≡ b → (if b then bytes else c g) ≡ c g) [
  | true ↦ λ is. absurd (other (eqb-true g file is))
  | false ↦ λ is. refl
] refl

-- The content from which a step came: the file is as it may have been before it.
pub stepped_from : (file : ℕ) (step : List ℕ → List ℕ → Type 0) (old new : View) → file < old.files → Steps file step old new → (c : Contents) → Leaves new c
    → (b : List ℕ) × step b (c file) × old.may_leave file b × Leaves old (put c file b)
stepped_from file step old new is_file steps c left =
    let from = steps.left (c file) (left file (subst (λ n. file < n) (sym steps.time.files) is_file)) in (
      from.0,
      from.2,
      from.1,
      λ f lt. elim (f == file) as (λ b. (f == file) ≡ b → old.may_leave f (if b then from.0 else c f)) [
        | true ↦ λ is. subst (λ g. old.may_leave g from.0) (sym (eqb-true f file is)) from.1
        | false ↦ λ is. steps.others_left f (c f) (λ same. absurd (wrong f file same is)) (left f (subst (λ n. f < n) (sym steps.time.files) lt))
      ] refl,
    )
  where
    wrong : (f g : ℕ) → f ≡ g → (f == g) ≡ false → ⊥
    wrong f g same is = true≢false (sym (eq-eqb f g same) ∙ is)

-- a call that changes no bytes adds nothing to what a stop may leave
pub kept_leaves : (file : ℕ) (old new : View) → Steps file Same old new → (c : Contents) → Leaves new c → Leaves old c
kept_leaves file old new steps c left f lt = elim (f == file) as (λ b. (f == file) ≡ b → old.may_leave f (c f)) [
  | true ↦ λ is.
      let same : f ≡ file = eqb-true f file is in
      let from = steps.left (c file) (subst (λ g. new.may_leave g (c g)) same (left f (subst (λ n. f < n) (sym steps.time.files) lt))) in
      subst (λ g. old.may_leave g (c g)) (sym same) (subst (λ b. old.may_leave file b) (sym from.2) from.1)
  | false ↦ λ is. steps.others_left f (c f) (λ same. true≢false (sym (eq-eqb f file same) ∙ is)) (left f (subst (λ n. f < n) (sym steps.time.files) lt))
] refl

-- what may be left of a file after such a call
pub kept_left : (file : ℕ) (old new : View) → Steps file Same old new → (b : List ℕ) → new.may_leave file b → old.may_leave file b
kept_left file old new steps b left = let from = steps.left b left in subst (λ x. old.may_leave file x) (sym from.2) from.1

-- no call at all
pub touches_none : (file : ℕ) (R : List ℕ → List ℕ → Type 0) (v : View) → {n : ℕ} → IsView n v → file < n → ((a : List ℕ) → v.may_leave file a → R a a) → Touches file R v v
touches_none file R v is is_file same =
    let lt : file < v.files = omega (arith, is.same_files, is_file) in
    record {
      run = started v (DiffersIn file R v) is (λ c left. record { was = c; left = left; others = λ g other. refl; changed = same (c file) (left file lt) });
      seen = same (v.seen file) (is.seen_left file lt);
      left = λ b left. (b, left, same b left);
      others = λ g other. refl;
      others_left = λ g b other left. left;
    }

-- one more call on the file
pub touches_then : (file : ℕ) (R step : List ℕ → List ℕ → Type 0) (old mid new : View) → {n : ℕ} → IsView n old → file < n → Touches file R old mid → Steps file step mid new
    → ((a b x : List ℕ) → R a b → step b x → R a x) → Touches file R old new
touches_then file R step old mid new is is_file so_far steps goes = record {
  run = goes_on old mid new (DiffersIn file R old) so_far.run steps.time (λ c left.
      let from = here (c file) (left file (omega (arith, same_files, is.same_files, is_file))) in
      record {
        was = put c file from.0;
        left = λ f lt. elim (f == file) as (λ b. (f == file) ≡ b → old.may_leave f (if b then from.0 else c f)) [
          | true ↦ λ same. subst (λ g. old.may_leave g from.0) (sym (eqb-true f file same)) from.1
          | false ↦ λ same.
              let other : f ≢ file = λ e. true≢false (sym (eq-eqb f file e) ∙ same) in
              so_far.others_left f (c f) other (steps.others_left f (c f) other (left f (omega (arith, lt, same_files))))
        ] refl;
        others = λ g other. sym (put_else c file from.0 g other);
        changed = subst (λ a. R a (c file)) (sym (put_here c file from.0)) from.2;
      });
  seen = goes (old.seen file) (mid.seen file) (new.seen file) so_far.seen steps.seen;
  left = here;
  others = λ g other. steps.others g other ∙ so_far.others g other;
  others_left = λ g b other left. so_far.others_left g b other (steps.others_left g b other left);
}
  where
    same_files : new.files ≡ old.files
    same_files = steps.time.files ∙ so_far.run.files

    here : (b : List ℕ) → new.may_leave file b → (a : List ℕ) × old.may_leave file a × R a b
    here b left =
        let last = steps.left b left in
        let first = so_far.left last.0 last.1 in
        (first.0, first.1, goes first.0 last.0 b first.2 last.2)

pub keeps_none : (v : View) → {n : ℕ} → IsView n v → Keeps v v
keeps_none v is = record { run = started v (Leaves v) is (λ c left. left); seen = λ f. refl; left = λ f b left. left }

pub keeps_then : (file : ℕ) (old mid new : View) → Keeps old mid → Steps file Same mid new → Keeps old new
keeps_then file old mid new so_far steps = record {
  run = goes_on old mid new (Leaves old) so_far.run steps.time (λ c left f lt. so_far.left f (c f) (kept_leaves file mid new steps c left f (subst (λ n. f < n) (sym so_far.run.files) lt)));
  seen = λ f. ⊎_elim (λ same. ap new.seen same ∙ steps.seen ∙ ap mid.seen (sym same)) (λ other. steps.others f other) (cases_eq f file) ∙ so_far.seen f;
  left = λ f b left. so_far.left f b (⊎_elim (λ same. subst (λ g. mid.may_leave g b) (sym same) (kept_left file mid new steps b (subst (λ g. new.may_leave g b) same left))) (λ other. steps.others_left f b other left) (cases_eq f file));
}

pub keeps_all : (old mid new : View) → Keeps old mid → Keeps mid new → Keeps old new
keeps_all old mid new first next = record {
  run = and_then old mid new (Leaves old) first.run (weaker mid new (Leaves mid) (Leaves old) (λ c left f lt. first.left f (c f) (left f (subst (λ n. f < n) (sym first.run.files) lt))) next.run);
  seen = λ f. next.seen f ∙ first.seen f;
  left = λ f b left. first.left f b (next.left f b left);
}

-- no change at all
pub steps_none : (file : ℕ) (step : List ℕ → List ℕ → Type 0) (v : View) → ((b : List ℕ) → step b b) → Steps file step v v
steps_none file step v same = record {
  time = record { files = refl; later = omega arith; nothing_else = λ t c le left. inl left; keeps = λ t c le left. left };
  seen = same (v.seen file);
  left = λ b left. (b, left, same b);
  others = λ g other. refl;
  others_left = λ g b other left. left;
}
