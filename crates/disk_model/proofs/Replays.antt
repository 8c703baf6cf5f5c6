-- One more change in the list of a disk.
use Rattle.std.proofs.Common.{◌≡◌, ◌≢◌, inl, inr, ⊎_elim, ℕ, ◌≤◌, Bool, true, false, ◌==◌, if◌then◌else◌, List, [], ◌∷◌, ◌++◌, length, take, refl, sym, ◌∙◌, ap, subst, arith, eq-eqb, eqb-true}
use Rattle.std.proofs.lemmas.List.{take-take, length-take, take_all, take-append-le, length_push}
use Rattle.std.proofs.lemmas.Bool.{cases_lt, false_from_ne_true}
use Rattle.disk_model.specs.Disk.{IsStable, Leaves, Elapses, Steps, Torn, Cut, Same, Holds}
use Rattle.disk_model.specs.declared.calls.Choice.{Choice}
use Rattle.disk_model.specs.Files.{Change, Writes, Cuts, Syncs, Stops, FileState, MayLeave, left_by, at_rest, on_file, is_on, after, replay, files_after, view_of}
use Rattle.disk_model.specs.Sound.{all-sound, written-torn}
use Rattle.disk_model.proofs.States.{write-left, cut-left, at_rest-only, left_by-left}

replay-push : (changes : List Change) (change : Change) (s : ℕ → FileState) (f : ℕ) → replay (changes ++ change ∷ []) s f ≡ after change (replay changes s) f
replay-push [] change s f = refl
replay-push (c ∷ changes) change s f = replay-push changes change (after c s) f

-- the files after one more
pub pushed : (changes : List Change) (change : Change) (f : ℕ) → files_after (changes ++ change ∷ []) f ≡ after change (files_after changes) f
pushed changes change f = replay-push changes change (λ g. at_rest []) f

other_file : (f file : ℕ) → f ≢ file → (f == file) ≡ false
other_file f file other = false_from_ne_true (f == file) (λ is. other (eqb-true f file is))

-- the same changes, at another moment that is none
pub steps_none : (changes : List Change) (file : ℕ) → Steps file Same (view_of changes) (view_of changes)
steps_none changes file = record {
  time = record { files = refl; later = omega arith; nothing_else = λ t c le was. inl was; keeps = λ t c le was. was };
  seen = refl;
  left = λ b may. (b, may, refl);
  others = λ g other. refl;
  others_left = λ g b other may. may;
}

module _ (changes : List Change) where
  module _ (change : Change) where
    abbrev more : List Change
    more = changes ++ change ∷ []

    pub elapses : Elapses (view_of changes) (view_of more)
    elapses = record {
      files = refl;
      later = omega (arith, length_push changes change);
      nothing_else = λ t c le was. ⊎_elim
          (λ lt. inr (λ f small. subst (λ (l : List Change). MayLeave (files_after l f) (c f)) (take_all was.moment more (omega (arith, lt, length_push changes change))) (was.left f small)))
          (λ early. inl (record {
            moment = was.moment;
            later = was.later;
            within = early;
            left = λ f small. subst (λ (l : List Change). MayLeave (files_after l f) (c f)) (take-append-le was.moment changes (change ∷ []) early) (was.left f small);
          }))
          (cases_lt (length changes) was.moment);
      keeps = λ t c le was. record {
        moment = was.moment;
        later = was.later;
        within = omega (arith, was.within, length_push changes change);
        left = λ f small. subst (λ (l : List Change). MayLeave (files_after l f) (c f)) (sym (take-append-le was.moment changes (change ∷ []) was.within)) (was.left f small);
      };
    }

    module _ (file : ℕ) (here : is_on change file ≡ true) (there : (f : ℕ) → f ≢ file → is_on change f ≡ false) where
      pub on : files_after more file ≡ on_file change (files_after changes file)
      on = pushed changes change file ∙ ap (λ b. if b then on_file change (files_after changes file) else files_after changes file) here

      off : (f : ℕ) → f ≢ file → files_after more f ≡ files_after changes f
      off f other = pushed changes change f ∙ ap (λ b. if b then on_file change (files_after changes f) else files_after changes f) (there f other)

      steps : (step : List ℕ → List ℕ → Type 0) → step (files_after changes file).seen (on_file change (files_after changes file)).seen
          → ((b : List ℕ) → MayLeave (on_file change (files_after changes file)) b → (a : List ℕ) × MayLeave (files_after changes file) a × step a b)
          → Steps file step (view_of changes) (view_of more)
      steps step seen left = record {
        time = elapses;
        seen = subst (λ (s : FileState). step (files_after changes file).seen s.seen) (sym on) seen;
        left = λ b may. left b (subst (λ (s : FileState). MayLeave s b) on may);
        others = λ g other. ap (λ (s : FileState). s.seen) (off g other);
        others_left = λ g b other may. subst (λ (s : FileState). MayLeave s b) (off g other) may;
      }

  module _ (file : ℕ) where
    same_file : (file == file) ≡ true
    same_file = eq-eqb file file refl

    pub write-steps : (at : ℕ) (bytes : List ℕ) (done : Bool) → at ≤ length (files_after changes file).seen → Steps file (Torn at (length bytes)) (view_of changes) (view_of (changes ++ Writes file at bytes done ∷ []))
    write-steps at bytes done le = steps (Writes file at bytes done) file same_file (λ f other. other_file f file other) (Torn at (length bytes)) (torn done)
        (λ b left. write-left (files_after changes file) file at bytes done b le (all-sound changes file).seen left)
      where
        torn : (done : Bool) → Torn at (length bytes) (files_after changes file).seen (on_file (Writes file at bytes done) (files_after changes file)).seen
        torn true = written-torn (files_after changes file).seen at bytes le
        torn false = record { before = refl; after = refl; no_shorter = omega arith; no_longer = omega arith }

    pub write-done : (at : ℕ) (bytes : List ℕ) → Holds (files_after changes file).seen at bytes (files_after (changes ++ Writes file at bytes true ∷ []) file).seen
    write-done at bytes = ap (λ (s : FileState). s.seen) (on (Writes file at bytes true) file same_file (λ f other. other_file f file other))

    pub cut-steps : (n : ℕ) (done : Bool) → n ≤ length (files_after changes file).seen → Steps file (Cut n) (view_of changes) (view_of (changes ++ Cuts file n done ∷ []))
    cut-steps n done le = steps (Cuts file n done) file same_file (λ f other. other_file f file other) (Cut n) (short done)
        (λ b left. cut-left (files_after changes file) file n done b le (all-sound changes file).seen left)
      where
        short : (done : Bool) → Cut n (files_after changes file).seen (on_file (Cuts file n done) (files_after changes file)).seen
        short true = record {
          front = take-take n n (files_after changes file).seen (omega arith);
          no_longer = omega (arith, length-take n (files_after changes file).seen);
          least = inl (omega (arith, le, length-take n (files_after changes file).seen));
        }
        short false = record { front = refl; no_longer = omega arith; least = inr refl }

    pub cut-done : (n : ℕ) → (files_after (changes ++ Cuts file n true ∷ []) file).seen ≡ take n (files_after changes file).seen
    cut-done n = ap (λ (s : FileState). s.seen) (on (Cuts file n true) file same_file (λ f other. other_file f file other))

    sync-on : files_after (changes ++ Syncs file ∷ []) file ≡ at_rest (files_after changes file).seen
    sync-on = on (Syncs file) file same_file (λ f other. other_file f file other)

    pub sync-steps : Steps file Same (view_of changes) (view_of (changes ++ Syncs file ∷ []))
    sync-steps = steps (Syncs file) file same_file (λ f other. other_file f file other) Same refl
        (λ b left. ((files_after changes file).seen, (all-sound changes file).seen, at_rest-only (files_after changes file).seen b left))

    pub sync-stable : IsStable (view_of (changes ++ Syncs file ∷ [])) file
    sync-stable b may = at_rest-only (files_after changes file).seen b (subst (λ (s : FileState). MayLeave s b) sync-on may) ∙ sym (ap (λ (s : FileState). s.seen) sync-on)

  -- what a stop leaves is one of what it may leave, and stays
  module _ (choice : Choice) where
    stopped-on : (f : ℕ) → files_after (changes ++ Stops choice ∷ []) f ≡ at_rest (left_by choice (files_after changes f))
    stopped-on f = pushed changes (Stops choice) f

    pub stop-leaves : Leaves (view_of changes) (view_of (changes ++ Stops choice ∷ [])).seen
    stop-leaves f lt = subst (λ (s : FileState). MayLeave (files_after changes f) s.seen) (sym (stopped-on f)) (left_by-left choice (files_after changes f) (all-sound changes f))

    pub stop-stable : (f : ℕ) → IsStable (view_of (changes ++ Stops choice ∷ [])) f
    stop-stable f b may = at_rest-only (left_by choice (files_after changes f)) b (subst (λ (s : FileState). MayLeave s b) (stopped-on f) may) ∙ sym (ap (λ (s : FileState). s.seen) (stopped-on f))
