-- What a session knows of its disk goes on over each call.
use Rattle.std.proofs.Common.{◌≡◌, ◌≢◌, ⊎_elim, ℕ, ◌+◌, ◌<◌, ◌≤◌, true, false, ◌==◌, if◌then◌else◌, List, ◌++◌, length, take, refl, sym, ◌∙◌, ap, subst, arith, eq-eqb, eqb-true, Some}
use Rattle.std.proofs.lemmas.List.{take-take, take_all, drop_all, append-nil}
use Rattle.std.proofs.lemmas.Bool.{cases_eq, true≢false}
use Rattle.disk_model.specs.Disk.{Contents, View, IsView, IsStable, Torn, Cut, Holds}
use Rattle.disk_model.specs.Runs.{DiffersIn, Touches, Keeps}
use Rattle.disk_model.proofs.Moments.{weaker}
use Rattle.line_store.specs.Reading.{output_file, image_file, log_file, line_of, opens_gate, opens_end, ranks_of, output_of, saved, finished, reading}
use Rattle.line_store.specs.Store.{IsSettled, ReadsAsLeft, Anyhow, StaysTo}
use Rattle.line_store.specs.Held.{Standing, set_at, got, appended, with_image, with_log, IsFrontKept, IsRankKept, HoldsImage, HoldsLog, IsSafe, IsHeld, IsQuiet, Spares}
use Rattle.line_store.proofs.Frame.{saved-same, states-same, reading_at-same, reading-same, IsUnread, image-unread, log-unread}
use Rattle.line_store.proofs.Saving.{unread-left}
use Rattle.line_store.proofs.Sessions.{reads-then}

pub spared : (file : ℕ) (R : List ℕ → List ℕ → Type 0) (old new : View) → Touches file R old new → Spares file old new
spared file R old new touches = record { others = touches.others; others_left = touches.others_left }

pub spared-at : (f file : ℕ) (R : List ℕ → List ℕ → Type 0) (old new : View) → f ≡ file → Touches f R old new → Spares file old new
spared-at f file R old new same touches = subst (λ g. Spares g old new) same (spared f R old new touches)

pub spared-none : (file : ℕ) (v : View) → Spares file v v
spared-none file v = record { others = λ g other. refl; others_left = λ g b other left. left }

pub spared-kept : (file : ℕ) (old new : View) → Keeps old new → Spares file old new
spared-kept file old new keeps = record { others = λ g other. keeps.seen g; others_left = λ g b other left. keeps.left g b left }

pub spared-then : (file : ℕ) (old mid new : View) → Keeps old mid → Spares file mid new → Spares file old new
spared-then file old mid new keeps next = record { others = λ g other. next.others g other ∙ keeps.seen g; others_left = λ g b other left. keeps.left g b (next.others_left g b other left) }

-- what holds of the files that are spared
module _ (file : ℕ) (old new : View) (touches : Spares file old new) where
  pub stable-kept : (g : ℕ) → g ≢ file → IsStable old g → IsStable new g
  stable-kept g other stable b left = stable b (touches.others_left g b other left) ∙ sym (touches.others g other)

  pub front-kept : (rank n : ℕ) → output_file rank ≢ file → IsFrontKept old rank n → IsFrontKept new rank n
  front-kept rank n other front = record {
    long = subst (λ (l : List ℕ). n ≤ length l) (sym (touches.others (output_file rank) other)) front.long;
    same = λ b left. front.same b (touches.others_left (output_file rank) b other left) ∙ ap (λ (l : List ℕ). take n l) (sym (touches.others (output_file rank) other));
  }

  pub rank-kept : (rank line : ℕ) → output_file rank ≢ file → image_file rank line ≢ file → log_file rank line ≢ file → IsRankKept old rank line → IsRankKept new rank line
  rank-kept rank line output image log kept = record {
    image = stable-kept (image_file rank line) image kept.image;
    log = stable-kept (log_file rank line) log kept.log;
    front = subst (λ (i : List ℕ). IsFrontKept new rank (output_of i)) (sym (touches.others (image_file rank line) image)) (front-kept rank (output_of (old.seen (image_file rank line))) output kept.front);
  }

  pub image-kept : (rank line : ℕ) (image : List ℕ) → output_file rank ≢ file → image_file rank line ≢ file → HoldsImage old rank line image → HoldsImage new rank line image
  image-kept rank line image output other holds = record {
    seen = touches.others (image_file rank line) other ∙ holds.seen;
    stable = stable-kept (image_file rank line) other holds.stable;
    front = front-kept rank (output_of image) output holds.front;
  }

  pub log-kept : (rank line : ℕ) (log : List ℕ) → log_file rank line ≢ file → HoldsLog old rank line log → HoldsLog new rank line log
  log-kept rank line log other holds = record {
    seen = touches.others (log_file rank line) other ∙ holds.seen;
    stable = stable-kept (log_file rank line) other holds.stable;
  }

  pub saved-kept : (rank line : ℕ) → output_file rank ≢ file → image_file rank line ≢ file → log_file rank line ≢ file → saved new.seen line rank ≡ saved old.seen line rank
  saved-kept rank line output image log = saved-same new.seen old.seen line rank (touches.others (image_file rank line) image) (touches.others (log_file rank line) log)
      (ap (λ (l : List ℕ). take (output_of (old.seen (image_file rank line))) l) (touches.others (output_file rank) output))

  pub settled-kept : 2 ≢ file → 4 ≢ file → IsSettled old → IsSettled new
  settled-kept two four settled =
      let same = ap line_of (touches.others 2 two) in
      record {
        line = λ b left. settled.line b (touches.others_left 2 b two left) ∙ sym same;
        short = λ b left. omega (arith, settled.short b (touches.others_left 2 b two left), same);
        end = λ b left. settled.end b (touches.others_left 4 b four left);
      }

-- A file of the next line's slot.
module _ (text : List ℕ) (s : Standing) (file : ℕ) (old new : View) (held : IsHeld text old s) (unread : IsUnread s.line file) (touches : Touches file Anyhow old new) where
  here : (b : List ℕ) → old.may_leave 2 b → line_of b ≡ s.line
  here b left = held.settled.line b left ∙ held.line

  pub unread-safe : IsSafe text new
  unread-safe = record {
    gate = ap opens_gate (touches.others 1 (λ is. absurd (omega (arith, is, unread.above)))) ∙ held.safe.gate;
    job = touches.others 0 (λ is. absurd (omega (arith, is, unread.above))) ∙ held.safe.job;
    stable = stable-kept file old new (spared file Anyhow old new touches) 0 (λ is. absurd (omega (arith, is, unread.above))) held.safe.stable;
    kept = λ b left pos rank lt.
        let was = touches.others_left 2 b (λ is. absurd (omega (arith, is, unread.above))) left in
        subst (λ l. IsRankKept new rank l) (sym (here b was)) (rank-kept file old new (spared file Anyhow old new touches) rank s.line (unread.output rank) (unread.image rank) (unread.log rank)
        (subst (λ l. IsRankKept old rank l) (here b was) (held.safe.kept b was pos rank lt)));
  }

  pub unread-quiet : 5 ≤ old.files → IsQuiet text old new
  unread-quiet files = record {
    run = unread-left file old new files held.settled (subst (λ l. IsUnread l file) (sym held.line) unread) touches;
    safe = unread-safe;
  }

  unread-committed : 0 < s.line → (rank : ℕ) → rank < ranks_of text → saved new.seen s.line rank ≡ s.committed rank
  unread-committed pos rank lt = saved-kept file old new (spared file Anyhow old new touches) rank s.line (unread.output rank) (unread.image rank) (unread.log rank) ∙ held.committed pos rank lt

-- at one place, or elsewhere
pub at_place : {A : Type 0} (f : ℕ → A) (place : ℕ) (x : A) (k : ℕ) (P : A → Type 0) → (k ≡ place → P x) → (k ≢ place → P (f k)) → P (set_at f place x k)
at_place f place x k P here other = elim (k == place) as (λ b. (k == place) ≡ b → P (if b then x else f k)) [
  | true ↦ λ is. here (eqb-true k place is)
  | false ↦ λ is. other (λ same. true≢false (sym (eq-eqb k place same) ∙ is))
] refl

some_is : (x y : List ℕ) → Some x ≡ Some y → x ≡ y
some_is x y is = ap got is

-- A rank's image for the next line is saved.
pub image-held : (text : List ℕ) (s : Standing) (rank : ℕ) (image : List ℕ) (old new : View) → IsHeld text old s → Touches (image_file rank (s.line + 1)) Anyhow old new
    → new.seen (image_file rank (s.line + 1)) ≡ image → IsStable new (image_file rank (s.line + 1)) → IsFrontKept old rank (output_of image) → IsHeld text new (with_image s rank image)
image-held text s rank image old new held touches seen stable front =
    let file = image_file rank (s.line + 1) in
    let unread = image-unread s.line rank in
    record {
      files = omega (arith, held.files, touches.run.files);
      safe = unread-safe text s file old new held unread touches;
      settled = settled-kept file old new (spared file Anyhow old new touches) (λ is. absurd (omega (arith, is))) (λ is. absurd (omega (arith, is))) held.settled;
      line = ap line_of (touches.others 2 (λ is. absurd (omega (arith, is)))) ∙ held.line;
      outputs = λ r lt. touches.others (output_file r) (unread.output r) ∙ held.outputs r lt;
      committed = unread-committed text s file old new held unread touches;
      images = λ r i lt. at_place s.images rank (Some image) r (λ o. o ≡ Some i → HoldsImage new r (s.line + 1) i)
          (λ same is. subst (λ k. HoldsImage new k (s.line + 1) i) (sym same) (subst (λ (x : List ℕ). HoldsImage new rank (s.line + 1) x) (some_is image i is) (record {
            seen = seen;
            stable = stable;
            front = front-kept file old new (spared file Anyhow old new touches) rank (output_of image) (unread.output rank) front;
          })))
          (λ other is. image-kept file old new (spared file Anyhow old new touches) r (s.line + 1) i (unread.output r) (λ e. other (omega (arith, e))) (held.images r i lt is));
      logs = λ r l lt is. log-kept file old new (spared file Anyhow old new touches) r (s.line + 1) l (λ e. absurd (omega (arith, e))) (held.logs r l lt is);
    }

-- So is its log.
pub log-held : (text : List ℕ) (s : Standing) (rank : ℕ) (log : List ℕ) (old new : View) → IsHeld text old s → Touches (log_file rank (s.line + 1)) Anyhow old new
    → new.seen (log_file rank (s.line + 1)) ≡ log → IsStable new (log_file rank (s.line + 1)) → IsHeld text new (with_log s rank log)
log-held text s rank log old new held touches seen stable =
    let file = log_file rank (s.line + 1) in
    let unread = log-unread s.line rank in
    record {
      files = omega (arith, held.files, touches.run.files);
      safe = unread-safe text s file old new held unread touches;
      settled = settled-kept file old new (spared file Anyhow old new touches) (λ is. absurd (omega (arith, is))) (λ is. absurd (omega (arith, is))) held.settled;
      line = ap line_of (touches.others 2 (λ is. absurd (omega (arith, is)))) ∙ held.line;
      outputs = λ r lt. touches.others (output_file r) (unread.output r) ∙ held.outputs r lt;
      committed = unread-committed text s file old new held unread touches;
      images = λ r i lt is. image-kept file old new (spared file Anyhow old new touches) r (s.line + 1) i (unread.output r) (λ e. absurd (omega (arith, e))) (held.images r i lt is);
      logs = λ r l lt. at_place s.logs rank (Some log) r (λ o. o ≡ Some l → HoldsLog new r (s.line + 1) l)
          (λ same is. subst (λ k. HoldsLog new k (s.line + 1) l) (sym same) (subst (λ (x : List ℕ). HoldsLog new rank (s.line + 1) x) (some_is log l is) (record { seen = seen; stable = stable })))
          (λ other is. log-kept file old new (spared file Anyhow old new touches) r (s.line + 1) l (λ e. other (omega (arith, e))) (held.logs r l lt is));
    }

-- what keeps the front of an output
pub stays-none : (n : ℕ) (a : List ℕ) → StaysTo n a a
stays-none n a = record { front = refl; long = λ le. le }

pub stays-same : (n : ℕ) (a b x : List ℕ) → StaysTo n a b → x ≡ b → StaysTo n a x
stays-same n a b x stays is = subst (λ (l : List ℕ). StaysTo n a l) (sym is) stays

pub stays-torn : (n m : ℕ) (a b x : List ℕ) → StaysTo n a b → Torn n m b x → StaysTo n a x
stays-torn n m a b x stays torn = record { front = torn.before ∙ stays.front; long = λ le. omega (arith, stays.long le, torn.no_shorter) }

pub stays-cut : (n : ℕ) (a b x : List ℕ) → StaysTo n a b → Cut n b x → StaysTo n a x
stays-cut n a b x stays cut = record { front = cut.front ∙ stays.front; long = λ le. ⊎_elim (λ (l : n ≤ length x). l) (λ same. omega (arith, stays.long le, same)) cut.least }

-- a write at the end
pub written-end : (old mid new bytes : List ℕ) (at : ℕ) → mid ≡ old → at ≡ length old → Holds mid at bytes new → new ≡ old ++ bytes
written-end old mid new bytes at same is holds =
    let short : length mid ≤ at = omega (arith, is, ap length same) in
    holds ∙ ap (λ (l : List ℕ). take at mid ++ bytes ++ l) (drop_all (at + length bytes) mid (omega (arith, short))) ∙ append-nil (take at mid ++ bytes) ∙ ap (λ (l : List ℕ). l ++ bytes) (take_all at mid short ∙ same)

shorter : (m n : ℕ) (a b : List ℕ) → m ≤ n → StaysTo n a b → take m b ≡ take m a
shorter m n a b le stays = sym (take-take m n b le) ∙ ap (λ (l : List ℕ). take m l) stays.front ∙ take-take m n a le

-- no end is open
closed : (c d : Contents) → opens_end (c 4) ≡ false → opens_end (d 4) ≡ false → finished c ≡ finished d
closed c d is was = rw (is, was) refl

-- Contents that differ in an output past what its image names read alike.
pub reading-output : (rank n : ℕ) (c d : Contents) → ((g : ℕ) → g ≢ output_file rank → c g ≡ d g) → StaysTo n (d (output_file rank)) (c (output_file rank)) → opens_end (d 4) ≡ false
    → (0 < line_of (d 2) → rank < ranks_of (d 0) → output_of (d (image_file rank (line_of (d 2)))) ≤ n) → reading c ≡ reading d
reading-output rank n c d same stays shut bound =
    let line = line_of (d 2) in
    let job = same 0 (λ is. absurd (omega (arith, is))) in
    reading-same c d (ap opens_gate (same 1 (λ is. absurd (omega (arith, is))))) (ap line_of (same 2 (λ is. absurd (omega (arith, is)))))
    (reading_at-same c d line job
    (states-same c d line job (λ r pos lt. saved-same c d line r (same (image_file r line) (λ is. absurd (omega (arith, is)))) (same (log_file r line) (λ is. absurd (omega (arith, is)))) (⊎_elim
    (λ is. subst (λ k. take (output_of (d (image_file k line))) (c (output_file k)) ≡ take (output_of (d (image_file k line))) (d (output_file k))) (sym is)
    (shorter (output_of (d (image_file rank line))) n (d (output_file rank)) (c (output_file rank)) (bound pos (omega (arith, lt, is))) stays))
    (λ other. ap (λ (l : List ℕ). take (output_of (d (image_file r line))) l) (same (output_file r) (λ e. other (omega (arith, e)))))
    (cases_eq r rank))))
    (closed c d (ap opens_end (same 4 (λ is. absurd (omega (arith, is)))) ∙ shut) shut))

-- An output keeps what the committed line's image names.
module _ (text : List ℕ) (s : Standing) (rank n : ℕ) (old new : View) (held : IsHeld text old s) (touches : Touches (output_file rank) (StaysTo n) old new)
    (long : n ≤ length (old.seen (output_file rank))) (bound : 0 < s.line → rank < ranks_of text → output_of (old.seen (image_file rank s.line)) ≤ n) where
  now : (b : List ℕ) → old.may_leave 2 b → line_of b ≡ s.line
  now b left = held.settled.line b left ∙ held.line

  pub front-stays : (m : ℕ) → m ≤ n → IsFrontKept old rank m → IsFrontKept new rank m
  front-stays m le front = record {
    long = omega (arith, le, touches.seen.long long);
    same = λ b left.
        let from = touches.left b left in
        shorter m n from.0 b le from.2 ∙ front.same from.0 from.1 ∙ sym (shorter m n (old.seen (output_file rank)) (new.seen (output_file rank)) le touches.seen);
  }

  stays_rank : (r line : ℕ) → (r ≡ rank → output_of (old.seen (image_file r line)) ≤ n) → IsRankKept old r line → IsRankKept new r line
  stays_rank r line within kept =
      let other : image_file r line ≢ output_file rank = λ is. absurd (omega (arith, is)) in
      record {
        image = stable-kept (output_file rank) old new (spared (output_file rank) (StaysTo n) old new touches) (image_file r line) other kept.image;
        log = stable-kept (output_file rank) old new (spared (output_file rank) (StaysTo n) old new touches) (log_file r line) (λ is. absurd (omega (arith, is))) kept.log;
        front = subst (λ (i : List ℕ). IsFrontKept new r (output_of i)) (sym (touches.others (image_file r line) other)) (⊎_elim
            (λ is. subst (λ k. IsFrontKept new k (output_of (old.seen (image_file r line)))) (sym is) (front-stays (output_of (old.seen (image_file r line))) (within is) (subst (λ k. IsFrontKept old k (output_of (old.seen (image_file r line)))) is kept.front)))
            (λ no. front-kept (output_file rank) old new (spared (output_file rank) (StaysTo n) old new touches) r (output_of (old.seen (image_file r line))) (λ e. no (omega (arith, e))) kept.front)
            (cases_eq r rank));
      }

  pub output-safe : IsSafe text new
  output-safe = record {
    gate = ap opens_gate (touches.others 1 (λ is. absurd (omega (arith, is)))) ∙ held.safe.gate;
    job = touches.others 0 (λ is. absurd (omega (arith, is))) ∙ held.safe.job;
    stable = stable-kept (output_file rank) old new (spared (output_file rank) (StaysTo n) old new touches) 0 (λ is. absurd (omega (arith, is))) held.safe.stable;
    kept = λ b left pos r lt.
        let was = touches.others_left 2 b (λ is. absurd (omega (arith, is))) left in
        let line = now b was in
        subst (λ l. IsRankKept new r l) (sym line) (stays_rank r s.line (λ is. subst (λ k. output_of (old.seen (image_file k s.line)) ≤ n) (sym is) (bound (omega (arith, pos, line)) (omega (arith, lt, is))))
        (subst (λ l. IsRankKept old r l) line (held.safe.kept b was pos r lt)));
  }

  pub output-quiet : IsQuiet text old new
  output-quiet = record {
    run = weaker old new (DiffersIn (output_file rank) (StaysTo n) old) (ReadsAsLeft old) (λ c differs.
        let two = differs.left 2 (omega (arith, held.files)) in
        let line = now (differs.was 2) two in
        let job : differs.was 0 ≡ text = held.safe.stable (differs.was 0) (differs.left 0 (omega (arith, held.files))) ∙ held.safe.job in (
          differs.was,
          differs.left,
          reading-output rank n c differs.was differs.others differs.changed (held.settled.end (differs.was 4) (differs.left 4 (omega (arith, held.files)))) (λ pos lt.
              let inside : rank < ranks_of text = subst (λ (j : List ℕ). rank < ranks_of j) job lt in
              let kept = (held.safe.kept (differs.was 2) two pos rank inside).image (differs.was (image_file rank (line_of (differs.was 2)))) (differs.left (image_file rank (line_of (differs.was 2))) (omega (arith, inside, held.files))) in
              let same : output_of (differs.was (image_file rank (line_of (differs.was 2)))) ≡ output_of (old.seen (image_file rank s.line)) = ap output_of kept ∙ ap (λ l. output_of (old.seen (image_file rank l))) line in
              omega (arith, same, bound (omega (arith, pos, line)) inside)),
        )) touches.run;
    safe = output-safe;
  }

  pub output-committed : 0 < s.line → (r : ℕ) → r < ranks_of text → saved new.seen s.line r ≡ s.committed r
  output-committed pos r lt = saved-same new.seen old.seen s.line r (touches.others (image_file r s.line) (λ is. absurd (omega (arith, is)))) (touches.others (log_file r s.line) (λ is. absurd (omega (arith, is)))) (⊎_elim
      (λ is. subst (λ k. take (output_of (old.seen (image_file k s.line))) (new.seen (output_file k)) ≡ take (output_of (old.seen (image_file k s.line))) (old.seen (output_file k))) (sym is)
      (shorter (output_of (old.seen (image_file rank s.line))) n (old.seen (output_file rank)) (new.seen (output_file rank)) (bound pos (omega (arith, lt, is))) touches.seen))
      (λ other. ap (λ (l : List ℕ). take (output_of (old.seen (image_file r s.line))) l) (touches.others (output_file r) (λ e. other (omega (arith, e)))))
      (cases_eq r rank)) ∙ held.committed pos r lt

  -- Its bytes are known where the calls succeed.
  pub output-held : (bytes : List ℕ) → new.seen (output_file rank) ≡ bytes → ((r : ℕ) (i : List ℕ) → r < ranks_of text → s.images r ≡ Some i → r ≡ rank → output_of i ≤ n)
      → IsHeld text new (record s { outputs = set_at s.outputs rank bytes })
  output-held bytes seen fits = record {
    files = omega (arith, held.files, touches.run.files);
    safe = output-safe;
    settled = settled-kept (output_file rank) old new (spared (output_file rank) (StaysTo n) old new touches) (λ is. absurd (omega (arith, is))) (λ is. absurd (omega (arith, is))) held.settled;
    line = ap line_of (touches.others 2 (λ is. absurd (omega (arith, is)))) ∙ held.line;
    outputs = λ r lt. at_place s.outputs rank bytes r (λ (o : List ℕ). new.seen (output_file r) ≡ o) (λ same. ap (λ k. new.seen (output_file k)) same ∙ seen)
        (λ other. touches.others (output_file r) (λ e. other (omega (arith, e))) ∙ held.outputs r lt);
    committed = output-committed;
    images = λ r i lt is.
        let was = held.images r i lt is in
        let other : image_file r (s.line + 1) ≢ output_file rank = λ e. absurd (omega (arith, e)) in
        record {
          seen = touches.others (image_file r (s.line + 1)) other ∙ was.seen;
          stable = stable-kept (output_file rank) old new (spared (output_file rank) (StaysTo n) old new touches) (image_file r (s.line + 1)) other was.stable;
          front = ⊎_elim
              (λ same. subst (λ k. IsFrontKept new k (output_of i)) (sym same) (front-stays (output_of i) (fits r i lt is same) (subst (λ k. IsFrontKept old k (output_of i)) same was.front)))
              (λ no. front-kept (output_file rank) old new (spared (output_file rank) (StaysTo n) old new touches) r (output_of i) (λ e. no (omega (arith, e))) was.front)
              (cases_eq r rank);
        };
    logs = λ r l lt is. log-kept (output_file rank) old new (spared (output_file rank) (StaysTo n) old new touches) r (s.line + 1) l (λ e. absurd (omega (arith, e))) (held.logs r l lt is);
  }

-- An output grows.
module _ (text : List ℕ) (s : Standing) (rank : ℕ) (old new : View) {count : ℕ} (is : IsView count old) (held : IsHeld text old s) (touches : Touches (output_file rank) (StaysTo (length (old.seen (output_file rank)))) old new) where
  fits : 0 < s.line → rank < ranks_of text → output_of (old.seen (image_file rank s.line)) ≤ length (old.seen (output_file rank))
  fits pos lt = subst (λ l. output_of (old.seen (image_file rank l)) ≤ length (old.seen (output_file rank))) held.line
      (held.safe.kept (old.seen 2) (is.seen_left 2 (omega (arith, held.files))) (omega (arith, pos, held.line)) rank lt).front.long

  pub appended-quiet : IsQuiet text old new
  appended-quiet = output-quiet text s rank (length (old.seen (output_file rank))) old new held touches (omega arith) fits

  pub appended-held : (bytes : List ℕ) → rank < ranks_of text → new.seen (output_file rank) ≡ old.seen (output_file rank) ++ bytes → IsHeld text new (appended s rank bytes)
  appended-held bytes lt written = output-held text s rank (length (old.seen (output_file rank))) old new held touches (omega arith) fits (s.outputs rank ++ bytes)
      (written ∙ ap (λ (l : List ℕ). l ++ bytes) (held.outputs rank lt))
      (λ r i inside is same. subst (λ k. output_of i ≤ length (old.seen (output_file k))) same (held.images r i inside is).front.long)

-- calls that read alike, one after another
pub quiet-then : (text : List ℕ) (old mid new : View) {n : ℕ} → IsView n mid → IsQuiet text old mid → IsQuiet text mid new → IsQuiet text old new
quiet-then text old mid new is first next = record { run = reads-then old mid new is first.run next.run; safe = next.safe }

-- a synced output
pub stable-front : (v : View) (rank n : ℕ) → IsStable v (output_file rank) → n ≤ length (v.seen (output_file rank)) → IsFrontKept v rank n
stable-front v rank n stable long = record { long = long; same = λ b left. ap (λ (l : List ℕ). take n l) (stable b left) }

-- one output more is stable
pub stable-more : (mid new : View) (f rank : ℕ) → f ≡ output_file rank → Spares f mid new → IsStable new f → ((r : ℕ) → r < rank → IsStable mid (output_file r)) → (r : ℕ) → r < rank + 1 → IsStable new (output_file r)
stable-more mid new f rank same spares stable before r lt = ⊎_elim
    (λ e. subst (λ k. IsStable new (output_file k)) (sym e) (subst (λ g. IsStable new g) same stable))
    (λ other. stable-kept f mid new spares (output_file r) (λ e. other (omega (arith, e, same))) (before r (omega (arith, lt, other))))
    (cases_eq r rank)
