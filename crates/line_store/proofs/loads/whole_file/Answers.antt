use Rattle.std.proofs.Common.{◌≡◌, ◌<◌, ℕ, List, [], length, take, drop, vec_len, refl, sym, ◌∙◌, ap, arith, rules, length-append}
use Rattle.disk_model.proofs.Moments.{keeps_none, keeps_then}
use Rattle.line_store.proofs.Pieces.{more-read, all-read, taken}
use Rattle.line_store.proofs.loads.whole_file.Goals as goal

pub loop-at-init : goal.loop-at-init
loop-at-init g c = record {
  keeps = λ told. keeps_none (g.D.Disk.view c.args.disk.now) (g.met.D.Disk.lawful c.args.disk.now told);
  bytes = λ told. rw c.new-bytes.ensures.items refl;
  many = omega arith;
  no_fault = refl;
}

pub returns-in_err-count-clause-keeps : goal.returns-in_err-count-clause-keeps
returns-in_err-count-clause-keeps g c told = keeps_then c.args.file _ _ _ (c.loop-at.invariant.keeps told) (c.read.ensures.steps told)

pub returns-then-count-eq0-clause-keeps : goal.returns-then-count-eq0-clause-keeps
returns-then-count-eq0-clause-keeps g c told = keeps_then c.args.file _ _ _ (c.loop-at.invariant.keeps told) (c.read.ensures.steps told)

pub returns-in_err-append-clause-keeps : goal.returns-in_err-append-clause-keeps
returns-in_err-append-clause-keeps g c told = keeps_then c.args.file _ _ _ (c.loop-at.invariant.keeps told) (c.read.ensures.steps told)

pub returns-then-count-eq0-clause-bytes : goal.returns-then-count-eq0-clause-bytes
returns-then-count-eq0-clause-bytes g c told =
    let items = c.loop-at.bytes.items in
    let all = (g.D.Disk.view c.args.disk.now).seen c.args.file in
    let into = c.read.new.into in
    let len : vec_len c.loop-at.bytes ≡ length items = omega (arith, c.loop-at.bytes.ok.0) in
    let long : 0 < length into = search rules in
    let none : take c.in_ok-count.count into ≡ [] = ap (λ n. take n into) c.if-count-eq0.true in
    all-read items all (length into) long (c.loop-at.invariant.bytes told)
    (sym none ∙ c.in_ok-count.ensures.bytes told ∙ ap (λ n. take (length into) (drop n ((g.D.Disk.view c.loop-at.disk).seen c.args.file))) (c.len.ensures ∙ len) ∙ ap (λ (l : List ℕ). take (length into) (drop (length items) l)) ((c.loop-at.invariant.keeps told).seen c.args.file))

pub loop-at-preserved : goal.loop-at-preserved
loop-at-preserved g c =
    let items = c.loop-at.bytes.items in
    let all = (g.D.Disk.view c.args.disk.now).seen c.args.file in
    let into = c.read.new.into in
    let len : vec_len c.loop-at.bytes ≡ length items = omega (arith, c.loop-at.bytes.ok.0) in
    let count = c.in_ok-count.count in
    let put = c.in_ok-append.ensures in
    record {
      keeps = λ told. keeps_then c.args.file _ _ _ (c.loop-at.invariant.keeps told) (c.read.ensures.steps told);
      bytes = λ told. more-read items (take count into) c.append.new.text.items all (length into) (c.loop-at.invariant.bytes told)
          (c.in_ok-count.ensures.bytes told ∙ ap (λ n. take (length into) (drop n ((g.D.Disk.view c.loop-at.disk).seen c.args.file))) (c.len.ensures ∙ len) ∙ ap (λ (l : List ℕ). take (length into) (drop (length items) l)) ((c.loop-at.invariant.keeps told).seen c.args.file))
          put;
      many = omega (arith, c.loop-at.invariant.many, c.if-count-eq0.false, ap length put, length-append items (take count into), taken count into c.in_ok-count.ensures.bound);
      no_fault = c.in_ok-count.ensures.cause.kept ∙ c.loop-at.invariant.no_fault;
    }
