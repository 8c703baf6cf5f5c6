use Rattle.std.proofs.Common.{◌≡◌, ◌+◌, ◌*◌, ◌<◌, length, get_or, refl, ◌∙◌, arith}
use Rattle.line_store.specs.Store.{StaysTo}
use Rattle.line_store.proofs.Cutting.{none-cut, cut-all-quiet, cut-more, all-cut, size-there, cut-done, cut-later}
use Rattle.line_store.proofs.Holding.{spared, stable-more}
use Rattle.line_store.proofs.Standings.{rank-settled}
use Rattle.line_store.proofs.saves.cut_outputs.Goals as goal

pub loop-rank-init : goal.loop-rank-init
loop-rank-init g c = record {
  run = λ told text s held count names. none-cut text s (g.D.Disk.view c.args.disk.now) (g.met.D.Disk.lawful c.args.disk.now told) held;
  done = λ told r lt. absurd (omega (arith, lt));
  later = λ told r le. refl;
  stable = λ told r lt. absurd (omega (arith, lt));
  others = λ told file other. refl;
  settled = λ told settled. settled;
  no_fault = refl;
}

pub shorten-requires-clause-size : goal.shorten-requires-clause-size
shorten-requires-clause-size g c told =
    let lt : c.loop-rank.rank < length c.args.lengths.now = c.loop-rank-test.true in
    let n : c.from.result ≡ get_or c.args.lengths.now c.loop-rank.rank 0 = c.from.ensures in
    size-there (g.D.Disk.view c.args.disk.now) (g.D.Disk.view c.loop-rank.disk) (5 + 5 * c.loop-rank.rank) c.loop-rank.rank c.from.result c.args.lengths.now refl n
    (c.loop-rank.invariant.later told c.loop-rank.rank (omega arith)) (c.requires.long told c.loop-rank.rank lt)

pub loop-rank-preserved : goal.loop-rank-preserved
loop-rank-preserved g c =
    let lt : c.loop-rank.rank < length c.args.lengths.now = c.loop-rank-test.true in
    let n : c.from.result ≡ get_or c.args.lengths.now c.loop-rank.rank 0 = c.from.ensures in
    let old = g.D.Disk.view c.args.disk.now in
    let mid = g.D.Disk.view c.loop-rank.disk in
    let new = g.D.Disk.view c.shorten.new.disk in
    record {
      run = λ told text s held count names. cut-more text s c.loop-rank.rank c.from.result old mid new (g.met.D.Disk.lawful c.loop-rank.disk told) (c.loop-rank.invariant.run told text s held count names)
          (n ∙ names c.loop-rank.rank (omega (arith, lt, count))) (omega (arith, lt, count)) (5 + 5 * c.loop-rank.rank) refl (c.shorten.ensures.touches told);
      done = λ told. cut-done old mid new (5 + 5 * c.loop-rank.rank) c.loop-rank.rank c.from.result c.args.lengths.now refl n
          (spared (5 + 5 * c.loop-rank.rank) (StaysTo c.from.result) mid new (c.shorten.ensures.touches told)) (c.in_ok-shorten.ensures.cut told) (c.loop-rank.invariant.later told c.loop-rank.rank (omega arith)) (c.loop-rank.invariant.done told);
      later = λ told. cut-later old mid new (5 + 5 * c.loop-rank.rank) c.loop-rank.rank refl (spared (5 + 5 * c.loop-rank.rank) (StaysTo c.from.result) mid new (c.shorten.ensures.touches told)) (c.loop-rank.invariant.later told);
      stable = λ told. stable-more mid new (5 + 5 * c.loop-rank.rank) c.loop-rank.rank refl (spared (5 + 5 * c.loop-rank.rank) (StaysTo c.from.result) mid new (c.shorten.ensures.touches told)) (c.in_ok-shorten.ensures.durable told) (c.loop-rank.invariant.stable told);
      others = λ told file other. (c.shorten.ensures.touches told).others file (other c.loop-rank.rank lt) ∙ c.loop-rank.invariant.others told file other;
      settled = λ told settled. rank-settled (5 + 5 * c.loop-rank.rank) (StaysTo c.from.result) mid new (omega arith) (c.shorten.ensures.touches told) (c.loop-rank.invariant.settled told settled);
      no_fault = c.in_ok-shorten.ensures.cause.kept ∙ c.loop-rank.invariant.no_fault;
    }

pub returns-in_err-shorten-clause-quiet : goal.returns-in_err-shorten-clause-quiet
returns-in_err-shorten-clause-quiet g c told text s held count names =
    let lt : c.loop-rank.rank < length c.args.lengths.now = c.loop-rank-test.true in
    let n : c.from.result ≡ get_or c.args.lengths.now c.loop-rank.rank 0 = c.from.ensures in
    cut-all-quiet text s c.loop-rank.rank c.from.result (g.D.Disk.view c.args.disk.now) (g.D.Disk.view c.loop-rank.disk) (g.D.Disk.view c.shorten.new.disk) (g.met.D.Disk.lawful c.loop-rank.disk told) (c.loop-rank.invariant.run told text s held count names)
    (n ∙ names c.loop-rank.rank (omega (arith, lt, count))) (omega (arith, lt, count)) (5 + 5 * c.loop-rank.rank) refl (c.shorten.ensures.touches told)

pub returns-clause-quiet : goal.returns-clause-quiet
returns-clause-quiet g c told text s held count names =
    let all = c.loop-rank.invariant.run told text s held count names in
    record { run = all.run; safe = all.held.safe }

pub returns-clause-held : goal.returns-clause-held
returns-clause-held g c told text s held count names =
    all-cut text s c.args.lengths.now (g.D.Disk.view c.args.disk.now) (g.D.Disk.view c.loop-rank.disk) held (c.loop-rank.invariant.run told text s held count names).held
    (λ r lt. c.loop-rank.invariant.done told r (omega (arith, lt, count, c.loop-rank-test.false)))

pub returns-clause-stable : goal.returns-clause-stable
returns-clause-stable g c told r lt = c.loop-rank.invariant.stable told r (omega (arith, lt, c.loop-rank-test.false))

pub returns-in_err-shorten-clause-settled : goal.returns-in_err-shorten-clause-settled
returns-in_err-shorten-clause-settled g c told settled = rank-settled (5 + 5 * c.loop-rank.rank) (StaysTo c.from.result) (g.D.Disk.view c.loop-rank.disk) (g.D.Disk.view c.shorten.new.disk) (omega arith) (c.shorten.ensures.touches told) (c.loop-rank.invariant.settled told settled)

pub returns-in_err-shorten-clause-others : goal.returns-in_err-shorten-clause-others
returns-in_err-shorten-clause-others g c told file other = (c.shorten.ensures.touches told).others file (other c.loop-rank.rank c.loop-rank-test.true) ∙ c.loop-rank.invariant.others told file other
