use Rattle.std.proofs.Common.{◌+◌, ◌-◌, ◌/◌, ◌<◌, ◌≤◌, length, arith, sym}
use Rattle.c_memory.specs.Seen.{serial_of}
use Rattle.c_memory.proofs.Places.{left_of, right_of, place_found, missing_here, missing_past}
use Rattle.c_memory.proofs.object.place.Goals as goal
use Rattle.c_memory.proofs.object.place.Goals.{else-low-objects-via-then-low-objects+else-objects-low, else-low-objects-via-else-low-objects}

pub loop-low-preserved-then-objects-middle : goal.loop-low-preserved-then-objects-middle
loop-low-preserved-then-objects-middle c =
    let i = c.loop-low.low + (c.loop-low.high - c.loop-low.low) / 2 in
    let t : c.loop-low.low < c.loop-low.high = c.loop-low-test.true in
    let u : c.loop-low.high ≤ length c.args.objects.now = c.loop-low.invariant.1 in
    (omega (arith, t), u, left_of serial_of 0 c.args.objects.now _ c.args.serial i c.index-objects-middle.result c.requires (omega (arith, t, u)) c.if-objects-middle.true, c.loop-low.invariant.3)

pub loop-low-preserved : goal.loop-low-preserved
loop-low-preserved c =
    let i = c.loop-low.low + (c.loop-low.high - c.loop-low.low) / 2 in
    let t : c.loop-low.low < c.loop-low.high = c.loop-low-test.true in
    let u : c.loop-low.high ≤ length c.args.objects.now = c.loop-low.invariant.1 in
    (omega (arith, t), omega (arith, t, u), c.loop-low.invariant.2, right_of serial_of 0 c.args.objects.now _ c.args.serial i c.index-objects-middle.result c.requires (omega (arith, t, u)) c.if-objects-middle.false)

pub returns-then-objects-low-clause-place : goal.returns-then-objects-low-clause-place
returns-then-objects-low-clause-place c =
    let y = c.index-objects-low.result in
    sym (place_found serial_of c.args.objects.now c.args.serial c.loop-low.low y (λ k l. c.loop-low.invariant.2 k y l) c.if-low-objects.true c.if-objects-low.true)

pub returns-else-low-objects-clause-place : goal.returns-else-low-objects-clause-place
returns-else-low-objects-clause-place c =
    let both : c.loop-low.high ≤ c.loop-low.low = c.loop-low-test.false in
    let order : c.loop-low.low ≤ c.loop-low.high = c.loop-low.invariant.0 in
    elim c.else-low-objects.branch [
      | else-low-objects-via-then-low-objects+else-objects-low w ↦
          sym (missing_here serial_of c.args.objects.now _ c.args.serial c.loop-low.low w.index-objects-low.result c.requires c.loop-low.invariant.2 (λ k d l m. c.loop-low.invariant.3 k d (omega (arith, l, both)) m) w.if-low-objects.true w.if-objects-low.false)
      | else-low-objects-via-else-low-objects w ↦
          let past : length c.args.objects.now ≤ c.loop-low.low = w.if-low-objects.false in
          sym (missing_past serial_of c.args.objects.now c.args.serial c.loop-low.low c.loop-low.invariant.2 past)
    ]
