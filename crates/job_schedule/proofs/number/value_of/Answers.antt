use Rattle.std.proofs.Common.{◌≡◌, ◌-◌, true, get_or, sym, ◌∙◌, arith}
use Rattle.std.specs.Char.{is_ascii_digit}
use Rattle.job_schedule.proofs.Numbers.{digit_value_is, digits_more, has_room, one_digit_more, value_more}
use Rattle.job_schedule.proofs.number.value_of.Goals as goal

pub overflow_mul-value : goal.overflow_mul-value
overflow_mul-value c =
    let room = has_room c.loop-digit.digit-index c.loop-digit.value (omega arith) c.loop-digit.invariant.small in
    omega (arith, room)

pub overflow_add-value : goal.overflow_add-value
overflow_add-value c =
    let room = has_room c.loop-digit.digit-index c.loop-digit.value (omega arith) c.loop-digit.invariant.small in
    omega (arith, room, c.from.ensures)

pub loop-digit-preserved : goal.loop-digit-preserved
loop-digit-preserved c =
    let ds = c.args.digits.now in
    let i = c.loop-digit.digit-index in
    let digit : is_ascii_digit (get_or ds i 0) ≡ true = sym c.is_ascii_digit.ensures.value ∙ c.if-not-is_ascii_digit.false in
    let added : c.from.result ≡ get_or ds i 0 - 48 = c.from.ensures in
    record {
      digits = c.loop-digit.invariant.digits ∙ digits_more ds i c.loop-digit-test.true digit;
      value = rw added (value_more ds i c.loop-digit.value c.loop-digit-test.true c.loop-digit.invariant.value digit);
      small = rw added (one_digit_more i c.loop-digit.value (get_or ds i 0 - 48) c.loop-digit.invariant.small (digit_value_is (get_or ds i 0) digit).1);
    }
