use Rattle.std.proofs.Common.{◌≡◌, ◌<◌, ◌^◌, take, drop}
use Rattle.std.specs.Str.{all_ascii_digits}
use Rattle.std.specs.Str.Parse.{digits_value}
use Rattle.job_schedule.proofs.number.value_of.Given as goal

abbrev pub invariant-loop-digit : goal.invariant-loop-digit
invariant-loop-digit l = record { digits : all_ascii_digits l.digits ≡ all_ascii_digits (drop l.digit-index l.digits); value : l.value ≡ digits_value 10 (take l.digit-index l.digits); small : l.value < 10 ^ l.digit-index }
