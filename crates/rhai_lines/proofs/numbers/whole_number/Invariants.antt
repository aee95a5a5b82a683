use Rattle.std.proofs.Common.{◌≡◌, ◌<◌, ◌^◌, drop}
use Rattle.rhai_lines.specs.Numbers.{whole_number_of}
use Rattle.rhai_lines.proofs.Digits.{number_after}
use Rattle.rhai_lines.proofs.numbers.whole_number.Given as goal

abbrev pub invariant-loop-digit : goal.invariant-loop-digit
invariant-loop-digit l = (whole_number_of l.digits ≡ number_after l.number (drop l.digit-index l.digits)) × (l.number < 2 ^ 128)
