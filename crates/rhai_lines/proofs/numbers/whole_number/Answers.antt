use Rattle.std.proofs.Common.{◌≡◌, ◌+◌, ◌∙◌, sym, get_or, arith}
use Rattle.std.proofs.lemmas.Str.{digit_value_digit}
use Rattle.std.specs.Char.{digit_value}
use Rattle.rhai_lines.proofs.Digits.{too_great_at, all_read}
use Rattle.rhai_lines.proofs.numbers.whole_number.Goals as goal

pub returns-in_err-tens : goal.returns-in_err-tens
returns-in_err-tens c =
    let i = c.loop-digit.digit-index in
    c.from_residual.ensures ∙ sym (too_great_at c.loop-digit.number i c.args.digits.now c.loop-digit.invariant.0 c.loop-digit-test.true (sym c.is_ascii_digit.ensures.value ∙ c.if-not-is_ascii_digit.false) (omega (arith, c.in_err-tens.ensures)))

pub returns-in_err-number : goal.returns-in_err-number
returns-in_err-number c =
    let i = c.loop-digit.digit-index in
    let d = get_or c.args.digits.now i 0 in
    let v : digit_value d + 48 ≡ d = digit_value_digit d c.if-not-is_ascii_digit.ensures.cases in
    c.from_residual-in_err-number.ensures ∙ sym (too_great_at c.loop-digit.number i c.args.digits.now c.loop-digit.invariant.0 c.loop-digit-test.true (sym c.is_ascii_digit.ensures.value ∙ c.if-not-is_ascii_digit.false) (omega (arith, c.in_err-number.ensures, c.in_ok-tens.ensures, c.from.ensures, v)))

pub returns : goal.returns
returns c = sym (all_read c.loop-digit.number c.loop-digit.digit-index c.args.digits.now c.loop-digit.invariant.0 (omega arith) c.loop-digit.invariant.1)
