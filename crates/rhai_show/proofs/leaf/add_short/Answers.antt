use Rattle.std.proofs.Common.{arith}
use Rattle.rhai_show.proofs.Pushed.{added_twice, two_digits}
use Rattle.rhai_show.proofs.leaf.add_short.Goals as goal

pub returns : goal.returns
returns c = added_twice c.add_digit-3.result _ _ _ _ _ _ c.in_ok-add_digit.ensures (two_digits c.args.number (omega (arith, c.if-number-lt10.false)) (omega (arith, c.requires))) c.add_digit-3.ensures
