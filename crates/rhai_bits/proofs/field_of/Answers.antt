use Rattle.std.proofs.Common.{◌∙◌, rules, w64, FitsSigned}
use Rattle.std.proofs.Math.Facts.{to_z-of_z}
use Rattle.rhai_bits.proofs.IntBits.{field_read_is}
use Rattle.rhai_bits.proofs.field_of.Goals as goal

pub returns : goal.returns
returns c =
    let fits : FitsSigned w64 c.cast_signed.result = search rules in
    to_z-of_z fits ∙ c.cast_signed.ensures ∙ field_read_is c.args.number c.args.mask c.args.shift c.cast_unsigned.result c.ranges.number c.cast_unsigned.ensures
