use Rattle.rhai_bits.proofs.IntBits.{field_is}
use Rattle.rhai_bits.proofs.with_field.Goals as goal

pub returns : goal.returns
returns c = field_is c.args.number c.args.mask c.args.value c.args.shift c.ranges.number c.ranges.mask c.requires
