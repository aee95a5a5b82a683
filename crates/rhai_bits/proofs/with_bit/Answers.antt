use Rattle.std.proofs.Common.{ap, sym, ◌∙◌}
use Rattle.rhai_bits.specs.Bits as specs
use Rattle.rhai_bits.proofs.IntBits.{set_is, clear_is}
use Rattle.rhai_bits.proofs.with_bit.Goals as goal

pub returns-then-is_set : goal.returns-then-is_set
returns-then-is_set c = set_is c.args.number c.args.place c.ranges.number c.requires ∙ ap (λ b. specs.with_bit c.args.place b c.args.number) (sym c.if-is_set.true)

pub returns-else-is_set : goal.returns-else-is_set
returns-else-is_set c = clear_is c.args.number c.args.place c.ranges.number c.requires ∙ ap (λ b. specs.with_bit c.args.place b c.args.number) (sym c.if-is_set.false)
