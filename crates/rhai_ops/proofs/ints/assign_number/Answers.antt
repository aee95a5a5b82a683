use Rattle.std.proofs.Common.{refl, rules}
use Rattle.rhai_ops.proofs.FromBelow.{assigned, same_int}
use Rattle.rhai_ops.proofs.ints.assign_number.Goals as goal

pub returns : goal.returns
returns c = assigned same_int _ c.held_part_mut.result.now c.write_number.new.held c.args.number c.held_part_mut.ensures.value refl (search rules)
