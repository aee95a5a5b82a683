use Rattle.std.proofs.Common.{rules, refl}
use Rattle.rhai_ops.proofs.FromBelow.{assigned, same_text}
use Rattle.rhai_ops.proofs.grow.append_at.Goals as goal

pub returns : goal.returns
returns c = assigned same_text _ c.held_part_mut.result.now c.append.new.text c.args.more.now c.held_part_mut.ensures.value refl (search rules)
