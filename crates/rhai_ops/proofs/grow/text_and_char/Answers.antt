use Rattle.std.proofs.Common.{rules}
use Rattle.rhai_ops.proofs.FromBelow.{assigned, same_text}
use Rattle.rhai_ops.proofs.grow.text_and_char.Goals as goal

pub returns : goal.returns
returns c = assigned same_text _ c.held_part_mut.result.now c.extend.new.text c.value.result c.held_part_mut.ensures.value c.value.ensures (search rules)
