use Rattle.std.proofs.Common.{rules, refl}
use Rattle.rhai_ops.proofs.FromBelow.{assigned, same_blob}
use Rattle.rhai_ops.proofs.push.push_bytes.Goals as goal

pub returns : goal.returns
returns c = assigned same_blob _ c.held_part_mut.result.now.items c.extend.new.bytes.items c.args.more.now c.held_part_mut.ensures.value refl (search rules)
