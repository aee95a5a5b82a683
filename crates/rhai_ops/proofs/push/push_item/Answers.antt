use Rattle.std.proofs.Common.{rules, refl}
use Rattle.rhai_value.specs.Rows.{trees_of}
use Rattle.rhai_ops.proofs.FromBelow.{assigned, same_array}
use Rattle.rhai_ops.proofs.push.push_item.Goals as goal

pub returns-clause-assigned : goal.returns-clause-assigned
returns-clause-assigned c = assigned same_array _ (trees_of c.held_part_mut.result.now.items) (trees_of c.push.new.items.items) c.args.right.now c.held_part_mut.ensures.value refl (search rules)
