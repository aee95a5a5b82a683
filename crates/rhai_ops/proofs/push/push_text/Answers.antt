use Rattle.std.proofs.Common.{rules}
use Rattle.rhai_ops.proofs.Bytes.{none_appended}
use Rattle.rhai_ops.proofs.push.push_text.Goals as goal

pub returns-then-is_empty : goal.returns-then-is_empty
returns-then-is_empty c = none_appended c.args.limits.now c.args.store.now c.args.left.now _ (search rules) (search rules)
