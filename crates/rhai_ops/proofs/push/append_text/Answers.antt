use Rattle.std.proofs.Common.{rules, sym}
use Rattle.rhai_ops.proofs.Bytes.{own_text, none_appended}
use Rattle.rhai_ops.proofs.push.append_text.Goals as goal

pub returns-in-Some : goal.returns-in-Some
returns-in-Some c = rw (own_text c.args.store.now c.args.right.now c.in-Some.own.now (sym c.in-Some.ensures)) c.push_text.ensures

pub returns-then-is_empty : goal.returns-then-is_empty
returns-then-is_empty c = none_appended c.args.limits.now c.args.store.now c.args.left.now _ (search rules) (search rules)
