use Rattle.std.proofs.Common.{rules, sym}
use Rattle.rhai_ops.proofs.Bytes.{own_text}
use Rattle.rhai_ops.proofs.grow.text_and_text.Goals as goal

pub returns-in-Some : goal.returns-in-Some
returns-in-Some c = rw (own_text c.args.store.now c.args.right.now c.in-Some.own.now (sym c.in-Some.ensures)) c.append_at.ensures
