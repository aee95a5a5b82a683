use Rattle.rhai_lines.specs.Arguments.{one}
use Rattle.rhai_lines.proofs.Spoken.{before_added, before_none}
use Rattle.rhai_lines.proofs.spell.args2.Goals as goal

pub returns-then-not-branch : goal.returns-then-not-branch
returns-then-not-branch g c = before_none c.args.verb.now g.A.Word.word (one g.B.Word.word) (c.args.a.now, c.args.b.now) (rw c.if-not-branch.true at c.in_ok-args1.ensures)

pub returns : goal.returns
returns g c = before_added c.args1-2.result c.args.verb.now g.A.Word.word (one g.B.Word.word) (c.args.a.now, c.args.b.now) _ _ _ (rw c.if-not-branch.false at c.in_ok-args1.ensures) c.args1-2.ensures
