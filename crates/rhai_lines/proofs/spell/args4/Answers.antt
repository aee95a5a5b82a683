use Rattle.rhai_lines.specs.Arguments.{one, before}
use Rattle.rhai_lines.proofs.Spoken.{before_added, before_none}
use Rattle.rhai_lines.proofs.spell.args4.Goals as goal

pub returns-then-not-branch : goal.returns-then-not-branch
returns-then-not-branch g c = before_none c.args.verb.now g.A.Word.word (before g.B.Word.word (before g.C.Word.word (one g.D.Word.word))) (c.args.a.now, (c.args.b.now, (c.args.c.now, c.args.d.now))) (rw c.if-not-branch.true at c.in_ok-args1.ensures)

pub returns : goal.returns
returns g c = before_added c.args3.result c.args.verb.now g.A.Word.word (before g.B.Word.word (before g.C.Word.word (one g.D.Word.word))) (c.args.a.now, (c.args.b.now, (c.args.c.now, c.args.d.now))) _ _ _ (rw c.if-not-branch.false at c.in_ok-args1.ensures) c.args3.ensures
