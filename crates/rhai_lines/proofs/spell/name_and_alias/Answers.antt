use Rattle.rhai_lines.specs.Vocabulary.{a_name}
use Rattle.rhai_lines.specs.Arguments.{an_alias}
use Rattle.rhai_lines.proofs.Spoken.{before_added, before_none}
use Rattle.rhai_lines.proofs.spell.name_and_alias.Goals as goal

pub returns-then-not-branch : goal.returns-then-not-branch
returns-then-not-branch c = before_none c.args.verb.now a_name an_alias (c.args.name.now, c.args.alias.now) (rw c.if-not-branch.true at c.in_ok-args1.ensures)

pub returns : goal.returns
returns c = before_added c.add_alias.result c.args.verb.now a_name an_alias (c.args.name.now, c.args.alias.now) _ _ _ (rw c.if-not-branch.false at c.in_ok-args1.ensures) c.add_alias.ensures
