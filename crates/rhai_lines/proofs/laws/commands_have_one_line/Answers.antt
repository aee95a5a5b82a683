use Rattle.rhai_lines.proofs.OneLine.{some_line, one_line, one_journal}
use Rattle.rhai_lines.proofs.laws.commands_have_one_line.Goals as goal

pub returns-clause-some : goal.returns-clause-some
returns-clause-some c = some_line

pub returns-clause-line : goal.returns-clause-line
returns-clause-line c = one_line

pub returns-clause-journal : goal.returns-clause-journal
returns-clause-journal c = one_journal
