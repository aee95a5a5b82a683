use Rattle.rhai_lines.proofs.LinesBack.{added_line, added_says}
use Rattle.rhai_lines.proofs.journals.line_of.Goals as goal

pub returns-then-branch-clause-line : goal.returns-then-branch-clause-line
returns-then-branch-clause-line c = added_line c.args.command.now _ _ c.new-line.ensures.bytes (rw c.if-branch.true at c.in_ok-add_line.ensures)

pub returns-then-branch-clause-reads_back : goal.returns-then-branch-clause-reads_back
returns-then-branch-clause-reads_back c = added_says c.args.command.now _ _ c.new-line.ensures.bytes (rw c.if-branch.true at c.in_ok-add_line.ensures)
