use Rattle.std.proofs.Common.{sym, ◌∙◌}
use Rattle.rhai_lines.specs.Cursor.{left_in}
use Rattle.rhai_lines.proofs.Cuts.{command_of-no_text, command_of-verb, takes-verb}
use Rattle.rhai_lines.proofs.verbs.command.Goals as goal

pub returns-in_default-clause-command : goal.returns-in_default-clause-command
returns-in_default-clause-command c = sym (command_of-no_text c.args.line.now c.in_default.ensures.cases.0)

pub returns-in-Ok-read-clause-command : goal.returns-in-Ok-read-clause-command
returns-in-Ok-read-clause-command c =
    sym (command_of-verb c.args.line.now c.in-Ok.text.now _ (left_in c.first_word.result.1) c.in-Ok.ensures.cases.0 c.in-Ok.ensures.cases.1 c.first_word.ensures.word c.first_word.ensures.left ∙ c.in-Ok-read.ensures)

pub returns-in-Err-BadLine-clause-command : goal.returns-in-Err-BadLine-clause-command
returns-in-Err-BadLine-clause-command c =
    sym (command_of-verb c.args.line.now c.in-Ok.text.now _ (left_in c.first_word.result.1) c.in-Ok.ensures.cases.0 c.in-Ok.ensures.cases.1 c.first_word.ensures.word c.first_word.ensures.left ∙ (rw c.in-Err-BadLine.field-0-is at c.in-Err-BadLine.ensures))

pub returns-in-Err-Memory-clause-memory : goal.returns-in-Err-Memory-clause-memory
returns-in-Err-Memory-clause-memory c =
    takes-verb c.args.line.now c.in-Ok.text.now _ (left_in c.first_word.result.1) c.in-Ok.ensures.cases.0 c.first_word.ensures.word c.first_word.ensures.left ∙ (rw c.in-Err-Memory.field-0-is at c.in-Err-Memory.ensures)
