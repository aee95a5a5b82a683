use Rattle.rhai_lines.specs.Cursor.{left_in}
use Rattle.rhai_lines.proofs.Lookups.{of_length}
use Rattle.rhai_lines.proofs.verbs.nine_letters.Goals as goal

pub returns-in_default : goal.returns-in_default
returns-in_default c = search (of_length 9 c.args.verb.now (left_in c.args.left.now) c.requires)
