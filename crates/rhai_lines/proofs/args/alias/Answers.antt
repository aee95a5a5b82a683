use Rattle.std.proofs.Common.{ℕ, List, None, Some, Result, Ok, Err}
use Rattle.rhai_lines.specs.declared.words.NoCommand.{NoCommand}
use Rattle.rhai_lines.specs.declared.words.NoCommand.TheVariants.{BadLine, Memory}
use Rattle.rhai_lines.specs.Vocabulary.{a_name}
use Rattle.rhai_lines.specs.Arguments.{one, an_alias, a_text, says}
use Rattle.rhai_lines.specs.Memory.{takes}
use Rattle.rhai_lines.specs.Cursor.{Finds}
use Rattle.rhai_lines.proofs.args.alias.Goals as goal

by_name : (r : Result (List ℕ) NoCommand) (text : List ℕ) → Finds r (one a_name) (Some text) → Finds r an_alias (Some text)
unfolding says takes
by_name (Ok alias) text h = h
by_name (Err BadLine) text h = h
by_name (Err Memory) text h = h

missing : (r : Result (List ℕ) NoCommand) → Finds r a_text None → Finds r an_alias None
unfolding says takes
missing (Ok alias) h = h
missing (Err BadLine) h = cc
missing (Err Memory) h = h

pub returns-in-None : goal.returns-in-None
returns-in-None c = rw c.in-None.is (missing c.text.result (rw c.in-None.is at c.text.ensures))

pub returns-in-Some : goal.returns-in-Some
returns-in-Some c = rw c.in-Some.is (by_name c.last_word.result c.in-Some.field-0.now (rw c.in-Some.is at c.last_word.ensures))
