use Rattle.std.proofs.Common.{◌≡◌, length}
use Rattle.rhai_lines.specs.Words.{named}
use Rattle.rhai_lines.specs.Cursor.{rows}
use Rattle.rhai_lines.proofs.words.named.Given as goal

abbrev pub invariant-loop-left : goal.invariant-loop-left
invariant-loop-left g l = named (rows l.fn.table) l.fn.word ≡ named (rows l.left) l.fn.word

abbrev pub decreases-loop-left : goal.decreases-loop-left
decreases-loop-left g l = length l.left
