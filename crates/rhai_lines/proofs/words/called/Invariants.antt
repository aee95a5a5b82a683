use Rattle.std.proofs.Common.{◌≡◌, length}
use Rattle.rhai_lines.specs.Spelling.{called}
use Rattle.rhai_lines.specs.Cursor.{rows}
use Rattle.rhai_lines.proofs.words.called.Given as goal

abbrev pub invariant-loop-left : goal.invariant-loop-left
invariant-loop-left g l = called g.A.PartialEq.eq (rows l.fn.table) l.fn.value ≡ called g.A.PartialEq.eq (rows l.left) l.fn.value

abbrev pub decreases-loop-left : goal.decreases-loop-left
decreases-loop-left g l = length l.left
