use Rattle.std.proofs.Common.{◌≡◌, [], length, string_bytes}
use Rattle.rhai_lines.proofs.Replays.{IsFront}
use Rattle.rhai_lines.proofs.journals.journal.Given as goal

abbrev pub invariant-loop-left : goal.invariant-loop-left
invariant-loop-left l = IsFront l.fn.commands l.left (string_bytes l.text) × (l.fn.commands ≡ [] → l.left ≡ [])

abbrev pub decreases-loop-left : goal.decreases-loop-left
decreases-loop-left l = length l.left
