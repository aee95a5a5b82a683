use Rattle.std.proofs.Common.{◌≡◌, ◌≤◌, length, drop, None}
use Rattle.std.specs.Str.{chars}
use Rattle.rhai_scope.specs.Lookup.{last_position}
use Rattle.rhai_scope.proofs.index.last_behind.Given as goal

abbrev pub invariant-loop-i : goal.invariant-loop-i
invariant-loop-i l = record { above : l.first ≤ l.i; within : l.i ≤ length l.entries; none : last_position (chars l.name) (drop l.i l.entries) ≡ None }

abbrev pub decreases-loop-i : goal.decreases-loop-i
decreases-loop-i l = l.i
