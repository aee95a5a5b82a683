use Rattle.std.proofs.Common.{◌≡◌, ◌≤◌, length, map, drop}
use Rattle.rhai_scope.specs.Entry.{copied_entry}
use Rattle.rhai_scope.specs.Lookup.{visible}
use Rattle.rhai_scope.proofs.Seen.{NamesPass}
use Rattle.rhai_scope.proofs.scope.Scope.copy_visible.Given as goal

abbrev pub invariant-loop-i : goal.invariant-loop-i
invariant-loop-i l = record {
  within : l.i ≤ length l.self;
  pass : NamesPass l.behind (drop l.i l.self);
  kept : l.copies.items ≡ map copied_entry (visible (drop l.i l.self));
}

abbrev pub decreases-loop-i : goal.decreases-loop-i
decreases-loop-i l = l.i
