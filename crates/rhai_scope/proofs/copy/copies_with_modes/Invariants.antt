use Rattle.std.proofs.Common.{◌≡◌, ◌≤◌, length, take, vec_capacity}
use Rattle.rhai_scope.proofs.copy.copies_with_modes.Given as goal

abbrev pub invariant-loop-entry : goal.invariant-loop-entry
invariant-loop-entry l = record {
  room : length l.entries ≤ vec_capacity l.copies;
  copied : l.copies.items ≡ take l.entry-index l.entries;
}
