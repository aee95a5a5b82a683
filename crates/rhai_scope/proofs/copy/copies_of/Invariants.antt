use Rattle.std.proofs.Common.{◌≡◌, map, take}
use Rattle.rhai_scope.specs.Entry.{copied_entry}
use Rattle.rhai_scope.proofs.copy.copies_of.Given as goal

abbrev pub invariant-loop-entry : goal.invariant-loop-entry
invariant-loop-entry l = l.copies.items ≡ map copied_entry (take l.entry-index l.entries)
