use Rattle.std.proofs.Common.{◌≡◌, length, Some}
use Rattle.rhai_scope.specs.ScopeBytes.{both_bytes, entries_bytes, scope_bytes}
use Rattle.rhai_scope.proofs.hashed.bytes_of.Given as goal

abbrev pub invariant-loop-name : goal.invariant-loop-name
invariant-loop-name l = both_bytes (Some l.out.items) (entries_bytes l.store l.rest) ≡ scope_bytes l.store l.entries

abbrev pub decreases-loop-name : goal.decreases-loop-name
decreases-loop-name l = length l.rest
