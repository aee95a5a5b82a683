use Rattle.std.proofs.Common.{◌≡◌, length}
use Rattle.rhai_scope.specs.Extended.{extended_flagged}
use Rattle.rhai_scope.proofs.scope.Scope.extend_flagged.Given as goal

abbrev pub invariant-loop-name : goal.invariant-loop-name
invariant-loop-name g l = record { so_far : l.self ≡ extended_flagged l.fn.self l.yielded; len : l.len ≡ length l.fn.self }
