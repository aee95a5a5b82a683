use Rattle.std.proofs.Common.{◌≡◌, length}
use Rattle.rhai_scope.specs.Extended.{extended}
use Rattle.rhai_scope.proofs.scope.Scope.extend.Given as goal

abbrev pub invariant-loop-name : goal.invariant-loop-name
invariant-loop-name g l = record { so_far : l.self ≡ extended l.fn.self l.yielded; len : l.len ≡ length l.fn.self }
