use Rattle.std.proofs.Common.{◌≡◌, subst}
use Rattle.rhai_scope.specs.Extended.{extended_flagged}
use Rattle.rhai_scope.proofs.scope.Scope.from_flagged.Goals as goal

pub returns : goal.returns
returns g c = let made = c.in_ok-extend_flagged.ensures.ok in (made.0, made.1, made.2, made.3, subst (λ es. c.extend_flagged.new.self ≡ extended_flagged es made.1) c.new-scope.ensures made.4)
