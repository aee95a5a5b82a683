use Rattle.std.proofs.Common.{◌≡◌, subst}
use Rattle.rhai_scope.specs.Extended.{extended}
use Rattle.rhai_scope.proofs.scope.Scope.from_pairs.Goals as goal

pub returns : goal.returns
returns g c = let made = c.in_ok-extend.ensures.ok in (made.0, made.1, made.2, made.3, subst (λ es. c.extend.new.self ≡ extended es made.1) c.new-scope.ensures made.4)
