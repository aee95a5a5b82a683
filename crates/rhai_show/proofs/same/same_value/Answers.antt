use Rattle.std.proofs.Common.{IfSome, subst}
use Rattle.rhai_show.specs.InRange.{IsHashed}
use Rattle.rhai_show.proofs.same.same_value.Goals as goal

pub returns-clause-same : goal.returns-clause-same
returns-clause-same c =
    let s = c.args.store.now in
    let first = subst (λ o. IfSome o (IsHashed s c.args.x.now)) c.in-Some.is c.in_ok-a.ensures.told in
    let second = subst (λ o. IfSome o (IsHashed s c.args.y.now)) c.in-Some-2.is c.in_ok-b.ensures.told in
    let tell = c.hash_bytes_tell_values_apart.ensures s s c.args.x.now c.args.y.now _ _ first second in
    (λ same. tell.0 (c.eq.ensures.equal.0 same), λ alike. c.eq.ensures.equal.1 (tell.1 alike))
