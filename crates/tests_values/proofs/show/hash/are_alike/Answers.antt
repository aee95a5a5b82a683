use Rattle.std.proofs.Common.{IfSome, subst}
use Rattle.rhai_show.specs.InRange.{IsHashed}
use Rattle.tests_values.proofs.show.hash.are_alike.Goals as goal

pub returns : goal.returns
returns c =
    let s = c.args.store.now in
    let first = subst (λ o. IfSome o (IsHashed s c.args.value.now)) c.in-Some.is c.in_ok-first.ensures.told in
    let second = subst (λ o. IfSome o (IsHashed s c.args.other.now)) c.in-Some-2.is c.in_ok-second.ensures.told in
    let tell = c.hash_bytes_tell_values_apart.ensures s s c.args.value.now c.args.other.now _ _ first second in
    (λ same. tell.0 (c.eq.ensures.equal.0 same), λ alike. c.eq.ensures.equal.1 (tell.1 alike))
