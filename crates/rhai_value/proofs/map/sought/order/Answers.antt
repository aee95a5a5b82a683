use Rattle.std.proofs.Common.{sym, ◌∙◌, arith}
use Rattle.rhai_value.proofs.Fronts.{front_below, front_above, short_alike}
use Rattle.rhai_value.proofs.map.sought.order.Goals as goal

pub returns-then-front-other_front : goal.returns-then-front-other_front
returns-then-front-other_front c = sym (front_below _ _ c.type_inv.text c.type_inv.other (omega (arith, c.requires.fronts.0, c.requires.fronts.1, c.if-front-other_front.true)))

pub returns-then-other_front-front : goal.returns-then-other_front-front
returns-then-other_front-front c = sym (front_above _ _ c.type_inv.text c.type_inv.other (omega (arith, c.requires.fronts.0, c.requires.fronts.1, c.if-other_front-front.true)))

pub returns-then-other-le8 : goal.returns-then-other-le8
returns-then-other-le8 c =
    c.cmp.ensures
    ∙ sym (short_alike c.args.text.now c.args.other.now c.if-text-le8.true c.if-other-le8.true c.type_inv.text c.type_inv.other
    (omega (arith, c.requires.fronts.0, c.requires.fronts.1, c.if-front-other_front.false, c.if-other_front-front.false)))
