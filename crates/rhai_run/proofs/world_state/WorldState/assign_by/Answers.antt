use Rattle.std.proofs.Common.{◌≡◌, ◌∙◌, ◌<◌, length, sym, ap, subst}
use Rattle.rhai_value.specs.Tree.{fresh, unit}
use Rattle.rhai_run.specs.State.{State}
use Rattle.rhai_run.specs.StateCode.{state_of}
use Rattle.rhai_run.proofs.Assigns.{assign_moved, hand_stays, operands_moved}
use Rattle.rhai_run.proofs.world_state.WorldState.assign_by.Goals as goal

pub call_at-result-requires : goal.call_at-result-requires
call_at-result-requires c =
    let v : State = state_of c.self.inside.store c.self.inside.scope c.self.inside.marks.items c.self.inside.hand.items c.self.inside.limits in
    record { suits = operands_moved c.args.self.now v c.args.row c.args.slot c.args.j c.replace_at-y.result (fresh unit) c.replace_at-y.new.values.items c.self.view_is c.requires c.replace_at-y.ensures.value c.replace_at-y.ensures.after }

pub replace_at-requires : goal.replace_at-requires
replace_at-requires c =
    let v : State = state_of c.self.inside.store c.self.inside.scope c.self.inside.marks.items c.self.inside.hand.items c.self.inside.limits in
    let us = c.self-2.inside.hand in
    let long : length us.items ≡ length c.replace_at-y.new.values.items = ap (λ (q : State). length q.hand) c.self-2.view_is ∙ c.call_at-result.ensures.len in
    subst (λ n. c.args.j < n) (sym us.ok.0) (hand_stays v c.args.j c.replace_at-y.result (fresh unit) c.replace_at-y.new.values.items us.items c.replace_at-y.ensures.value c.replace_at-y.ensures.after long)

pub returns : goal.returns
returns c =
    let v : State = state_of c.self.inside.store c.self.inside.scope c.self.inside.marks.items c.self.inside.hand.items c.self.inside.limits in
    let z : State = state_of c.self-2.inside.store c.self-2.inside.scope c.self-2.inside.marks.items c.self-2.inside.hand.items c.self-2.inside.limits in
    let k = c.call_at-result.ensures in
    assign_moved c.args.self.now v c.call_at-result.new.self z c.args.slot c.args.j c.args.row c.replace_at-y.result (fresh unit) c.call_at-result.new.y c.replace_at-y.new.values.items c.replace_at.new.values.items c.call_at-result.result
    c.self.view_is c.requires c.replace_at-y.ensures.value c.replace_at-y.ensures.after k.result k.written k.second k.err c.self-2.view_is c.replace_at.ensures.after
