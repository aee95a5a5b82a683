use Rattle.std.proofs.Common.{rules, ◌≡◌, Some}
use Rattle.std.proofs.lemmas.Result.{err_from_is_err_and}
use Rattle.rhai_ops.specs.Table.{row_of}
use Rattle.rhai_run.specs.State.{State}
use Rattle.rhai_run.specs.StateCode.{state_of}
use Rattle.rhai_run.proofs.Called.{called_value, called_refusal}
use Rattle.rhai_run.proofs.world_state.WorldState.operate.Goals as goal

pub returns-in_err-value : goal.returns-in_err-value
returns-in_err-value c =
    let w : State = c.args.self.now in
    let v : State = state_of c.self.inside.store c.self.inside.scope c.self.inside.marks.items c.self.inside.hand.items c.self.inside.limits in
    let found : row_of c.args.op w.store c.in_ok-x.x.now c.in_ok-y.y.now ≡ Some c.in_ok-row.row = search rules in
    let p = err_from_is_err_and c.from_residual-in_err-value.result c.from_residual-in_err-value.ensures.1 in
    called_refusal w v c.args.op c.args.i c.args.j c.in_ok-x.x.now c.in_ok-y.y.now c.in_ok-row.row c.self.view_is c.in_ok-x.ensures.ok c.in_ok-y.ensures.ok c.in_ok-differ.ensures.ok found
    c.in_err-value.field-0.0 p.0 c.from_residual-in_err-value.result c.in_err-value.ensures p.1 p.2

pub returns : goal.returns
returns c =
    let w : State = c.args.self.now in
    let v : State = state_of c.self.inside.store c.self.inside.scope c.self.inside.marks.items c.self.inside.hand.items c.self.inside.limits in
    let found : row_of c.args.op w.store c.in_ok-x.x.now c.in_ok-y.y.now ≡ Some c.in_ok-row.row = search rules in
    called_value w v c.args.op c.args.i c.args.j c.in_ok-x.x.now c.in_ok-y.y.now c.in_ok-row.row c.self.view_is c.in_ok-x.ensures.ok c.in_ok-y.ensures.ok c.in_ok-differ.ensures.ok found
    c.in_ok-value.value c.in_ok-value.ensures
