use Rattle.std.proofs.lemmas.Result.{err_from_is_err_and}
use Rattle.rhai_run.specs.State.{State}
use Rattle.rhai_run.specs.StateCode.{state_of}
use Rattle.rhai_run.proofs.Moves.{share_done, share_stopped, read_at}
use Rattle.rhai_run.proofs.world_state.WorldState.share.Goals as goal

pub returns-in_err-share_in_place : goal.returns-in_err-share_in_place
returns-in_err-share_in_place c =
    let w = c.args.self.now in
    let v : State = state_of c.self.inside.store c.self.inside.scope c.self.inside.marks.items c.self.inside.hand.items c.self.inside.limits in
    let at = read_at w v c.args.i _ c.index_mut.result.now c.self.view_is c.in_ok-value.ensures.ok c.index_mut.ensures.value in
    let k = c.in_err-share_in_place.ensures in
    let p = err_from_is_err_and c.from_residual-in_err-share_in_place.result c.from_residual-in_err-share_in_place.ensures.1 in
    rw (p.1, p.2) (share_stopped w v c.args.i c.index_mut.result.now c.share_in_place.new.self c.share_in_place.new.store c.self.view_is at k.free k.err.0 k.err.1)

pub returns : goal.returns
returns c =
    let w = c.args.self.now in
    let v : State = state_of c.self.inside.store c.self.inside.scope c.self.inside.marks.items c.self.inside.hand.items c.self.inside.limits in
    let at = read_at w v c.args.i _ c.index_mut.result.now c.self.view_is c.in_ok-value.ensures.ok c.index_mut.ensures.value in
    share_done w v c.args.i c.index_mut.result.now c.share_in_place.new.self c.share_in_place.new.store c.self.view_is at c.in_ok-share_in_place.ensures.own c.in_ok-share_in_place.ensures.store
