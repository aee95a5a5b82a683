use Rattle.rhai_value.proofs.SeatResults.{nodes_exchanged}
use Rattle.rhai_value.proofs.map.MapParts.swap_first.Goals as goal

pub returns-in-Some-clause-ok : goal.returns-in-Some-clause-ok
returns-in-Some-clause-ok c =
    let done = c.replace_at.ensures in
    rw done.value (nodes_exchanged c.args.self.now c.replace_at.new.self c.in-Some.seat c.in-Some.ensures.0 c.args.with done.before done.row done.past done.seated)
