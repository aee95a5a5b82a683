use Rattle.std.proofs.Common.{arith}
use Rattle.rhai_value.proofs.SeatResults.{nodes_taken}
use Rattle.rhai_value.proofs.map.MapParts.pop_last.Goals as goal

pub returns-in-Some-clause-fewer : goal.returns-in-Some-clause-fewer
returns-in-Some-clause-fewer c =
    omega (arith, nodes_taken c.args.self.now c.take-key.new.self c.in-Some.seat c.in-Some.ensures.0 c.take-key.result c.take-key.ensures.entry c.take-key.ensures.rows)
