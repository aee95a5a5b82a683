use Rattle.rhai_value.proofs.SeatResults.{first_taken}
use Rattle.rhai_value.proofs.map.MapParts.pop_first_key.Goals as goal

pub returns-in-Some-clause-first : goal.returns-in-Some-clause-first
returns-in-Some-clause-first c = first_taken c.args.self.now c.take-key.new.self c.in-Some.seat c.in-Some.ensures.0 c.take-key.result c.in-Some.ensures.1 c.take-key.ensures.entry c.take-key.ensures.rows
