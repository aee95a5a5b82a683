use Rattle.std.proofs.Common.{refl}
use Rattle.rhai_value.proofs.SeatEdits.{empty_whole}
use Rattle.rhai_value.proofs.map.MapParts.new.Goals as goal

pub returns-clause-whole : goal.returns-clause-whole
returns-clause-whole c = empty_whole (record { first = c.new.result; rest = c.new-2.result; len = 0 }) c.new.ensures.items c.new-2.ensures.items refl
