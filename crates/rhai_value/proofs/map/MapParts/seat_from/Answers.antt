use Rattle.std.proofs.Common.{arith}
use Rattle.std.proofs.lemmas.List.{length-map}
use Rattle.rhai_value.specs.Lists.{chunk_rows}
use Rattle.rhai_value.proofs.Seats.{next_list}
use Rattle.rhai_value.proofs.map.MapParts.seat_from.Goals as goal

pub returns-clause-from : goal.returns-clause-from
returns-clause-from c =
    next_list c.args.self.now c.args.seat c.requires.whole c.requires.open (omega (arith, c.if-seat-list_len.false, c.list_len.ensures))
    (omega (arith, c.if-seat-len.false, c.requires.open.list, length-map c.args.self.now.rest.items chunk_rows, c.args.self.now.rest.ok.0)) _ (omega arith)
