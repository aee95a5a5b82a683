use Rattle.std.proofs.Common.{◌-◌, ap, ◌∙◌}
use Rattle.std.proofs.Math.Seq.{map-set_same}
use Rattle.rhai_value.specs.Lists.{rows}
use Rattle.rhai_value.specs.RowWalks.{chunk_view}
use Rattle.rhai_value.specs.declared.map.Chunk.{Chunk}
use Rattle.rhai_value.proofs.map.MapParts.grow_list.Goals as goal

pub returns-else-number-eq0-clause-rest : goal.returns-else-number-eq0-clause-rest
returns-else-number-eq0-clause-rest c =
    let x : Chunk = c.index_mut.result.now in
    let u : Chunk = record x { entries = c.make_room-else-number-eq0.new.entries } in
    map-set_same chunk_view c.args.self.now.rest.items (c.args.number - 1) u x (ap (λ es. (x.front, rows es)) c.make_room-else-number-eq0.ensures.items ∙ ap chunk_view c.index_mut.ensures.value)
