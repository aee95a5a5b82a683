use Rattle.std.proofs.Common.{refl, sym, subst}
use Rattle.rhai_value.specs.Lists.{AreFronted, Begins}
use Rattle.rhai_value.specs.declared.map.Chunk.{Chunk}
use Rattle.rhai_value.specs.declared.map.MapParts.{MapParts}
use Rattle.rhai_value.proofs.SeatEdits.{begins_first, chunk_inserted, fronted_inserted}
use Rattle.rhai_value.proofs.map.MapParts.put_chunk.Goals as goal

pub returns-clause-lists : goal.returns-clause-lists
returns-clause-lists c =
    let p = c.args.self.now in
    let q : MapParts = record p { rest = c.insert_chunk.new.rest } in
    let u : Chunk = record { front = c.front-front.result; entries = c.args.entries } in
    chunk_inserted p q c.args.number u refl c.insert_chunk.ensures

pub returns-clause-fronted : goal.returns-clause-fronted
returns-clause-fronted c =
    let p = c.args.self.now in
    let u : Chunk = record { front = c.front-front.result; entries = c.args.entries } in
    let begins : Begins u.front u.entries.items = begins_first u.front u.entries.items c.index.result.now c.requires.some c.index.ensures c.front-front.ensures in
    subst AreFronted (sym c.insert_chunk.ensures) (fronted_inserted p.rest.items c.args.number u c.requires.fronted begins)
