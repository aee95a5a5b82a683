use Rattle.std.proofs.Common.{◌≡◌, ◌∙◌, ap, get_or, length-set, arith, rules}
use Rattle.std.proofs.lemmas.List.{get_or_default}
use Rattle.rhai_value.specs.RowWalks.{chunk_scanned, chunk_view}
use Rattle.rhai_value.proofs.RowWalks.{walk_on, walk_rest, walk_end}
use Rattle.rhai_value.proofs.map.write.write_chunks.Goals as goal

pub loop-chunk-preserved : goal.loop-chunk-preserved
loop-chunk-preserved g c =
    let i = c.loop-chunk.invariant in
    let xs = c.loop-chunk.chunk-items in
    let old = c.args.rest.now.items in
    let n = c.loop-chunk.chunk-index in
    let f = chunk_scanned g.W.ValueWriter.writes in
    let x = get_or xs n c.chunk-item.result in
    let is = get_or_default xs n c.chunk-item.result x (omega arith) in
    let u = record x { entries = c.write_entries.new.entries } in
    let did : (c.write_entries.new.writer, chunk_view u) ≡ f c.loop-chunk.writer (chunk_view x) = ap (λ y. (y.0, (x.front, y.1))) c.write_entries.ensures in
    record {
      on = walk_on chunk_view f c.args.writer.now c.loop-chunk.writer c.write_entries.new.writer xs old n x u i.on i.rest (omega arith) i.long is did;
      rest = walk_rest chunk_view f c.args.writer.now c.loop-chunk.writer c.write_entries.new.writer xs old n x u i.on i.rest (omega arith) i.long is did;
      long = length-set xs n u ∙ i.long;
    }

pub returns : goal.returns
returns g c =
    let i = c.loop-chunk.invariant in
    walk_end chunk_view (chunk_scanned g.W.ValueWriter.writes) c.args.writer.now c.loop-chunk.writer c.loop-chunk.chunk-items c.args.rest.now.items c.loop-chunk.chunk-index c.args.rest.now.len i.on i.long (omega arith) (search rules)
