use Rattle.std.proofs.Common.{◌≡◌, ◌∙◌, ap, get_or, length-set, arith, rules}
use Rattle.std.proofs.lemmas.List.{get_or_default}
use Rattle.rhai_value.specs.Hollow.{exchanged, parted}
use Rattle.rhai_value.specs.RowWalks.{chunk_scanned, chunk_view}
use Rattle.rhai_value.proofs.RowWalks.{walk_on, walk_rest, walk_end}
use Rattle.rhai_value.proofs.map.exchange.exchange_chunks.Goals as goal

pub loop-chunk-preserved : goal.loop-chunk-preserved
loop-chunk-preserved c =
    let i = c.loop-chunk.invariant in
    let xs = c.loop-chunk.chunk-items in
    let old = c.args.rest.now.items in
    let n = c.loop-chunk.chunk-index in
    let f = chunk_scanned exchanged in
    let first = parted c.args.values.now.items c.args.from in
    let now = parted c.loop-chunk.values.items c.loop-chunk.at in
    let later = parted c.exchange_entries-at.new.values.items c.exchange_entries-at.result in
    let x = get_or xs n c.chunk-item.result in
    let is = get_or_default xs n c.chunk-item.result x (omega arith) in
    let u = record x { entries = c.exchange_entries-at.new.entries } in
    let did : (later, chunk_view u) ≡ f now (chunk_view x) = ap (λ y. (y.0, (x.front, y.1))) c.exchange_entries-at.ensures in
    record {
      on = walk_on chunk_view f first now later xs old n x u i.on i.rest (omega arith) i.long is did;
      rest = walk_rest chunk_view f first now later xs old n x u i.on i.rest (omega arith) i.long is did;
      long = length-set xs n u ∙ i.long;
    }

pub returns : goal.returns
returns c =
    let i = c.loop-chunk.invariant in
    walk_end chunk_view (chunk_scanned exchanged) (parted c.args.values.now.items c.args.from) (parted c.loop-chunk.values.items c.loop-chunk.at) c.loop-chunk.chunk-items c.args.rest.now.items c.loop-chunk.chunk-index c.args.rest.now.len i.on i.long (omega arith) (search rules)
