use Rattle.std.proofs.Common.{◌≡◌, ◌∙◌, ap, get_or, length-set, arith, rules}
use Rattle.std.proofs.lemmas.List.{get_or_default}
use Rattle.rhai_value.specs.Hollow.{exchanged, parted}
use Rattle.rhai_value.specs.Lists.{row_of}
use Rattle.rhai_value.specs.RowWalks.{row_scanned}
use Rattle.rhai_value.proofs.RowWalks.{walk_on, walk_rest, walk_end}
use Rattle.rhai_value.proofs.map.exchange.exchange_entries.Goals as goal

pub loop-entry-preserved : goal.loop-entry-preserved
loop-entry-preserved c =
    let i = c.loop-entry.invariant in
    let xs = c.loop-entry.entry-items in
    let old = c.args.entries.now.items in
    let n = c.loop-entry.entry-index in
    let f = row_scanned exchanged in
    let first = parted c.args.values.now.items c.args.from in
    let now = parted c.loop-entry.values.items c.loop-entry.at in
    let later = parted c.exchange_value-at.new.values.items c.exchange_value-at.result in
    let x = get_or xs n c.entry-item.result in
    let is = get_or_default xs n c.entry-item.result x (omega arith) in
    let u = record x { value = c.exchange_value-at.new.value } in
    let did : (later, row_of u) ≡ f now (row_of x) = ap (λ y. (y.0, (x.key, y.1))) c.exchange_value-at.ensures in
    record {
      on = walk_on row_of f first now later xs old n x u i.on i.rest (omega arith) i.long is did;
      rest = walk_rest row_of f first now later xs old n x u i.on i.rest (omega arith) i.long is did;
      long = length-set xs n u ∙ i.long;
    }

pub returns : goal.returns
returns c =
    let i = c.loop-entry.invariant in
    walk_end row_of (row_scanned exchanged) (parted c.args.values.now.items c.args.from) (parted c.loop-entry.values.items c.loop-entry.at) c.loop-entry.entry-items c.args.entries.now.items c.loop-entry.entry-index c.args.entries.now.len i.on i.long (omega arith) (search rules)
