use Rattle.std.proofs.Common.{[], refl, ap, ◌∙◌}
use Rattle.rhai_value.specs.Children.{listed_fields}
use Rattle.rhai_value.specs.Hollow.{exchanged, parted}
use Rattle.rhai_value.specs.Lists.{rows_of}
use Rattle.rhai_value.specs.Rows.{fields_of}
use Rattle.rhai_value.proofs.Hollows.{exchange_given, exchange_taken, parts_settled}
use Rattle.rhai_value.proofs.KeptKeys.{parts_scanned, whole_scanned}
use Rattle.rhai_value.proofs.map.exchange.exchange_parts.Goals as goal

pub returns-clause-given : goal.returns-clause-given
returns-clause-given c =
    let q = record c.args.parts.now { first = c.exchange_entries-at.new.entries; rest = c.exchange_chunks.new.rest } in
    let done = parts_scanned exchanged (parted c.args.values.now.items 0) (parted c.exchange_entries-at.new.values.items c.exchange_entries-at.result) (parted c.exchange_chunks.new.values.items c.exchange_chunks.result) c.args.parts.now q c.exchange_entries-at.ensures c.exchange_chunks.ensures in
    ap (λ x. x.1) done ∙ exchange_given [] c.args.values.now.items (fields_of (rows_of c.args.parts.now))

pub returns-clause-taken : goal.returns-clause-taken
returns-clause-taken c long =
    let q = record c.args.parts.now { first = c.exchange_entries-at.new.entries; rest = c.exchange_chunks.new.rest } in
    let done = parts_scanned exchanged (parted c.args.values.now.items 0) (parted c.exchange_entries-at.new.values.items c.exchange_entries-at.result) (parted c.exchange_chunks.new.values.items c.exchange_chunks.result) c.args.parts.now q c.exchange_entries-at.ensures c.exchange_chunks.ensures in
    let fs = fields_of (rows_of c.args.parts.now) in
    let parts = ap (λ x. x.0) done ∙ exchange_taken [] c.args.values.now.items fs long in
    parts_settled c.exchange_chunks.new.values.items (listed_fields fs) c.exchange_chunks.result (ap (λ x. x.0) parts) (ap (λ x. x.1) parts)

pub returns-clause-whole : goal.returns-clause-whole
returns-clause-whole c =
    let q = record c.args.parts.now { first = c.exchange_entries-at.new.entries; rest = c.exchange_chunks.new.rest } in
    whole_scanned exchanged (parted c.args.values.now.items 0) (parted c.exchange_entries-at.new.values.items c.exchange_entries-at.result) (parted c.exchange_chunks.new.values.items c.exchange_chunks.result) c.args.parts.now q c.exchange_entries-at.ensures c.exchange_chunks.ensures refl c.requires
