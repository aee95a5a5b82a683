use Rattle.std.proofs.Common.{◌≡◌, length, take, drop}
use Rattle.rhai_value.specs.Hollow.{exchanged, parted}
use Rattle.rhai_value.specs.Lists.{rows}
use Rattle.rhai_value.specs.RowWalks.{row_scanned, scanned}
use Rattle.rhai_value.proofs.map.exchange.exchange_entries.Given as goal

abbrev pub invariant-loop-entry : goal.invariant-loop-entry
invariant-loop-entry l = record {
  on : (parted l.values.items l.at, rows (take l.entry-index l.entry-items)) ≡ scanned (row_scanned exchanged) (parted l.fn.values.items l.from) (rows (take l.entry-index l.fn.entries.items));
  rest : drop l.entry-index l.entry-items ≡ drop l.entry-index l.fn.entries.items;
  long : length l.entry-items ≡ length l.fn.entries.items;
}
