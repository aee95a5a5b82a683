use Rattle.std.proofs.Common.{◌≡◌, length, take, drop}
use Rattle.rhai_value.specs.Lists.{rows}
use Rattle.rhai_value.specs.RowWalks.{row_scanned, scanned}
use Rattle.rhai_value.proofs.map.write.write_entries.Given as goal

abbrev pub invariant-loop-entry : goal.invariant-loop-entry
invariant-loop-entry o l = record {
  on : (l.writer, rows (take l.entry-index l.entry-items)) ≡ scanned (row_scanned o.W.ValueWriter.writes) l.fn.writer (rows (take l.entry-index l.fn.entries.items));
  rest : drop l.entry-index l.entry-items ≡ drop l.entry-index l.fn.entries.items;
  long : length l.entry-items ≡ length l.fn.entries.items;
}
