use Rattle.std.proofs.Common.{◌≡◌, length, map, take, drop}
use Rattle.rhai_value.specs.RowWalks.{chunk_scanned, chunk_view, scanned}
use Rattle.rhai_value.proofs.map.write.write_chunks.Given as goal

abbrev pub invariant-loop-chunk : goal.invariant-loop-chunk
invariant-loop-chunk o l = record {
  on : (l.writer, map chunk_view (take l.chunk-index l.chunk-items)) ≡ scanned (chunk_scanned o.W.ValueWriter.writes) l.fn.writer (map chunk_view (take l.chunk-index l.fn.rest.items));
  rest : drop l.chunk-index l.chunk-items ≡ drop l.chunk-index l.fn.rest.items;
  long : length l.chunk-items ≡ length l.fn.rest.items;
}
