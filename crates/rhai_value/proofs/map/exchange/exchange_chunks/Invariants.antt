use Rattle.std.proofs.Common.{◌≡◌, length, map, take, drop}
use Rattle.rhai_value.specs.Hollow.{exchanged, parted}
use Rattle.rhai_value.specs.RowWalks.{chunk_scanned, chunk_view, scanned}
use Rattle.rhai_value.proofs.map.exchange.exchange_chunks.Given as goal

abbrev pub invariant-loop-chunk : goal.invariant-loop-chunk
invariant-loop-chunk l = record {
  on : (parted l.values.items l.at, map chunk_view (take l.chunk-index l.chunk-items)) ≡ scanned (chunk_scanned exchanged) (parted l.fn.values.items l.from) (map chunk_view (take l.chunk-index l.fn.rest.items));
  rest : drop l.chunk-index l.chunk-items ≡ drop l.chunk-index l.fn.rest.items;
  long : length l.chunk-items ≡ length l.fn.rest.items;
}
