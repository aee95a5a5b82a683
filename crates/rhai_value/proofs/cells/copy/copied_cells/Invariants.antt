use Rattle.std.proofs.Common.{◌≡◌, ◌≤◌, length, take, vec_capacity}
use Rattle.rhai_value.proofs.cells.copy.copied_cells.Given as goal

abbrev pub invariant-loop-cell : goal.invariant-loop-cell
invariant-loop-cell l = record {
  room : length l.cells ≤ vec_capacity l.copies;
  copied : l.copies.items ≡ take l.cell-index l.cells;
}
