use Rattle.std.proofs.Common.{◌≡◌, ◌≤◌, length}
use Rattle.rhai_value.specs.Coats.{painted_past}
use Rattle.rhai_value.specs.Lists.{IsWhole}
use Rattle.rhai_value.specs.Rows.{fields_of}
use Rattle.rhai_value.specs.Seats.{rows_from, IsOpen}
use Rattle.rhai_value.specs.Tree.{nodes_fields}
use Rattle.rhai_value.proofs.walk.paint_far.fields_coat_step.Given as goal

abbrev pub invariant-loop-seat : goal.invariant-loop-seat
invariant-loop-seat l = record {
  whole : IsWhole l.parts;
  opened : IsOpen l.parts l.next;
  painted : painted_past l.mode l.parts l.next ≡ painted_past l.mode l.fn.parts l.fn.next;
  fewer : nodes_fields (fields_of (rows_from l.parts l.next)) ≤ nodes_fields (fields_of (rows_from l.fn.parts l.fn.next));
}

abbrev pub decreases-loop-seat : goal.decreases-loop-seat
decreases-loop-seat l = length (rows_from l.parts l.next)
