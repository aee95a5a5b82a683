use Rattle.std.proofs.Common.{◌≡◌, ◌≤◌, length}
use Rattle.rhai_value.specs.Levels.{fields_copy, nodes_of_rows}
use Rattle.rhai_value.proofs.walk.copy_far.fields_step.Given as goal

abbrev pub invariant-loop-key : goal.invariant-loop-key
invariant-loop-key g l = record {
  same : fields_copy g.M.Modes.after l.fn.fields ≡ fields_copy g.M.Modes.after l.fields;
  fewer : nodes_of_rows l.fields.rest ≤ nodes_of_rows l.fn.fields.rest;
}

abbrev pub decreases-loop-key : goal.decreases-loop-key
decreases-loop-key g l = length l.fields.rest
