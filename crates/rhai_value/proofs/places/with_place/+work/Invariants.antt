use Rattle.std.proofs.Common.{◌+◌, ◌*◌, length}
use Rattle.rhai_value.proofs.places.with_place.+work.Given as goal

abbrev pub decreases-work_below : goal.decreases-work_below
decreases-work_below g l = 3 * length l.steps.now + 1

abbrev pub decreases-work_in : goal.decreases-work_in
decreases-work_in g l = 3 * length l.steps.now

abbrev pub decreases-work_in_array : goal.decreases-work_in_array
decreases-work_in_array g l = 3 * length l.rest.now + 2

abbrev pub decreases-work_in_map : goal.decreases-work_in_map
decreases-work_in_map g l = 3 * length l.rest.now + 2
