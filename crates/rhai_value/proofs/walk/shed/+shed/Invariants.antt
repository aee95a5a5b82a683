use Rattle.std.proofs.Common.{◌+◌, ◌*◌, vec_len}
use Rattle.rhai_value.proofs.walk.shed.+shed.Given as goal

abbrev pub decreases-shed : goal.decreases-shed
decreases-shed l = 8 * l.levels + 4

abbrev pub decreases-shed_items : goal.decreases-shed_items
decreases-shed_items l = 8 * l.levels

abbrev pub decreases-shed_map : goal.decreases-shed_map
decreases-shed_map l = 8 * l.levels

abbrev pub decreases-shed_chunks : goal.decreases-shed_chunks
decreases-shed_chunks l = 8 * l.levels + 7

abbrev pub decreases-shed_entries : goal.decreases-shed_entries
decreases-shed_entries l = 8 * l.levels + 6

abbrev pub decreases-shed_items-loop-item : goal.decreases-shed_items-loop-item
decreases-shed_items-loop-item l = vec_len l.items

abbrev pub decreases-shed_chunks-loop-chunk : goal.decreases-shed_chunks-loop-chunk
decreases-shed_chunks-loop-chunk l = vec_len l.rest

abbrev pub decreases-shed_entries-loop-entry : goal.decreases-shed_entries-loop-entry
decreases-shed_entries-loop-entry l = vec_len l.entries
