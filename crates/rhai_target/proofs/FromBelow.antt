-- Facts from the proofs of the crates below.
-- marks on paired cells, and the cells of held values
pub use Rattle.rhai_value.proofs.ForCallers.{same_set_mark, same_held_cell}
-- the cells that a write doesn't change, writing a cell's own value to it, and the value at the end of a chain
pub use Rattle.rhai_value.proofs.ForCallers.{get_unchanged, put-same, stands}
-- printed text of related values
pub use Rattle.rhai_show.proofs.ForCallers.{same_printed}
