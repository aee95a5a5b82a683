-- Lemmas for the proofs of crates above, besides the laws; everything else in this folder is private.
-- rows and their outcomes on related operands
pub use Rattle.rhai_ops.proofs.SameRows.{same_row, same_assign_row, same_outcome}
-- the row of a call that fails
pub use Rattle.rhai_ops.proofs.Effects.{answered_refuses, answered_value, refused_memory, refused_result}
-- the state of related operands and stores after calls, which add no cell and change no mark
pub use Rattle.rhai_ops.proofs.SameEffects.{same_answered, same_first_left, same_second_left, same_store_left, length_store_left, marked_store_left}
