-- Lemmas for the proofs of crates above, besides the laws; everything else in this folder is private.
-- changes by related working values
pub use Rattle.rhai_target.proofs.SameChanges.{same_bit_change, same_field_change, same_byte_change, same_char_change, same_slice_change}
-- related values and stores after these; unchanged cells and marks
pub use Rattle.rhai_target.proofs.SameChanges.{same_value_changed, same_store_changed, length_changed, marked_changed}
