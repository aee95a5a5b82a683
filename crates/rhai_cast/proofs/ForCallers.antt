-- Lemmas for the proofs of crates above, besides the laws; everything else in this folder is private.
-- flat values
pub use Rattle.rhai_cast.proofs.FlatValues.{flat_type, flattened_type, flat_stays}
-- values that can be cast
pub use Rattle.rhai_cast.proofs.Castable.{moved_castable, copied_castable}
-- casts, type tests and borrows of related values
pub use Rattle.rhai_cast.proofs.SameCasts.{same_moved, same_copied, same_is, same_castable, same_locked}
