-- Lemmas for the proofs of crates above, besides the laws; everything else in this folder is private.
-- reading a value, by its type
pub use Rattle.rhai_variant.proofs.Readings.{held_unshared, read_by_type}
-- the same for related values
pub use Rattle.rhai_variant.proofs.SameReadings.{same_read, same_viewed, same_written_as}
