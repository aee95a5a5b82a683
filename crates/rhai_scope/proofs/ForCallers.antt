-- Lemmas for the proofs of crates above, besides the laws; everything else in this folder is private.
-- related entries: look-ups
pub use Rattle.rhai_scope.proofs.SameEntries.{same_aliases_named, same_at, same_constant, same_constant_named, same_last_entry, same_map, same_named, same_position, same_writable}
-- entries added, removed and changed
pub use Rattle.rhai_scope.proofs.SameEntries.{same_aliased, same_changed_if, same_changed_named, same_popped, same_pushed, same_removed_at, same_set_or_pushed, same_taken, same_with_value, same_with_value_at, same_written_entry}
-- copies and extensions
pub use Rattle.rhai_scope.proofs.SameEntries.{same_copied, same_copies, same_extended, same_extended_flagged, same_extended_values, same_flagged_values, same_visible, same_zip}
-- texts, bytes and items
pub use Rattle.rhai_scope.proofs.SamePrints.{same_bytes, same_flat_values, same_names_text, same_shown_flat, same_shown_raw, same_text}
-- an entry whose value changes in place, or that is removed
pub use Rattle.rhai_scope.proofs.MovedOut.{kept_there, length_changed, taken, value_changed, written_there}
-- the results of calls of `next` of an iterator
pub use Rattle.rhai_scope.proofs.FlatItems.{flat_gone}
