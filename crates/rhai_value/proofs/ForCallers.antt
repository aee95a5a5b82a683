-- Lemmas for the proofs of crates above, besides the laws; everything else in this folder is private.
-- the induction over values, and properties of the cell numbers in a value
pub use Rattle.rhai_value.proofs.Trees.{by_value}
pub use Rattle.rhai_value.proofs.EachCell.{each_paired, each_renumbered, each_weaker, related_renumbered, related_self}
-- related values
pub use Rattle.rhai_value.proofs.SameTrees.{by_related, by_trees, same_copy, same_function, same_host, same_items, same_mode, same_paint, same_shared, same_tag, same_with_int, same_with_tag}
-- related ends and stores, and writes there
pub use Rattle.rhai_value.proofs.RelatedCells.{by_ends, length_changed, length_store_after, marked_added, marked_store_after, same_end_type, same_held_leaf, same_held_part, same_put, same_set_mark, same_store_after, same_value_after}
-- the end of a chain without holders, and the value at the end of a chain
pub use Rattle.rhai_value.proofs.Ends.{end_own, stands}
-- writing a cell's own value to it, and the cells that a write doesn't change
pub use Rattle.rhai_value.proofs.Stores.{put-same}
pub use Rattle.rhai_value.proofs.RelatedCells.{get_unchanged}
-- first contents, flat values and locks
pub use Rattle.rhai_value.proofs.SameFlat.{length_with_first, same_first, same_first_cell, same_flat, same_flattened, same_held_cell, same_locked, same_store_with_first, same_value_with_first}
-- writing a held value over itself
pub use Rattle.rhai_value.proofs.InStores.{kept_written}
-- writing a held part over itself
pub use Rattle.rhai_value.proofs.Unchanged.{held_over, written_over}
-- the borrows of a held value from a value and its store, and writing a cell's content over itself
pub use Rattle.rhai_value.proofs.LentPart.{own_at, far_at, found, put_back, read_at}
-- look-ups after an insertion
pub use Rattle.rhai_value.proofs.Inserted.{found_inserted}
-- growing renamings
pub use Rattle.rhai_value.proofs.Grow.{new_last, one_more, one_more_shared, one_pair, paired_append, paired_more, pairs_join, related_more, same_added, same_shared_store, same_shared_value}
-- marks
pub use Rattle.rhai_value.proofs.MarkedCells.{mark_stands, marked_with_first, others_marked}
-- walks
pub use Rattle.rhai_value.proofs.Walks.{unopened, unopened-entry, walk_opens}
-- walks over related values
pub use Rattle.rhai_value.proofs.SameWalks.{AlikeVisit, Keeps, Paired, by_visits, same_end, same_end_from, same_walk_from}
-- scans of related values
pub use Rattle.rhai_value.proofs.SameScans.{RelatedVisits, same_nodes, same_scan, same_visits}
-- options that are alike, and lists that are related item by item
pub use Rattle.rhai_value.proofs.Zips.{by_alike, by_zip, get_append, get_last, get_set_other, zip_append, zip_drop, zip_get, zip_length, zip_set, zip_take, zip_weaker}
-- related children as lists, and steps from related values
pub use Rattle.rhai_value.proofs.SameWays.{chained, listed, same_way}
-- the children that a list of items makes
pub use Rattle.rhai_value.proofs.Items.{items_back}
-- booleans
pub use Rattle.rhai_value.proofs.Flags.{or_false}
-- the list of the cell numbers in a value
pub use Rattle.rhai_value.proofs.CellNumbers.{cells_renumbered, each_in, each_of}
-- flags, and ascending numbers
pub use Rattle.rhai_value.proofs.Flags.{flags_rise}
pub use Rattle.rhai_value.proofs.Rising.{rising_distinct, rising_same}
-- cells met in consecutive lists, and those reached from them
pub use Rattle.rhai_value.proofs.Rooted.{flags_counted, met_more, reached_met}
-- the order in which cells are first reached, and the numbers in related values
pub use Rattle.rhai_value.proofs.Ordered.{cell_paired, order_distinct, order_reached, orders_paired, values_paired}
pub use Rattle.rhai_value.proofs.Rounds.{order_exists}
-- the indices of true
pub use Rattle.rhai_value.proofs.Trues.{false_more, from_zero, true_more, trues-append}
