-- Lemmas for the proofs of crates above, besides the laws; everything else in this folder is private.
-- plain values and printed text of related values
pub use Rattle.rhai_show.proofs.SamePlain.{same_plain}
pub use Rattle.rhai_show.proofs.SamePrinted.{same_printed}
-- appending texts to a text
pub use Rattle.rhai_show.proofs.Pushed.{added_as, added_fixed, added_more, added_twice, fixed, pushed_ascii, pushed_chars}
