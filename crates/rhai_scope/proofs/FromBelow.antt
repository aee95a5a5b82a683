-- Appending texts and bytes part by part, by the lemmas of rhai_show.
pub use Rattle.rhai_show.proofs.ForCallers.{pushed_chars, pushed_ascii, added_as, added_twice, added_more, added_fixed, fixed}
