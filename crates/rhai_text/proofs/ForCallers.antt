-- Lemmas for the proofs of crates above, besides the laws; everything else in this folder is private.
-- a text of one character
pub use Rattle.rhai_text.proofs.Texts.{chars-one}
