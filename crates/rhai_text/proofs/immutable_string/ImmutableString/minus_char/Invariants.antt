use Rattle.std.proofs.Common.{◌≡◌, ◌++◌, string_bytes}
use Rattle.std.specs.Str.{chars, encode_utf8_all, IsUtf8}
use Rattle.std.specs.Str.Iter.{split_pattern, split_text}
use Rattle.rhai_text.specs.Text.{minus_char}
use Rattle.rhai_text.proofs.immutable_string.ImmutableString.minus_char.Given as goal

-- the part still to be split, without the character, ends the text
abbrev pub invariant-loop-run : goal.invariant-loop-run
invariant-loop-run l = record {
  pattern : split_pattern l.run-iterator ≡ l.fn.character;
  utf8 : IsUtf8 (split_text l.run-iterator);
  left : string_bytes l.text ++ encode_utf8_all (minus_char (chars (split_text l.run-iterator)) l.fn.character) ≡ encode_utf8_all (minus_char l.self l.fn.character);
}
