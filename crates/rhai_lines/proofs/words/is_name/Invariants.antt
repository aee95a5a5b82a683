use Rattle.std.proofs.Common.{◌≡◌, drop}
use Rattle.std.specs.List.{list_all}
use Rattle.rhai_lines.specs.Words.{is_name_byte}
use Rattle.rhai_lines.proofs.words.is_name.Given as goal

abbrev pub invariant-loop-byte : goal.invariant-loop-byte
invariant-loop-byte l = list_all is_name_byte l.word ≡ list_all is_name_byte (drop l.byte-index l.word)
