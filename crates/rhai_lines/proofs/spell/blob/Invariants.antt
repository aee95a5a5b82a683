use Rattle.std.proofs.Common.{◌≡◌, ◌∷◌, ◌++◌, take, flat_map, string_bytes}
use Rattle.rhai_show.specs.Leaves.{hex_digits}
use Rattle.rhai_lines.proofs.spell.blob.Given as goal

abbrev pub invariant-loop-byte : goal.invariant-loop-byte
invariant-loop-byte l = string_bytes l.line ≡ string_bytes l.fn.line ++ (l.fn.verb ++ 32 ∷ flat_map hex_digits (take l.byte-index l.bytes))
