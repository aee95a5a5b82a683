use Rattle.std.proofs.Common.{flat_map, take}
use Rattle.std.specs.Io.KnownBytes.{Appends}
use Rattle.rhai_show.specs.Leaves.{hex_digits}
use Rattle.rhai_lines.proofs.print.write_hex.Given as goal

abbrev pub invariant-loop-byte : goal.invariant-loop-byte
invariant-loop-byte g l = Appends (g.W.Write.contents l.fn.writer) (g.W.Write.contents l.writer) (flat_map hex_digits (take l.byte-index l.bytes))
