use Rattle.std.proofs.Common.{◌≡◌, map, take}
use Rattle.rhai_cast.specs.Arrays.{byte_tree}
use Rattle.rhai_cast.proofs.arrays.read_bytes.Given as goal

abbrev pub invariant-loop-byte : goal.invariant-loop-byte
invariant-loop-byte g l = map g.T.Variant.tree l.xs.items ≡ map byte_tree (take l.byte-index l.byte-items)
