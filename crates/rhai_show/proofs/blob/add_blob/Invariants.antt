use Rattle.std.proofs.Common.{◌≡◌, ◌++◌, string_bytes, drop}
use Rattle.std.specs.Str.{chars}
use Rattle.rhai_show.specs.Leaves.{bytes_from}
use Rattle.rhai_show.proofs.blob.add_blob.Given as goal

abbrev pub invariant-loop-index : goal.invariant-loop-index
invariant-loop-index l = chars (string_bytes l.out) ++ bytes_from l.index (drop l.index l.bytes) ≡ chars (string_bytes l.initial.out) ++ bytes_from 0 l.bytes
