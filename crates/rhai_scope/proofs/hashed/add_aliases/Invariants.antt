use Rattle.std.proofs.Common.{◌≡◌, ◌++◌, length, take}
use Rattle.std.specs.List.{flat_map}
use Rattle.rhai_show.specs.HashBytes.{count_bytes, name_bytes}
use Rattle.rhai_scope.proofs.hashed.add_aliases.Given as goal

abbrev pub invariant-loop-alias : goal.invariant-loop-alias
invariant-loop-alias l = l.out.items ≡ l.fn.out.items ++ (count_bytes (length l.aliases) ++ flat_map name_bytes (take l.alias-index l.aliases))
