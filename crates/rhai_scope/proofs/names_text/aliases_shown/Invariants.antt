use Rattle.std.proofs.Common.{◌≡◌, false, string_bytes, take}
use Rattle.std.specs.List.{flat_map}
use Rattle.std.specs.Str.{chars}
use Rattle.rhai_scope.specs.NamesText.{name_line}
use Rattle.rhai_scope.proofs.names_text.aliases_shown.Given as goal

abbrev pub invariant-loop-alias : goal.invariant-loop-alias
invariant-loop-alias l = chars (string_bytes l.out) ≡ flat_map (name_line false) (take l.alias-index l.aliases)
