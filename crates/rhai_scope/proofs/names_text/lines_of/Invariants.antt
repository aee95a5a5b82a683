use Rattle.std.proofs.Common.{◌≡◌, ◌++◌, string_bytes}
use Rattle.std.specs.List.{flat_map}
use Rattle.std.specs.Str.{chars}
use Rattle.rhai_scope.specs.Items.{raw_left}
use Rattle.rhai_scope.specs.NamesText.{named_line}
use Rattle.rhai_scope.proofs.names_text.lines_of.Given as goal

abbrev pub invariant-loop-name : goal.invariant-loop-name
invariant-loop-name l = chars (string_bytes l.out) ++ flat_map named_line (raw_left l.name-iterator) ≡ flat_map named_line (raw_left l.fn.items)
