use Rattle.std.proofs.Common.{◌≡◌, ◌++◌, true, length}
use Rattle.std.specs.List.{list_all}
use Rattle.std.specs.Char.{is_ascii_hexdigit}
use Rattle.rhai_lines.specs.Arguments.{bytes_of_pairs}
use Rattle.rhai_lines.proofs.args.bytes_in.Given as goal

abbrev pub invariant-loop-left : goal.invariant-loop-left
invariant-loop-left l = record {
  found : bytes_of_pairs l.digits ≡ l.bytes.items ++ bytes_of_pairs l.left;
  are_hex : list_all is_ascii_hexdigit l.left ≡ true;
}

abbrev pub decreases-loop-left : goal.decreases-loop-left
decreases-loop-left l = length l.left
