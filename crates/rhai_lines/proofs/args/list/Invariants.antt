use Rattle.std.proofs.Common.{◌≡◌, ◌++◌, false, option_map}
use Rattle.rhai_lines.specs.Words.{words_of}
use Rattle.rhai_lines.specs.Arguments.{each_of}
use Rattle.rhai_lines.specs.Memory.{first_says}
use Rattle.rhai_lines.specs.Cursor.{left_in}
use Rattle.rhai_lines.proofs.WordLists.{left_len}
use Rattle.rhai_lines.proofs.args.list.Given as goal

abbrev pub invariant-loop-left : goal.invariant-loop-left
invariant-loop-left g l = record {
  found : each_of g.A.Item.said (words_of (left_in l.fn.left)) ≡ option_map (λ more. l.items.items ++ more) (each_of g.A.Item.said (words_of (left_in l.left)));
  first : first_says g.A.Item.said (left_in l.fn.left) ≡ false → left_in l.left ≡ left_in l.fn.left;
}

abbrev pub decreases-loop-left : goal.decreases-loop-left
decreases-loop-left g l = left_len (left_in l.left)
