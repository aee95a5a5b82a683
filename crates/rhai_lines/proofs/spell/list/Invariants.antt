use Rattle.std.proofs.Common.{◌≡◌, ◌++◌, length, option_map, string_bytes}
use Rattle.rhai_lines.specs.Spelling.{behind, words_for}
use Rattle.rhai_lines.proofs.spell.list.Given as goal

abbrev pub invariant-loop-left : goal.invariant-loop-left
invariant-loop-left g l =
    option_map (λ w. string_bytes l.fn.line ++ (l.fn.verb ++ behind w)) (words_for g.A.Item.spelled l.fn.items) ≡ option_map (λ w. string_bytes l.line ++ behind w) (words_for g.A.Item.spelled l.left)

abbrev pub decreases-loop-left : goal.decreases-loop-left
decreases-loop-left g l = length l.left
