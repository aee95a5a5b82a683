use Rattle.std.proofs.Common.{◌≡◌, ◌++◌, ℕ, List, length}
use Rattle.rhai_lines.specs.Fed.{Feeds}
use Rattle.rhai_lines.proofs.lines.feed.Given as goal

abbrev pub invariant-loop-line : goal.invariant-loop-line
invariant-loop-line g l =
    (taken : List ℕ) × (l.bytes ≡ taken ++ l.left) × Feeds taken l.fn.partial.items l.fn.world (g.W.Write.contents l.fn.writer) l.partial.items l.world (g.W.Write.contents l.writer)

abbrev pub decreases-loop-line : goal.decreases-loop-line
decreases-loop-line g l = length l.left
