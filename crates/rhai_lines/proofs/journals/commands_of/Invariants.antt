use Rattle.std.proofs.Common.{◌≡◌, ◌++◌, option_map, length}
use Rattle.rhai_lines.specs.Output.{commands_in, lines_of}
use Rattle.rhai_lines.proofs.journals.commands_of.Given as goal

abbrev pub invariant-loop-line : goal.invariant-loop-line
invariant-loop-line l = commands_in (lines_of l.lines) ≡ option_map (λ more. l.commands.items ++ more) (commands_in (lines_of l.left))

abbrev pub decreases-loop-line : goal.decreases-loop-line
decreases-loop-line l = length l.left
