use Rattle.std.proofs.Common.{◌+◌, ◌*◌}
use Rattle.script_syntax.proofs.parser.+Parser-part+fn-Parser-part-parts.Given as goal

abbrev pub decreases-Parser::part : goal.decreases-Parser::part
decreases-Parser::part l = 2 * l.levels + 1

abbrev pub decreases-parts : goal.decreases-parts
decreases-parts l = 2 * l.levels
