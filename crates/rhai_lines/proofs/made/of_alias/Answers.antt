use Rattle.std.proofs.Common.{refl}
use Rattle.rhai_lines.proofs.MoreWords.{says_more}
use Rattle.rhai_lines.proofs.made.of_alias.Goals as goal

pub returns : goal.returns
returns c = ((c.in_ok-name.name, c.in_ok-alias.alias), says_more _ _ _ _ _ _ c.in_ok-name.ensures c.in_ok-alias.ensures, refl)
