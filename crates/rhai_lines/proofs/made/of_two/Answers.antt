use Rattle.rhai_lines.proofs.MoreWords.{says_more}
use Rattle.rhai_lines.proofs.made.of_two.Goals as goal

pub returns : goal.returns
returns g c = ((c.in_ok-a.a, c.in_ok-b.b), says_more _ _ _ _ _ _ c.in_ok-a.ensures c.in_ok-b.ensures, c.make.ensures)
