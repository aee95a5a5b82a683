use Rattle.rhai_lines.proofs.MoreWords.{says_more}
use Rattle.rhai_lines.proofs.made.of_three.Goals as goal

pub returns : goal.returns
returns g c = ((c.in_ok-a.a, c.in_ok-b.b, c.in_ok-c.c), says_more _ _ _ _ _ _ c.in_ok-a.ensures (says_more _ _ _ _ _ _ c.in_ok-b.ensures c.in_ok-c.ensures), c.make.ensures)
