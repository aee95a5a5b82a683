use Rattle.rhai_lines.proofs.MoreWords.{says_more}
use Rattle.rhai_lines.proofs.made.of_four.Goals as goal

pub returns : goal.returns
returns g c =
    ((c.in_ok-a.a, c.in_ok-b.b, c.in_ok-c.c, c.in_ok-d.d), says_more _ _ _ _ _ _ c.in_ok-a.ensures (says_more _ _ _ _ _ _ c.in_ok-b.ensures (says_more _ _ _ _ _ _ c.in_ok-c.ensures c.in_ok-d.ensures)), c.make.ensures)
