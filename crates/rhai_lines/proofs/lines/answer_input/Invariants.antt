use Rattle.rhai_lines.proofs.Reaches.{Reached}
use Rattle.rhai_lines.proofs.lines.answer_input.Given as goal

abbrev pub invariant-loop-turn : goal.invariant-loop-turn
invariant-loop-turn g l =
    Reached (g.R.Read.remaining l.fn.reader) (g.R.Read.remaining l.reader) l.partial.items l.fn.world l.world (g.W.Write.contents l.fn.writer) (g.W.Write.contents l.writer)
