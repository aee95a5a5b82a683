use Rattle.rhai_text.proofs.Minus.{minus-starts}
use Rattle.rhai_text.proofs.laws.minus_drops_the_pattern.Goals as goal

pub returns : goal.returns
returns c = minus-starts
