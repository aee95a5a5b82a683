use Rattle.rhai_text.proofs.Minus.{minus-passes, no_start}
use Rattle.std.proofs.Common.{◌∷◌}
use Rattle.rhai_text.proofs.laws.minus_keeps_what_is_no_pattern.Goals as goal

pub returns : goal.returns
returns c = λ x xs pattern h. minus-passes x xs pattern (no_start (x ∷ xs) pattern h)
