use Rattle.std.proofs.Common.{refl}
use Rattle.rhai_text.proofs.Minus.{minus-nothing}
use Rattle.rhai_text.proofs.laws.minus_of_nothing.Goals as goal

pub returns : goal.returns
returns c = record { pattern = λ _. refl; text = minus-nothing }
