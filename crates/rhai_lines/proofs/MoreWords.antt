-- Words read one after another.
use Rattle.std.proofs.Common.{◌≡◌, Some, option_map, ap, ◌∙◌}
use Rattle.rhai_lines.specs.Words.{Left, and_then}
use Rattle.rhai_lines.specs.Vocabulary.{Word, reads}
use Rattle.rhai_lines.specs.Arguments.{Arguments, before, says}

-- a word has a value, and the rest after it has more
pub says_more : {A B : Type 0} (word : Word A) (more : Arguments B) (a : A) (b : B) (left rest : Left) → reads word left ≡ Some (a, rest) → says more rest ≡ Some b → says (before word more) left ≡ Some (a, b)
unfolding says
says_more word more a b left rest r m =
    ap (λ p. and_then p (λ a rest. option_map (λ b. (a, b)) (says more rest))) r ∙ ap (option_map (λ b. (a, b))) m
