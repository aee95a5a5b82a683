use Rattle.std.proofs.Common.{◌≡◌, ◌∙◌, sym, refl, ℕ, Option, Some, None, option_map}
use Rattle.std.proofs.lemmas.Iterator.{YieldsList-from_chars}
use Rattle.std.proofs.lemmas.Iterator.Consumers.{nth_from_yields_List}
use Rattle.rhai_text.proofs.characters.nth.Goals as goal

itself : (o : Option ℕ) → option_map (λ c. c) o ≡ o
itself None = refl
itself (Some c) = refl

pub returns : goal.returns
returns c =
    sym (itself c.nth.result)
    ∙ nth_from_yields_List c.nth.result c.nth.new.self c.args.index c.nth.ensures.ran (YieldsList-from_chars c.args.text.now c.utf8.text c.chars.ensures.rest)
