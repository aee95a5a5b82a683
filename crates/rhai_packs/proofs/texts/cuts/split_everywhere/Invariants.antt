use Rattle.std.proofs.Common.{◌≡◌, ◌∷◌, [], map, take}
use Rattle.rhai_value.specs.Tree.{fresh, text}
use Rattle.rhai_packs.proofs.texts.cuts.split_everywhere.Given as goal

abbrev pub invariant-loop-character : goal.invariant-loop-character
invariant-loop-character l = l.parts.items ≡ fresh (text []) ∷ map (λ c. fresh (text (c ∷ []))) (take l.character-index l.character-items)
