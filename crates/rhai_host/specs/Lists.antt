-- Names by a list of their numbers.
use Rattle.std.specs.Prelude.{ℕ, Bool, List, [], ◌∷◌, Option, None, Some, option_map, option_and_then}
use Rattle.slab.specs.Slab.{Slab, get}

-- the names with these numbers, if each number has one
abbrev pub names_at : Slab (List ℕ) → List ℕ → Option (List (List ℕ))
names_at names [] = Some []
names_at names (number ∷ numbers) = option_and_then (λ name. option_map (λ more. name ∷ more) (names_at names numbers)) (get names number)

-- the same with a flag for each, if there are as many flags
abbrev pub flagged_at : Slab (List ℕ) → List ℕ → List Bool → Option (List (List ℕ × Bool))
flagged_at names [] flags = Some []
flagged_at names (number ∷ numbers) [] = None
flagged_at names (number ∷ numbers) (flag ∷ flags) = option_and_then (λ name. option_map (λ more. (name, flag) ∷ more) (flagged_at names numbers flags)) (get names number)
