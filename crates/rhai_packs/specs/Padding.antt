-- Repeated characters.
use Rattle.std.specs.Prelude.{ℕ, ◌/◌, ◌%◌, List, [], ◌∷◌, ◌++◌, length, take}
use Rattle.std.specs.List.{repeat}

-- n characters: those of a list repeated, and truncated at the end; none for an empty list
abbrev pub cycled : ℕ → List ℕ → List ℕ
cycled n [] = []
cycled n (c ∷ cs) = repeat (n / length (c ∷ cs)) (c ∷ cs) ++ take (n % length (c ∷ cs)) (c ∷ cs)
