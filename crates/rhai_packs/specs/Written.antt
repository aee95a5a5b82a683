-- Bytes read and written in the middle of a list of bytes.
use Rattle.std.specs.Prelude.{ℕ, ◌+◌, ◌-◌, ℤ, nat_lt, List, ◌++◌, length, take, drop, replicate}
use Rattle.std.specs.List.{filter}
use Rattle.rhai_packs.specs.Places.{cut_place}

-- the first eight bytes, with zeros after the last if there are fewer
abbrev pub eight : List ℕ → List ℕ
eight bs = take 8 bs ++ replicate (8 - length bs) 0

-- the ASCII characters of a text
abbrev pub ascii_of : List ℕ → List ℕ
ascii_of text = filter (λ b. nat_lt b 128) text

-- the list with the items from a place on overwritten by others
abbrev pub overwritten : {A : Type 0} → List A → ℕ → List A → List A
overwritten xs k ys = take k xs ++ (ys ++ drop (k + length ys) xs)

-- the list with the items from an index on overwritten by others, up to its end
abbrev pub written : {A : Type 0} → List A → ℤ → List A → List A
written xs i ys = overwritten xs (cut_place (length xs) i) (take (length xs - cut_place (length xs) i) ys)
