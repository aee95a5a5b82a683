-- The meaning of a script's indices and lengths in a list.
use Rattle.std.specs.Prelude.{ℕ, suc, ℤ, pos, negsuc, ◌+◌, ◌-◌, min, List, ◌++◌, length, take, drop, slice_get, slice_set, Option, Some, None, option_and_then}
use Rattle.std.specs.List.{remove}
use Rattle.rhai_value.specs.Steps.{item_place}

-- the item at an index, if there is one
abbrev pub item_at : {A : Type 0} → List A → ℤ → Option A
item_at xs i = option_and_then (slice_get xs) (item_place (length xs) i)

-- the list with an item replaced by y, and without the item; if there is none, the list unchanged
abbrev pub with_placed : {A : Type 0} → List A → Option ℕ → A → List A
with_placed xs None y = xs
with_placed xs (Some k) y = slice_set xs k y

abbrev pub without_placed : {A : Type 0} → List A → Option ℕ → List A
without_placed xs None = xs
without_placed xs (Some k) = remove xs k

-- the place of a split in a list of this length: a negative index counts from the end, and one out
-- of range means the nearer end
abbrev pub cut_place : ℕ → ℤ → ℕ
cut_place length (pos i) = min i length
cut_place length (negsuc i) = length - suc i

-- the number of items, at most that of the list; 0 for a negative number
abbrev pub part_count : ℕ → ℤ → ℕ
part_count count (pos n) = min n count
part_count count (negsuc n) = 0

-- the list before an index, and from it on
abbrev pub before : {A : Type 0} → List A → ℤ → List A
before xs i = take (cut_place (length xs) i) xs

abbrev pub after : {A : Type 0} → List A → ℤ → List A
after xs i = drop (cut_place (length xs) i) xs

-- the first items of a list, at most as many as there are; none for a negative number
abbrev pub first_of : {A : Type 0} → List A → ℤ → List A
first_of xs n = take (part_count (length xs) n) xs

-- the list without these items, of which the first is at an index
abbrev pub without_part : {A : Type 0} → List A → ℤ → ℤ → List A
without_part xs i n = before xs i ++ drop (cut_place (length xs) i + part_count (length xs - cut_place (length xs) i) n) xs

-- the last items of a list in the same way
abbrev pub last_of : {A : Type 0} → List A → ℤ → List A
last_of xs n = drop (length xs - part_count (length xs) n) xs

-- the number of items missing up to a wanted length
abbrev pub missing : ℕ → ℤ → ℕ
missing length (pos k) = k - length
missing length (negsuc k) = 0
