-- Values that are equal as plain values.
use Rattle.std.specs.Prelude.{◌≡◌, ◌<◌, ℕ, List, [], length, slice_index_or, Option, Some, None}
use Rattle.rhai_value.specs.declared.cells.store.Cell.{Cell}
use Rattle.rhai_value.specs.Tree.{Tree}
use Rattle.rhai_show.specs.Plain.{Plain, plain}

-- the plain values of two values are equal; a value without a plain value is equal to nothing
unfoldable pub AreSame : List Cell → Tree → Tree → Type 0
AreSame s x y = (p : Plain) × (plain s [] x ≡ Some p) × (plain s [] y ≡ Some p)

-- none of the first n items is equal to y
abbrev pub HasNone : List Cell → Tree → List Tree → ℕ → Type 0
HasNone s y xs n = (j : ℕ) (d : Tree) → j < n → AreSame s (slice_index_or xs j d) y → ⊥

-- the index of the first item that equals y, if there is one
abbrev pub IsFirst : List Cell → Tree → List Tree → Option ℕ → Type 0
IsFirst s y xs None = HasNone s y xs (length xs)
IsFirst s y xs (Some k) = (k < length xs) × ((d : Tree) → AreSame s (slice_index_or xs k d) y) × HasNone s y xs k
