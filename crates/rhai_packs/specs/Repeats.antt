-- Items equal to the one before them.
use Rattle.std.specs.Prelude.{◌≡◌, ◌<◌, ◌-◌, ◌↔◌, ℕ, Bool, true, false, List, [], ◌∷◌, length, slice_index_or, IsTrue}
use Rattle.rhai_value.specs.declared.cells.store.Cell.{Cell}
use Rattle.rhai_value.specs.Tree.{Tree}
use Rattle.rhai_packs.specs.Same.{AreSame}

-- the item at an index is equal to the one before it
abbrev pub IsRepeat : List Cell → List Tree → ℕ → Type 0
IsRepeat s xs i = (0 < i) × ((d : Tree) → AreSame s (slice_index_or xs (i - 1) d) (slice_index_or xs i d))

-- a flag for each item, set if it equals the one before it
pub record AreRepeats (s : List Cell) (xs : List Tree) (flags : List Bool) : Type 0 where
  pub len : length flags ≡ length xs
  pub each : (i : ℕ) → i < length xs → IsTrue (slice_index_or flags i false) ↔ IsRepeat s xs i

-- the unflagged items of a list, in order
abbrev pub unflagged : {A : Type 0} → List Bool → List A → List A
unflagged (true ∷ bs) (x ∷ xs) = unflagged bs xs
unflagged (false ∷ bs) (x ∷ xs) = x ∷ unflagged bs xs
unflagged [] xs = xs
unflagged (b ∷ bs) [] = []

-- the items equal to the one before them are removed, and all others are kept in order
abbrev pub IsDeduped : List Cell → List Tree → List Tree → Type 0
IsDeduped s xs ys = (flags : List Bool) × AreRepeats s xs flags × (ys ≡ unflagged flags xs)
