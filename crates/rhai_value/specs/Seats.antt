-- Places in the lists of a map, and the rows before and after them.
use Rattle.std.specs.Prelude.{◌≡◌, ℕ, zero, suc, ◌<◌, ◌≤◌, List, [], ◌++◌, length, take, drop, slice_index_or, vec_len, vec_capacity, Vec}
use Rattle.std.specs.Vec.{with_item}
use Rattle.std.specs.declared.alloc.Global.{Global}
use Rattle.std.specs.declared.cmp.Ordering.TheVariants.{Equal}
use Rattle.rhai_value.specs.Lists.{Row, lists_of, joined, AreBelow, AreAbove}
use Rattle.rhai_value.specs.Rows.{Rows, bytes_cmp}
use Rattle.rhai_value.specs.Tree.{Tree, fresh, unit}
use Rattle.rhai_value.specs.declared.map.Chunk.{Chunk}
use Rattle.rhai_value.specs.declared.map.Entry.{Entry}
use Rattle.rhai_value.specs.declared.map.MapParts.{MapParts}
use Rattle.rhai_value.specs.declared.map.seat.Seat.{Seat}

abbrev pub list_at : MapParts → ℕ → Rows
list_at p n = slice_index_or (lists_of p) n []

-- the rows before a place, those from it on, and those after it
abbrev pub rows_before : MapParts → Seat → Rows
rows_before p s = joined (take s.list (lists_of p)) ++ take s.at (list_at p s.list)

abbrev pub rows_from : MapParts → Seat → Rows
rows_from p s = drop s.at (list_at p s.list) ++ joined (drop (suc s.list) (lists_of p))

abbrev pub rows_past : MapParts → Seat → Rows
rows_past p s = drop (suc s.at) (list_at p s.list) ++ joined (drop (suc s.list) (lists_of p))

-- the row at a place
pub record IsSeated (p : MapParts) (s : Seat) : Type 0 where
  pub list : s.list < length (lists_of p)
  pub within : s.at < length (list_at p s.list)

abbrev pub row_at : MapParts → Seat → Row
row_at p s = slice_index_or (list_at p s.list) s.at ([], fresh unit)

-- k is the key at a place
pub record IsFound (k : List ℕ) (p : MapParts) (s : Seat) : Type 0 where
  pub seated : IsSeated p s
  pub below : AreBelow bytes_cmp k (rows_before p s)
  pub same : bytes_cmp k (row_at p s).0 ≡ Equal

-- a row may be inserted at a place of a list
pub record IsOpen (p : MapParts) (s : Seat) : Type 0 where
  pub list : s.list < length (lists_of p)
  pub within : s.at ≤ length (list_at p s.list)

-- k would be at a place
pub record IsMissing (k : List ℕ) (p : MapParts) (s : Seat) : Type 0 where
  pub seat : IsOpen p s
  pub below : AreBelow bytes_cmp k (rows_before p s)
  pub above : AreAbove bytes_cmp k (rows_from p s)

-- a list has room for an entry
abbrev pub HasRoom : MapParts → ℕ → Type 0
HasRoom p zero = vec_len p.first < vec_capacity p.first
HasRoom p (suc n) = (d : Chunk) → vec_len (slice_index_or p.rest.items n d).entries < vec_capacity (slice_index_or p.rest.items n d).entries

-- ---- the parts with t as the value at a place

abbrev pub entry_at : List Entry → ℕ → Entry
entry_at es i = slice_index_or es i (record { key = []; value = fresh unit })

abbrev pub with_tree : Vec Entry Global → ℕ → Tree → Vec Entry Global
with_tree v i t = with_item v i (record (entry_at v.items i) { value = t })

abbrev pub chunk_at : MapParts → ℕ → Chunk
chunk_at p n = slice_index_or p.rest.items n (record { front = 0; entries = p.first })

abbrev pub with_value_in : MapParts → ℕ → ℕ → Tree → MapParts
with_value_in p zero i t = record p { first = with_tree p.first i t }
with_value_in p (suc n) i t = record p { rest = with_item p.rest n (record (chunk_at p n) { entries = with_tree (chunk_at p n).entries i t }) }

abbrev pub with_value : MapParts → Seat → Tree → MapParts
with_value p s t = with_value_in p s.list s.at t
