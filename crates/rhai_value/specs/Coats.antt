-- Frames of a painting.
use Rattle.std.specs.Prelude.{◌≡◌, ℕ, ◌-◌, ◌<◌, ◌≤◌, List, [], ◌∷◌, ◌++◌, length, map, take, drop, slice_set}
use Rattle.rhai_value.specs.declared.value.access_mode.AccessMode.{AccessMode}
use Rattle.rhai_value.specs.declared.walk.coat.Coat.{Coat}
use Rattle.rhai_value.specs.declared.walk.coat.Coat.TheVariants.{Array, Fields}
use Rattle.rhai_value.specs.declared.map.MapParts.{MapParts}
use Rattle.rhai_value.specs.declared.map.seat.Seat.{Seat}
use Rattle.rhai_value.specs.Lists.{IsWhole}
use Rattle.rhai_value.specs.Rows.{Rows, trees_of, fields_of}
use Rattle.rhai_value.specs.RowWalks.{painted_rows}
use Rattle.rhai_value.specs.Seats.{row_at, rows_before, rows_from, IsOpen, IsSeated}
use Rattle.rhai_value.specs.Tree.{Tree, node, branch, fields, array, paint, nodes_trees, nodes_fields}

-- these, with the first n already painted, after the others are painted
abbrev pub painted_from : AccessMode → ℕ → List Tree → List Tree
painted_from m n ts = take n ts ++ map (paint m) (drop n ts)

-- the rows of a map, with those before a place already painted, after the others are painted
abbrev pub painted_past : AccessMode → MapParts → Seat → Rows
painted_past m p s = rows_before p s ++ painted_rows m (rows_from p s)

-- the place of the last entry taken
abbrev pub taken_seat : Seat → Seat
taken_seat s = record { list = s.list; at = s.at - 1 }

-- the same with x as its value
abbrev pub painted_with : AccessMode → MapParts → Seat → Tree → Rows
painted_with m p s x = rows_before p (taken_seat s) ++ ((row_at p (taken_seat s)).0, x) ∷ painted_rows m (rows_from p s)

-- an entry was taken last
abbrev pub IsTaken : MapParts → Seat → Type 0
IsTaken p s = (0 < s.at) × IsSeated p (taken_seat s)

-- the value after painting
abbrev pub coat_whole : AccessMode → Coat → Tree
coat_whole m (Array g c) = node (branch array (trees_of (painted_from m c.next c.items.items))) g m
coat_whole m (Fields g c) = node (fields (fields_of (painted_past m c.parts.value c.next))) g m

-- the same with x in place of the last child taken
abbrev pub coat_after : AccessMode → Coat → Tree → Tree
coat_after m (Array g c) x = node (branch array (trees_of (painted_from m c.next (slice_set c.items.items (c.next - 1) x)))) g m
coat_after m (Fields g c) x = node (fields (fields_of (painted_with m c.parts.value c.next x))) g m

abbrev pub coat_left : Coat → ℕ
coat_left (Array g c) = nodes_trees (trees_of (drop c.next c.items.items))
coat_left (Fields g c) = nodes_fields (fields_of (rows_from c.parts.value c.next))

abbrev pub IsReady : Coat → Type 0
IsReady (Array g c) = c.next ≤ length c.items.items
IsReady (Fields g c) = IsOpen c.parts.value c.next × IsWhole c.parts.value

abbrev pub IsWaiting : Coat → Type 0
IsWaiting (Array g c) = (0 < c.next) × (c.next ≤ length c.items.items)
IsWaiting (Fields g c) = IsTaken c.parts.value c.next × IsWhole c.parts.value

abbrev pub IsEnded : Coat → Type 0
IsEnded (Array g c) = c.next ≡ length c.items.items
IsEnded (Fields g c) = (rows_from c.parts.value c.next ≡ []) × IsOpen c.parts.value c.next × IsWhole c.parts.value
