-- The results of walks over rows, and over chunks of them.
use Rattle.std.specs.Prelude.{ℕ, List, [], ◌∷◌, map}
use Rattle.rhai_value.specs.Lists.{Row, chunk_rows}
use Rattle.rhai_value.specs.Rows.{Rows, copied_rows}
use Rattle.rhai_value.specs.Scan.{Visiting}
use Rattle.rhai_value.specs.Tree.{paint}
use Rattle.rhai_value.specs.declared.value.access_mode.AccessMode.{AccessMode}
use Rattle.rhai_value.specs.declared.map.Chunk.{Chunk}

-- a chunk as its front and its rows
abbrev pub chunk_view : Chunk → ℕ × Rows
chunk_view c = (c.front, chunk_rows c)

-- a result with one more item in front
abbrev pub before : {S X : Type 0} → S × X → S × List X → S × List X
before x y = (y.0, x.1 ∷ y.1)

-- each of these in turn, with the visitor passed along
abbrev pub scanned : {S X : Type 0} → (S → X → S × X) → S → List X → S × List X
scanned f v [] = (v, [])
scanned f v (x ∷ xs) = before (f v x) (scanned f (f v x).0 xs)

-- a row whose value is visited, and a chunk of them
abbrev pub row_scanned : {S : Type 0} → Visiting S → S → Row → S × Row
row_scanned f v r = ((f v r.1).0, (r.0, (f v r.1).1))

abbrev pub chunk_scanned : {S : Type 0} → Visiting S → S → ℕ × Rows → S × (ℕ × Rows)
chunk_scanned f v c = ((scanned (row_scanned f) v c.1).0, (c.0, (scanned (row_scanned f) v c.1).1))

abbrev pub painted_row : AccessMode → Row → Row
painted_row m r = (r.0, paint m r.1)

abbrev pub painted_rows : AccessMode → Rows → Rows
painted_rows m rs = map (painted_row m) rs

abbrev pub painted_chunk : AccessMode → ℕ × Rows → ℕ × Rows
painted_chunk m c = (c.0, painted_rows m c.1)

abbrev pub copied_chunk : (AccessMode → AccessMode) → ℕ × Rows → ℕ × Rows
copied_chunk f c = (c.0, copied_rows f c.1)
