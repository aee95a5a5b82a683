-- The storage of a map's rows: lists of entries, one after another.
use Rattle.std.specs.Prelude.{◌≡◌, ℕ, ◌+◌, ◌*◌, ◌<◌, ◌≤◌, List, [], ◌∷◌, ◌++◌, map, length, take, drop, slice_index_or, Option, Some, None, ⊤}
use Rattle.std.specs.Int.{w64, from_be_bytes}
use Rattle.std.specs.declared.alloc.Global.{Global}
use Rattle.std.specs.declared.boxed.Box.{Box}
use Rattle.std.specs.declared.cmp.Ordering.{Ordering}
use Rattle.std.specs.declared.cmp.Ordering.TheVariants.{Less, Equal, Greater}
use Rattle.rhai_value.specs.Rows.{Rows, bytes_cmp, fields_of, AreRising, AreTexts}
use Rattle.rhai_value.specs.Tree.{Tree, nodes_fields}
use Rattle.rhai_value.specs.declared.map.Chunk.{Chunk}
use Rattle.rhai_value.specs.declared.map.Entry.{Entry}
use Rattle.rhai_value.specs.declared.map.MapParts.{MapParts}

abbrev pub Row : Type 0
Row = List ℕ × Tree

abbrev pub row_of : Entry → Row
row_of e = (e.key, e.value)

abbrev pub rows : List Entry → Rows
rows es = map row_of es

abbrev pub chunk_rows : Chunk → Rows
chunk_rows c = rows c.entries.items

-- lists, one after another
abbrev pub joined : {A : Type 0} → List (List A) → List A
joined [] = []
joined (l ∷ ls) = l ++ joined ls

-- the lists of a map
abbrev pub lists_of : MapParts → List Rows
lists_of p = rows p.first.items ∷ map chunk_rows p.rest.items

abbrev pub rows_of : MapParts → Rows
rows_of p = joined (lists_of p)

abbrev pub rows_in : Option (Box MapParts Global) → Rows
rows_in None = []
rows_in (Some p) = rows_of p.value

-- a list begins with a key that has this front
abbrev pub Begins : ℕ → List Entry → Type 0
Begins f [] = ⊥
Begins f (e ∷ es) = f ≡ from_be_bytes w64 e.key

-- no chunk is empty, and each has the front of its first key
abbrev pub AreFronted : List Chunk → Type 0
AreFronted [] = ⊤
AreFronted (c ∷ cs) = Begins c.front c.entries.items × AreFronted cs

-- the keys are ascending and are texts, and their number is the stored one
pub record IsWhole (p : MapParts) : Type 0 where
  pub rising : AreRising (rows_of p)
  pub texts : AreTexts (rows_of p)
  pub fronted : AreFronted p.rest.items
  pub counted : p.len ≡ length (rows_of p)

abbrev pub IsWholeIn : Option (Box MapParts Global) → Type 0
IsWholeIn None = ⊤
IsWholeIn (Some p) = IsWhole p.value

-- the remaining rows of an iteration: those of a list, and of the chunks after it
abbrev pub rows_left : List Entry → List Chunk → Rows
rows_left es cs = rows es ++ joined (map chunk_rows cs)

abbrev pub AreLeft : List Entry → List Chunk → ℕ → Type 0
AreLeft es cs n = AreFronted cs × (n ≡ length (rows_left es cs))

-- a bound on the nodes of each value
abbrev pub map_size : Rows → ℕ
map_size rs = 2 * nodes_fields (fields_of rs) + 1

-- ---- where a key is

module _ {K X : Type 0} (R : K → K → Ordering) (k : K) where
  -- k is greater than each of these keys
  abbrev pub AreBelow : List (K × X) → Type 0
  AreBelow [] = ⊤
  AreBelow (e ∷ es) = (R k e.0 ≡ Greater) × AreBelow es

  -- k is less than each of these keys
  abbrev pub AreAbove : List (K × X) → Type 0
  AreAbove [] = ⊤
  AreAbove (e ∷ es) = (R k e.0 ≡ Less) × AreAbove es

-- k is the key at an index of a list
abbrev pub IsHit : List ℕ → Rows → ℕ → Type 0
IsHit k rs i = (i < length rs) × AreBelow bytes_cmp k (take i rs) × ((d : Row) → bytes_cmp k (slice_index_or rs i d).0 ≡ Equal)

-- k would be inserted there
abbrev pub IsGap : List ℕ → Rows → ℕ → Type 0
IsGap k rs i = (i ≤ length rs) × AreBelow bytes_cmp k (take i rs) × AreAbove bytes_cmp k (drop i rs)
