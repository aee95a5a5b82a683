-- The effect of taking a child out of a value, and properties of a value that has none.
use Rattle.std.proofs.Common.{refl, ◌≡◌, ◌+◌, ◌≤◌, length, map, List, [], ◌∷◌, ◌++◌, ap, arith}
use Rattle.rhai_value.specs.Lists.{chunk_rows, joined, rows, rows_of, AreFronted, IsWhole}
use Rattle.rhai_value.specs.Rows.{Rows, trees_of, fields_of}
use Rattle.rhai_value.specs.Tree.{Tree, node, nodes, nodes_trees, nodes_fields}
use Rattle.rhai_value.specs.declared.map.Chunk.{Chunk}
use Rattle.rhai_value.specs.declared.map.Entry.{Entry}
use Rattle.rhai_value.specs.declared.map.MapParts.{MapParts}
use Rattle.rhai_value.proofs.Seats.{begins_some}

pub nodes_append : (ts us : List Tree) → nodes_trees (trees_of (ts ++ us)) ≡ nodes_trees (trees_of ts) + nodes_trees (trees_of us)
nodes_append [] us = omega arith
nodes_append (t ∷ ts) us = omega (arith, nodes_append ts us)

pub some_node : (t : Tree) → 1 ≤ nodes t
some_node (node c g m) = omega arith

-- a value without children has no remaining nodes
pub no_nodes : (ts : List Tree) → length ts ≡ 0 → nodes_trees (trees_of ts) ≡ 0
no_nodes [] h = refl
no_nodes (t ∷ ts) h = cc

pub bare_trees : (ts : List Tree) → nodes_trees (trees_of ts) ≡ 0 → length ts ≡ 0
bare_trees [] h = refl
bare_trees (t ∷ ts) h = absurd (omega (arith, h, some_node t))

pub bare_rows : (rs : Rows) → nodes_fields (fields_of rs) ≡ 0 → rs ≡ []
bare_rows [] h = refl
bare_rows (r ∷ rs) h = absurd (omega (arith, h, some_node r.1))

-- parts without rows have no lists
pub bare_parts : (p : MapParts) → IsWhole p → rows_of p ≡ [] → (length p.first.items ≡ 0) × (length p.rest.items ≡ 0)
bare_parts p whole none =
    let long : length (rows p.first.items ++ joined (map chunk_rows p.rest.items)) ≡ 0 = ap length none in
    (first p.first.items (joined (map chunk_rows p.rest.items)) long, rest p.rest.items (rows p.first.items) whole.fronted long)
  where
    first : (es : List Entry) (rs : Rows) → length (rows es ++ rs) ≡ 0 → length es ≡ 0
    first [] rs h = refl
    first (e ∷ es) rs h = absurd (omega (arith, h))

    behind : (rs qs : Rows) → length (rs ++ qs) ≡ 0 → length qs ≡ 0
    behind [] qs h = h
    behind (r ∷ rs) qs h = absurd (omega (arith, h))

    rest : (cs : List Chunk) (rs : Rows) → AreFronted cs → length (rs ++ joined (map chunk_rows cs)) ≡ 0 → length cs ≡ 0
    rest [] rs f h = refl
    rest (c ∷ cs) rs f h =
        let here = behind rs (chunk_rows c ++ joined (map chunk_rows cs)) h in
        let some = begins_some c.front c.entries.items f.0 in
        let empty = first c.entries.items (joined (map chunk_rows cs)) here in
        absurd (omega (arith, some, empty))
