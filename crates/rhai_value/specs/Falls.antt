-- Children are smaller than their value: no entry of a map has more nodes than all its rows, no
-- child more than all children.
use Rattle.std.specs.Prelude.{◌≡◌, ◌+◌, ◌*◌, ◌≤◌, List, [], ◌∷◌, ◌++◌, map, Option, Some, None}
use Rattle.std.proofs.Common.{arith}
use Rattle.std.specs.declared.alloc.Global.{Global}
use Rattle.std.specs.declared.boxed.Box.{Box}
use denote.Param.Weighed.{most}
use Rattle.rhai_value.specs.Tree.{Tree, nodes, nodes_trees, nodes_fields}
use Rattle.rhai_value.specs.Rows.{Rows, trees_of, fields_of}
use Rattle.rhai_value.specs.Lists.{chunk_rows, joined, rows, rows_in, map_size, IsWholeIn}
use Rattle.rhai_value.specs.View.{tree_of}
use Rattle.rhai_value.specs.declared.map.Chunk.{Chunk}
use Rattle.rhai_value.specs.declared.map.Entry.{Entry}
use Rattle.rhai_value.specs.declared.map.MapParts.{MapParts}
use Rattle.rhai_value.specs.declared.value.union.Union.{Union}
use Rattle.rhai_value.specs.declared.value.union.Union.TheVariants as union
use Rattle.rhai_value.specs.declared.map.Map.TheDeep.{deep-Chunk, deep-Entry, deep-MapParts, deep-Union}
use Rattle.rhai_value.specs.declared.map.Map.TheShapes.{weighed-Map-parts}

-- no child has more nodes than all children together
pub most_trees : (ts : List Tree) → most (λ t. 2 * nodes t + 1) ts ≤ 2 * nodes_trees (trees_of ts) + 1
most_trees [] = omega arith
most_trees (t ∷ ts) = omega (arith, most_trees ts)

-- the nodes of two lists of rows add up
pub nodes_joined : (rs qs : Rows) → nodes_fields (fields_of (rs ++ qs)) ≡ nodes_fields (fields_of rs) + nodes_fields (fields_of qs)
nodes_joined [] qs = omega arith
nodes_joined (r ∷ rs) qs = omega (arith, nodes_joined rs qs)

most_entries : (es : List Entry) → most deep-Entry es ≤ map_size (rows es)
most_entries [] = omega arith
most_entries (e ∷ es) = omega (arith, most_entries es)

most_chunks : (cs : List Chunk) → most deep-Chunk cs ≤ map_size (joined (map chunk_rows cs))
most_chunks [] = omega arith
most_chunks (c ∷ cs) = omega (arith, most_entries c.entries.items, most_chunks cs, nodes_joined (chunk_rows c) (joined (map chunk_rows cs)))

-- no value of a map has more nodes than all its rows
pub most_parts : (p : Option (Box MapParts Global)) → IsWholeIn p → (weighed-Map-parts).weight MapParts deep-MapParts p ≤ map_size (rows_in p)
most_parts None h = omega arith
most_parts (Some p) h = omega (arith, most_entries p.value.first.items, most_chunks p.value.rest.items, nodes_joined (rows p.value.first.items) (joined (map chunk_rows p.value.rest.items)))

-- each part of a value has fewer nodes
pub falls : (u : Union) → deep-Union u ≤ 2 * nodes (tree_of u)
falls (union.Unit g m u) = omega arith
falls (union.Bool g m b) = omega arith
falls (union.Str g m s) = omega arith
falls (union.Char g m c) = omega arith
falls (union.Int g m n) = omega arith
falls (union.Array g m v) = omega (arith, most_trees v.items)
falls (union.Blob g m v) = omega arith
falls (union.Map g m rs) = omega arith
falls (union.FnPtr g m f) = omega arith
falls (union.Variant g m h) = omega arith
falls (union.Shared g m c) = omega arith
