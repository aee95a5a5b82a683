-- Painted values in a list and in the rows of a map.
use Rattle.std.proofs.Common.{◌≡◌, List, [], ◌∷◌, map, refl, ap}
use Rattle.std.specs.Str.{chars}
use Rattle.rhai_value.specs.declared.value.access_mode.AccessMode.{AccessMode}
use Rattle.rhai_value.specs.RowWalks.{painted_rows}
use Rattle.rhai_value.specs.Rows.{Rows, trees_of, fields_of}
use Rattle.rhai_value.specs.Tree.{Tree, tree_then, field_then, paint, paint_trees, paint_fields}

pub painted_trees : (m : AccessMode) (ts : List Tree) → trees_of (map (paint m) ts) ≡ paint_trees m (trees_of ts)
painted_trees m [] = refl
painted_trees m (t ∷ ts) = ap (tree_then (paint m t)) (painted_trees m ts)

pub fields_painted : (m : AccessMode) (rs : Rows) → fields_of (painted_rows m rs) ≡ paint_fields m (fields_of rs)
fields_painted m [] = refl
fields_painted m (r ∷ rs) = ap (field_then (chars r.0) (paint m r.1)) (fields_painted m rs)
