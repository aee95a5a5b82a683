-- A value by cases, as the walks of this crate see it.
use Rattle.std.specs.Prelude.{ℕ, ℤ, ◌≡◌}
use Rattle.rhai_value.specs.declared.value.access_mode.AccessMode.{AccessMode}
use Rattle.rhai_value.specs.Rows.{trees_of, fields_of}
use Rattle.rhai_value.specs.Tree as tree
use Rattle.rhai_value.specs.Tree.{Tree, Content, node, branch, fields, holder}
use Rattle.rhai_show.specs.declared.shape.Leaf.{Leaf}
use Rattle.rhai_show.specs.declared.shape.Leaf.TheVariants.{Unit, Bool, Int, Char, Text, Blob, Host}
use Rattle.rhai_show.specs.declared.shape.Shape.{Shape}
use Rattle.rhai_show.specs.declared.shape.Shape.TheVariants as shape

abbrev pub leaf_of : Leaf → tree.Leaf
leaf_of Unit = tree.unit
leaf_of (Bool b) = tree.bool b
leaf_of (Int n) = tree.int n.now
leaf_of (Char c) = tree.char c
leaf_of (Text s) = tree.text s.now
leaf_of (Blob bs) = tree.blob bs.now
leaf_of (Host h) = tree.host h.now

-- this content with some tag and mode
abbrev pub IsNode : Content → Tree → Type 0
IsNode c t = (g : ℤ) × (m : AccessMode) × (t ≡ node c g m)

-- the shape is that of the value
abbrev pub HasShape : Shape → Tree → Type 0
HasShape (shape.Leaf l) t = IsNode (tree.leaf (leaf_of l)) t
HasShape (shape.Array xs) t = IsNode (branch tree.array (trees_of xs.now)) t
HasShape (shape.Function f) t = IsNode (branch (tree.function f.now.0) (trees_of f.now.1)) t
HasShape (shape.Map rs) t = IsNode (fields (fields_of rs.now)) t
HasShape shape.Holder t = (c : ℕ) × (g : ℤ) × (m : AccessMode) × (t ≡ node (holder c) g m)
