-- The tree of a `Dynamic`.
use Rattle.rhai_value.specs.Tree.{Tree, node, leaf, branch, fields, holder, unit, bool, int, char, text, blob, host, array, function}
use Rattle.rhai_value.specs.Rows.{trees_of, fields_of}
use Rattle.rhai_value.specs.declared.value.union.Union.{Union}
use Rattle.rhai_value.specs.declared.value.union.Union.TheVariants as union

abbrev pub tree_of : Union → Tree
tree_of (union.Unit g m u) = node (leaf unit) g m
tree_of (union.Bool g m b) = node (leaf (bool b)) g m
tree_of (union.Str g m s) = node (leaf (text s)) g m
tree_of (union.Char g m c) = node (leaf (char c)) g m
tree_of (union.Int g m n) = node (leaf (int n)) g m
tree_of (union.Array g m v) = node (branch array (trees_of v.items)) g m
tree_of (union.Blob g m v) = node (leaf (blob v.items)) g m
tree_of (union.Map g m rs) = node (fields (fields_of rs)) g m
tree_of (union.FnPtr g m f) = node (branch (function f.0) (trees_of f.1)) g m
tree_of (union.Variant g m h) = node (leaf (host h)) g m
tree_of (union.Shared g m c) = node (holder c.index) g m
