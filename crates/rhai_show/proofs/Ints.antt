-- Values that are ints.
use Rattle.std.proofs.Common.{◌≡◌, ℤ, Some, ap}
use Rattle.std.proofs.lemmas.Option.{same_Some}
use Rattle.rhai_value.specs.declared.value.access_mode.AccessMode.{AccessMode}
use Rattle.rhai_value.specs.Tree.{Tree, node, leaf, branch, fields, holder, unit, bool, int, char, text, blob, host}
use Rattle.rhai_value.specs.Parts.{int_of}

-- a value with an int is a leaf
pub int_tree : (t : Tree) (n : ℤ) → int_of t ≡ Some n → (g : ℤ) × (m : AccessMode) × (t ≡ node (leaf (int n)) g m)
int_tree (node (leaf (int k)) g m) n e = (g, m, ap (λ x. node (leaf (int x)) g m) (same_Some k n e))
int_tree (node (leaf unit) g m) n e = cc
int_tree (node (leaf (bool b)) g m) n e = cc
int_tree (node (leaf (char c)) g m) n e = cc
int_tree (node (leaf (text s)) g m) n e = cc
int_tree (node (leaf (blob bs)) g m) n e = cc
int_tree (node (leaf (host h)) g m) n e = cc
int_tree (node (branch k ts) g m) n e = cc
int_tree (node (fields fs) g m) n e = cc
int_tree (node (holder c) g m) n e = cc
