-- The induction over values.
use Rattle.std.proofs.Common.{ℕ, ℤ, List}
use Rattle.rhai_value.specs.declared.value.access_mode.AccessMode.{AccessMode}
use Rattle.rhai_value.specs.Tree.{Tree, node, Content, Leaf, leaf, Kind, branch, fields, holder, Trees, no_trees, tree_then, Fields, no_fields, field_then}

-- A property that holds of each leaf and each holder, of branches if it holds of their children,
-- and of maps if it holds of their fields, holds of each value.
module _ (P : Tree → Type 0) (Q : Trees → Type 0) (S : Fields → Type 0)
    (leaves : (l : Leaf) (g : ℤ) (m : AccessMode) → P (node (leaf l) g m))
    (branches : (k : Kind) (ts : Trees) (g : ℤ) (m : AccessMode) → Q ts → P (node (branch k ts) g m))
    (maps : (fs : Fields) (g : ℤ) (m : AccessMode) → S fs → P (node (fields fs) g m))
    (holders : (c : ℕ) (g : ℤ) (m : AccessMode) → P (node (holder c) g m))
    (none : Q no_trees)
    (then : (t : Tree) (ts : Trees) → P t → Q ts → Q (tree_then t ts))
    (no_field : S no_fields)
    (then_field : (k : List ℕ) (t : Tree) (fs : Fields) → P t → S fs → S (field_then k t fs)) where
  mutual
    pub by_value : (t : Tree) → P t
    by_value (node c g m) = by_content c g m

    by_content : (c : Content) (g : ℤ) (m : AccessMode) → P (node c g m)
    by_content (leaf l) g m = leaves l g m
    by_content (branch k ts) g m = branches k ts g m (by_children ts)
    by_content (fields fs) g m = maps fs g m (by_fields fs)
    by_content (holder c) g m = holders c g m

    by_children : (ts : Trees) → Q ts
    by_children no_trees = none
    by_children (tree_then t ts) = then t ts (by_value t) (by_children ts)

    by_fields : (fs : Fields) → S fs
    by_fields no_fields = no_field
    by_fields (field_then k t fs) = then_field k t fs (by_value t) (by_fields fs)
