-- The scan of a value: it visits the value, and then the children of the result.
use Rattle.std.specs.Prelude.{◌≡◌, ℕ, zero, suc, ◌≤◌, Bool, true, false, if◌then◌else◌, List}
use Rattle.std.proofs.Common.{arith}
use Rattle.rhai_value.specs.Tree.{Tree, node, Content, leaf, branch, fields, holder, Trees, no_trees, tree_then, Fields, no_fields, field_then, nodes, nodes_content, fresh, unit}
use Rattle.rhai_value.specs.Parts.{with_content}
use Rattle.rhai_value.specs.Relation.{Renaming, Related}

-- the visitor and the value after a visit
abbrev pub Visiting : Type 0 → Type 0
Visiting S = S → Tree → S × Tree

-- a visited value has no more nodes than before
abbrev pub AddsNoNodes : {S : Type 0} → Visiting S → Type 0
AddsNoNodes {S} f = (v : S) (t : Tree) → nodes (f v t).1 ≤ nodes t

-- a result with one more value in front
abbrev pub tree_before : {S : Type 0} → S × Tree → S × Trees → S × Trees
tree_before x y = (y.0, tree_then x.1 y.1)

abbrev pub field_before : {S : Type 0} → List ℕ → S × Tree → S × Fields → S × Fields
field_before k x y = (y.0, field_then k x.1 y.1)

-- each of these in turn, with the visitor passed along
abbrev pub each_scanned : {S : Type 0} → Visiting S → S → Trees → S × Trees
each_scanned f v no_trees = (v, no_trees)
each_scanned f v (tree_then t ts) = tree_before (f v t) (each_scanned f (f v t).0 ts)

-- each value of a map, in the order of the keys
abbrev pub fields_scanned : {S : Type 0} → Visiting S → S → Fields → S × Fields
fields_scanned f v no_fields = (v, no_fields)
fields_scanned f v (field_then k t fs) = field_before k (f v t) (fields_scanned f (f v t).0 fs)

-- the items of an array, the curried values of a function, the values of a map; cells aren't entered
abbrev pub content_scanned : {S : Type 0} → Visiting S → S → Content → S × Content
content_scanned f v (leaf l) = (v, leaf l)
content_scanned f v (branch k ts) = ((each_scanned f v ts).0, branch k (each_scanned f v ts).1)
content_scanned f v (fields fs) = ((fields_scanned f v fs).0, fields (fields_scanned f v fs).1)
content_scanned f v (holder c) = (v, holder c)

abbrev pub children_scanned : {S : Type 0} → Visiting S → S → Tree → S × Tree
children_scanned f v (node c g m) = ((content_scanned f v c).0, node (content_scanned f v c).1 g m)

-- The value is visited, and then the children of the result. The number bounds the depth.
abbrev pub scan_in : {S : Type 0} → Visiting S → ℕ → Visiting S
scan_in f zero v t = (v, t)
scan_in f (suc n) v t = children_scanned (scan_in f n) (f v t).0 (f v t).1

-- If visits add no nodes, the depth is at most the number of nodes.
unfoldable pub scan : {S : Type 0} → Visiting S → Visiting S
scan f v t = scan_in f (nodes t) v t

-- visits of related values give the same visitor, and related values
abbrev pub SameVisits : {S : Type 0} → Renaming → Visiting S → Type 0
SameVisits {S} r f = (v : S) (t u : Tree) → Related r t u → ((f v t).0 ≡ (f v u).0) × Related r (f v t).1 (f v u).1

-- replacing a content by one without children adds no nodes
pub nodes_kept : (b : Bool) (c : Content) (t : Tree) → nodes_content c ≡ 0 → nodes (if b then with_content c t else t) ≤ nodes t
nodes_kept true c (node d g m) none = omega (arith, none)
nodes_kept false c t none = omega arith

-- nor does replacing a value by unit
pub nodes_unit : (b : Bool) (t : Tree) → nodes (if b then fresh unit else t) ≤ nodes t
nodes_unit true (node d g m) = omega arith
nodes_unit false t = omega arith
