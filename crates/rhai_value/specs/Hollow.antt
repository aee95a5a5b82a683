-- Values whose children are taken out and scanned one after another.
use Rattle.std.specs.Prelude.{◌≡◌, ℕ, ◌-◌, ◌<◌, ◌≤◌, List, [], ◌∷◌, ◌++◌, length, take, drop, slice_set}
use Rattle.rhai_value.specs.Children.{children_of}
use Rattle.rhai_value.specs.Rows.{trees_of}
use Rattle.rhai_value.specs.Scan.{Visiting}
use Rattle.rhai_value.specs.Tree.{Tree, node, Content, leaf, branch, fields, holder, Fields, no_fields, field_then, nodes_trees}
use Rattle.rhai_value.specs.declared.walk.hollow.Hollow.{Hollow}

-- the values of a map replaced by these, in the order of the keys, as far as they go
abbrev pub with_fields : Fields → List Tree → Fields
with_fields no_fields us = no_fields
with_fields (field_then k t fs) [] = field_then k t (with_fields fs [])
with_fields (field_then k t fs) (u ∷ us) = field_then k u (with_fields fs us)

abbrev pub with_children_in : Content → List Tree → Content
with_children_in (leaf l) us = leaf l
with_children_in (branch k ts) us = branch k (trees_of us)
with_children_in (fields fs) us = fields (with_fields fs us)
with_children_in (holder c) us = holder c

-- a value with its children replaced by these
abbrev pub with_children : Tree → List Tree → Tree
with_children (node c g m) us = node (with_children_in c us) g m

-- these are the children of t, of which the shell is left: replacing them there is replacing them in t
abbrev pub AreTakenOut : Tree → Tree → List Tree → Type 0
AreTakenOut t shell ts = (ts ≡ children_of t) × ((us : List Tree) → length us ≡ length (children_of t) → with_children shell us ≡ with_children t us)

-- a result with one more value in front
abbrev pub item_before : {S : Type 0} → S × Tree → S × List Tree → S × List Tree
item_before x y = (y.0, x.1 ∷ y.1)

-- the scans of these in turn, with the visitor passed along
abbrev pub list_scanned : {S : Type 0} → Visiting S → S → List Tree → S × List Tree
list_scanned f v [] = (v, [])
list_scanned f v (t ∷ ts) = item_before (f v t) (list_scanned f (f v t).0 ts)

-- a value, with these appended to other children
abbrev pub whole_with : {S : Type 0} → Tree → List Tree → S × List Tree → S × Tree
whole_with t done x = (x.0, with_children t (done ++ x.1))

-- a value with these children, of which all but the first n are yet to be scanned
abbrev pub scanned_from : {S : Type 0} → Visiting S → S → Tree → List Tree → ℕ → S × Tree
scanned_from f v t ts n = whole_with t (take n ts) (list_scanned f v (drop n ts))

-- the result for the visitor and a value in progress
abbrev pub hollow_scanned : {S : Type 0} → Visiting S → S → Hollow → S × Tree
hollow_scanned f v h = scanned_from f v h.shell h.children.items h.next

-- the same with x in place of the last child taken
abbrev pub hollow_after : {S : Type 0} → Visiting S → S → Hollow → Tree → S × Tree
hollow_after f v h x = scanned_from f v h.shell (slice_set h.children.items (h.next - 1) x) h.next

-- the number of nodes yet to be scanned
abbrev pub hollow_left : Hollow → ℕ
hollow_left h = nodes_trees (trees_of (drop h.next h.children.items))

-- the next child may be taken
abbrev pub IsReady : Hollow → Type 0
IsReady h = h.next ≤ length h.children.items

-- a child was taken, and will be put back
abbrev pub IsWaiting : Hollow → Type 0
IsWaiting h = (0 < h.next) × (h.next ≤ length h.children.items)

-- swapping the values of a map with these: those taken, and those left to be inserted
abbrev pub exchanged : Visiting (List Tree × List Tree)
exchanged (taken, []) t = ((taken, []), t)
exchanged (taken, u ∷ us) t = ((taken ++ t ∷ [], us), u)

-- the first n of these, and the others
abbrev pub parted : List Tree → ℕ → List Tree × List Tree
parted ts n = (take n ts, drop n ts)
