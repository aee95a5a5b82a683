-- Values as trees, in which shared parts are given by cell numbers.
use Rattle.std.specs.Prelude.{ℕ, ℤ, pos, suc, ◌+◌, Bool, true, false, Option, Some, None, List}
use Rattle.rhai_value.specs.declared.value.access_mode.AccessMode.{AccessMode}
use Rattle.rhai_value.specs.declared.value.access_mode.AccessMode.TheVariants.{ReadWrite, ReadOnly}
use Rattle.rhai_value.specs.declared.value.host.Host.{Host}

-- a content without children
pub data Leaf : Type 0 where
  unit : Leaf
  bool : Bool → Leaf
  int : ℤ → Leaf
  char : ℕ → Leaf
  text : List ℕ → Leaf
  blob : List ℕ → Leaf
  host : Host → Leaf

-- kinds of contents with children: an array of these items, or a function of this name with these curried values
pub data Kind : Type 0 where
  array : Kind
  function : List ℕ → Kind

mutual
  -- a content with its tag and its mode
  pub data Tree : Type 0 where
    node : Content → ℤ → AccessMode → Tree

  -- a leaf, children, the fields of a map, or a holder of the cell with a number
  pub data Content : Type 0 where
    leaf : Leaf → Content
    branch : Kind → Trees → Content
    fields : Fields → Content
    holder : ℕ → Content

  pub data Trees : Type 0 where
    no_trees : Trees
    tree_then : Tree → Trees → Trees

  -- each key, as its characters, with its value
  pub data Fields : Type 0 where
    no_fields : Fields
    field_then : List ℕ → Tree → Fields → Fields

-- a new value: tag 0, ReadWrite
abbrev pub made : Content → Tree
made c = node c (pos 0) ReadWrite

-- the same for a leaf
abbrev pub fresh : Leaf → Tree
fresh l = made (leaf l)

abbrev pub content_of : Tree → Content
content_of (node c g m) = c

abbrev pub tag_of : Tree → ℤ
tag_of (node c g m) = g

abbrev pub mode_of : Tree → AccessMode
mode_of (node c g m) = m

-- the cell that a value refers to, if it is a holder
abbrev pub cell_of : Tree → Option ℕ
cell_of (node (holder c) g m) = Some c
cell_of _ = None

-- the same content and tags, with f m in place of each mode m; a holder refers to the same cell
abbrev mutual
  pub copy_by : (AccessMode → AccessMode) → Tree → Tree
  copy_by f (node c g m) = node (copy_content_by f c) g (f m)

  pub copy_content_by : (AccessMode → AccessMode) → Content → Content
  copy_content_by f (leaf l) = leaf l
  copy_content_by f (branch k ts) = branch k (copy_trees_by f ts)
  copy_content_by f (fields fs) = fields (copy_fields_by f fs)
  copy_content_by f (holder c) = holder c

  pub copy_trees_by : (AccessMode → AccessMode) → Trees → Trees
  copy_trees_by f no_trees = no_trees
  copy_trees_by f (tree_then t ts) = tree_then (copy_by f t) (copy_trees_by f ts)

  pub copy_fields_by : (AccessMode → AccessMode) → Fields → Fields
  copy_fields_by f no_fields = no_fields
  copy_fields_by f (field_then k t fs) = field_then k (copy_by f t) (copy_fields_by f fs)

-- every mode ReadWrite
abbrev pub writable : AccessMode → AccessMode
writable m = ReadWrite

-- the same content and tags, every mode ReadWrite
abbrev pub copy : Tree → Tree
copy = copy_by writable

abbrev pub copy_content : Content → Content
copy_content = copy_content_by writable

abbrev pub copy_trees : Trees → Trees
copy_trees = copy_trees_by writable

abbrev pub copy_fields : Fields → Fields
copy_fields = copy_fields_by writable

-- painted with the mode m, through arrays and maps; not in curried values
abbrev mutual
  pub paint : AccessMode → Tree → Tree
  paint m (node c g n) = node (paint_content m c) g m

  pub paint_content : AccessMode → Content → Content
  paint_content m (leaf l) = leaf l
  paint_content m (branch array ts) = branch array (paint_trees m ts)
  paint_content m (branch (function f) ts) = branch (function f) ts
  paint_content m (fields fs) = fields (paint_fields m fs)
  paint_content m (holder c) = holder c

  pub paint_trees : AccessMode → Trees → Trees
  paint_trees m no_trees = no_trees
  paint_trees m (tree_then t ts) = tree_then (paint m t) (paint_trees m ts)

  pub paint_fields : AccessMode → Fields → Fields
  paint_fields m no_fields = no_fields
  paint_fields m (field_then k t fs) = field_then k (paint m t) (paint_fields m fs)

-- the number of constructors in a value; a holder is one
abbrev mutual
  pub nodes : Tree → ℕ
  nodes (node c g m) = suc (nodes_content c)

  pub nodes_content : Content → ℕ
  nodes_content (leaf l) = 0
  nodes_content (branch k ts) = nodes_trees ts
  nodes_content (fields fs) = nodes_fields fs
  nodes_content (holder c) = 0

  pub nodes_trees : Trees → ℕ
  nodes_trees no_trees = 0
  nodes_trees (tree_then t ts) = nodes t + nodes_trees ts

  pub nodes_fields : Fields → ℕ
  nodes_fields no_fields = 0
  nodes_fields (field_then k t fs) = nodes t + nodes_fields fs

-- with the tag h
abbrev pub with_tag : ℤ → Tree → Tree
with_tag h (node c g m) = node c h m

-- with the mode m; the content is unchanged
abbrev pub with_mode : AccessMode → Tree → Tree
with_mode m (node c g n) = node c g m

-- whether the mode forbids writes
abbrev pub is_constant : AccessMode → Bool
is_constant ReadWrite = false
is_constant ReadOnly = true

-- whether the value is of one of the host's types
abbrev pub is_host : Tree → Bool
is_host (node (leaf (host h)) g m) = true
is_host _ = false

-- the values whose copies need no allocation
abbrev pub TakesNoMemory : Tree → Type 0
TakesNoMemory (node (leaf (text s)) g m) = ⊥
TakesNoMemory (node (leaf (blob bs)) g m) = ⊥
TakesNoMemory (node (branch k ts) g m) = ⊥
TakesNoMemory (node (fields fs) g m) = ⊥
TakesNoMemory _ = Unit {0}
