-- Plain values: values without tags, modes and holders.
use Rattle.std.specs.Prelude.{ℕ, List, Option, Some, None, option_map, option_and_then}
use Rattle.rhai_value.specs.declared.cells.store.Cell.{Cell}
use Rattle.rhai_value.specs.Tree.{Leaf, Kind, Tree, node, Content, leaf, branch, fields, holder, Trees, no_trees, tree_then, Fields, no_fields, field_then}
use Rattle.rhai_value.specs.Walk.{Visit, entered, barred, revisited, walk}

mutual
  -- a leaf, children, or the fields of a map
  pub data Plain : Type 0 where
    plain_leaf : Leaf → Plain
    plain_branch : Kind → Plains → Plain
    plain_map : PlainFields → Plain

  pub data Plains : Type 0 where
    no_plains : Plains
    plain_then : Plain → Plains → Plains

  -- each key, as its characters, with its value
  pub data PlainFields : Type 0 where
    no_plain_fields : PlainFields
    plain_field_then : List ℕ → Plain → PlainFields → PlainFields

-- one more child, if all exist
abbrev pub plain_more : Option Plain → Option Plains → Option Plains
plain_more first o = option_and_then (λ p. option_map (plain_then p) o) first

-- one more field, if all exist
abbrev pub plain_field_more : List ℕ → Option Plain → Option PlainFields → Option PlainFields
plain_field_more k first o = option_and_then (λ p. option_map (plain_field_then k p) o) first

-- a holder is its cell's content; none if the cell is open, marked or foreign
abbrev pub plain_held : Visit (Option Plain) → Option Plain
plain_held (entered o) = o
plain_held barred = None
plain_held revisited = None

abbrev mutual
  pub plain_of : List ℕ → (ℕ → Visit (Option Plain)) → Tree → Option Plain
  plain_of path go (node c g m) = content_plain path go c

  pub content_plain : List ℕ → (ℕ → Visit (Option Plain)) → Content → Option Plain
  content_plain path go (leaf l) = Some (plain_leaf l)
  content_plain path go (branch k ts) = option_map (plain_branch k) (all_plain path go ts)
  content_plain path go (fields fs) = option_map plain_map (fields_plain path go fs)
  content_plain path go (holder c) = plain_held (go c)

  pub all_plain : List ℕ → (ℕ → Visit (Option Plain)) → Trees → Option Plains
  all_plain path go no_trees = Some no_plains
  all_plain path go (tree_then t ts) = plain_more (plain_of path go t) (all_plain path go ts)

  pub fields_plain : List ℕ → (ℕ → Visit (Option Plain)) → Fields → Option PlainFields
  fields_plain path go no_fields = Some no_plain_fields
  fields_plain path go (field_then k t fs) = plain_field_more k (plain_of path go t) (fields_plain path go fs)

-- the plain value, with these cells open; none if it goes through an open, marked or foreign cell
unfoldable pub plain : List Cell → List ℕ → Tree → Option Plain
plain s path t = walk plain_of s path t
