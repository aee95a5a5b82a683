-- Values that contain a locked cell.
use Rattle.std.specs.Prelude.{Bool, false, ◌||◌, List, [], ◌∷◌, is_none}
use Rattle.rhai_value.specs.declared.cells.store.Cell.{Cell}
use Rattle.rhai_value.specs.Tree.{Tree, node, Content, leaf, branch, fields, holder, Trees, no_trees, tree_then, Fields, no_fields, field_then}
use Rattle.rhai_value.specs.Store.{at}

-- Whether the value is, or contains at any depth, a holder of a cell that is marked or not in the
-- store; cells aren't entered.
abbrev mutual
  pub is_locked : List Cell → Tree → Bool
  is_locked s (node c g m) = is_locked_content s c

  pub is_locked_content : List Cell → Content → Bool
  is_locked_content s (leaf l) = false
  is_locked_content s (branch k ts) = is_one_locked s ts
  is_locked_content s (fields fs) = is_field_locked s fs
  is_locked_content s (holder c) = is_none (at s c)

  pub is_one_locked : List Cell → Trees → Bool
  is_one_locked s no_trees = false
  is_one_locked s (tree_then t ts) = is_locked s t || is_one_locked s ts

  pub is_field_locked : List Cell → Fields → Bool
  is_field_locked s no_fields = false
  is_field_locked s (field_then k t fs) = is_locked s t || is_field_locked s fs

-- whether a value in a list is locked
abbrev pub any_locked : List Cell → List Tree → Bool
any_locked s [] = false
any_locked s (t ∷ ts) = is_locked s t || any_locked s ts
