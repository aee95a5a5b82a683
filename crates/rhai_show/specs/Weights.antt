-- The work for a value; a cell's content counts each time that it is reached.
use Rattle.std.specs.Prelude.{ℕ, suc, ◌+◌, List}
use Rattle.rhai_value.specs.declared.cells.store.Cell.{Cell}
use Rattle.rhai_value.specs.Tree.{Tree, node, Content, leaf, branch, fields, holder, Trees, no_trees, tree_then, Fields, no_fields, field_then}
use Rattle.rhai_value.specs.Walk.{Visit, entered, barred, revisited, walk}

abbrev pub held_weight : Visit ℕ → ℕ
held_weight (entered n) = suc n
held_weight barred = 0
held_weight revisited = 0

abbrev mutual
  pub weight_of : List ℕ → (ℕ → Visit ℕ) → Tree → ℕ
  weight_of path go (node c g m) = content_weight path go c

  pub content_weight : List ℕ → (ℕ → Visit ℕ) → Content → ℕ
  content_weight path go (leaf l) = 0
  content_weight path go (branch k ts) = all_weight path go ts
  content_weight path go (fields fs) = fields_weight path go fs
  content_weight path go (holder c) = held_weight (go c)

  pub all_weight : List ℕ → (ℕ → Visit ℕ) → Trees → ℕ
  all_weight path go no_trees = 0
  all_weight path go (tree_then t ts) = suc (weight_of path go t) + all_weight path go ts

  pub fields_weight : List ℕ → (ℕ → Visit ℕ) → Fields → ℕ
  fields_weight path go no_fields = 0
  fields_weight path go (field_then k t fs) = suc (weight_of path go t) + fields_weight path go fs

-- with these cells open
unfoldable pub weight : List Cell → List ℕ → Tree → ℕ
weight s path t = walk weight_of s path t
