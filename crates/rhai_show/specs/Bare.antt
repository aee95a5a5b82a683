-- Values with tag 0 and mode ReadWrite at every depth; everything else is unchanged.
use Rattle.rhai_value.specs.declared.cells.store.Cell.{Cell}
use Rattle.rhai_value.specs.Tree.{Tree, node, Content, leaf, branch, fields, holder, Trees, no_trees, tree_then, Fields, no_fields, field_then, made}

abbrev mutual
  pub bare : Tree → Tree
  bare (node c g m) = made (bare_content c)

  pub bare_content : Content → Content
  bare_content (leaf l) = leaf l
  bare_content (branch k ts) = branch k (bare_trees ts)
  bare_content (fields fs) = fields (bare_fields fs)
  bare_content (holder c) = holder c

  pub bare_trees : Trees → Trees
  bare_trees no_trees = no_trees
  bare_trees (tree_then t ts) = tree_then (bare t) (bare_trees ts)

  pub bare_fields : Fields → Fields
  bare_fields no_fields = no_fields
  bare_fields (field_then k t fs) = field_then k (bare t) (bare_fields fs)

-- a cell with such a content and the same mark
abbrev pub bare_cell : Cell → Cell
bare_cell x = record x { content = bare x.content }
