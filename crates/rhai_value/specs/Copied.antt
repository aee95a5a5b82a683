-- Values that differ only in modes.
use Rattle.std.specs.Prelude.{◌≡◌}
use Rattle.rhai_value.specs.declared.value.access_mode.AccessMode.TheVariants.{ReadWrite}
use Rattle.rhai_value.specs.Tree.{Tree, node, Content, leaf, branch, fields, holder, Trees, no_trees, tree_then, Fields, no_fields, field_then}

-- the same contents and tags, and holders of the same cells
abbrev mutual
  pub SameButModes : Tree → Tree → Type 0
  SameButModes (node c g m) (node d h n) = SameContentButModes c d × (g ≡ h)

  pub SameContentButModes : Content → Content → Type 0
  SameContentButModes (leaf l) (leaf k) = l ≡ k
  SameContentButModes (branch k ts) (branch l us) = (k ≡ l) × AllSameButModes ts us
  SameContentButModes (fields fs) (fields hs) = SameFieldsButModes fs hs
  SameContentButModes (holder c) (holder d) = c ≡ d
  SameContentButModes _ _ = ⊥

  pub AllSameButModes : Trees → Trees → Type 0
  AllSameButModes no_trees no_trees = Unit {0}
  AllSameButModes (tree_then t ts) (tree_then u us) = SameButModes t u × AllSameButModes ts us
  AllSameButModes _ _ = ⊥

  pub SameFieldsButModes : Fields → Fields → Type 0
  SameFieldsButModes no_fields no_fields = Unit {0}
  SameFieldsButModes (field_then k t fs) (field_then j u hs) = (k ≡ j) × SameButModes t u × SameFieldsButModes fs hs
  SameFieldsButModes _ _ = ⊥

-- every mode is ReadWrite
abbrev mutual
  pub IsWritable : Tree → Type 0
  IsWritable (node c g m) = (m ≡ ReadWrite) × IsWritableInside c

  pub IsWritableInside : Content → Type 0
  IsWritableInside (leaf l) = Unit {0}
  IsWritableInside (branch k ts) = AreWritable ts
  IsWritableInside (fields fs) = AreFieldsWritable fs
  IsWritableInside (holder c) = Unit {0}

  pub AreWritable : Trees → Type 0
  AreWritable no_trees = Unit {0}
  AreWritable (tree_then t ts) = IsWritable t × AreWritable ts

  pub AreFieldsWritable : Fields → Type 0
  AreFieldsWritable no_fields = Unit {0}
  AreFieldsWritable (field_then k t fs) = IsWritable t × AreFieldsWritable fs
