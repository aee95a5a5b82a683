-- What the copy of an entry keeps.
use Rattle.std.proofs.Common.{◌≡◌, ℕ, List, map, Option, Some, None, option_map, refl, ap, ◌∙◌}
use Rattle.rhai_value.specs.declared.value.access_mode.AccessMode.{AccessMode}
use Rattle.rhai_value.specs.Copied.{SameButModes, SameContentButModes, AllSameButModes, SameFieldsButModes}
use Rattle.rhai_value.specs.Tree.{Tree, node, Content, leaf, branch, fields, holder, array, function, Trees, no_trees, tree_then, Fields, no_fields, field_then, copy, copy_content, copy_trees, copy_fields, paint, paint_content, paint_trees, paint_fields, mode_of, is_constant}
use Rattle.rhai_scope.specs.Entry.{Entry, copied_value, copied_entry, is_constant_entry}
use Rattle.rhai_scope.specs.Lookup.{last_entry, visible}
use Rattle.rhai_scope.proofs.Found.{visible_means}

mutual
  kept_copy : (t : Tree) → SameButModes (copy t) t
  kept_copy (node c g m) = (kept_content c, refl)

  kept_content : (c : Content) → SameContentButModes (copy_content c) c
  kept_content (leaf l) = refl
  kept_content (branch k ts) = (refl, kept_trees ts)
  kept_content (fields fs) = kept_fields fs
  kept_content (holder c) = refl

  kept_trees : (ts : Trees) → AllSameButModes (copy_trees ts) ts
  kept_trees no_trees = tt
  kept_trees (tree_then t ts) = (kept_copy t, kept_trees ts)

  kept_fields : (fs : Fields) → SameFieldsButModes (copy_fields fs) fs
  kept_fields no_fields = tt
  kept_fields (field_then k t fs) = (refl, kept_copy t, kept_fields fs)

-- painting goes through arrays and maps, but not into curried values
mutual
  pub painted_copy : (m : AccessMode) (t : Tree) → SameButModes (paint m (copy t)) t
  painted_copy m (node c g n) = (painted_content m c, refl)

  painted_content : (m : AccessMode) (c : Content) → SameContentButModes (paint_content m (copy_content c)) c
  painted_content m (leaf l) = refl
  painted_content m (branch array ts) = (refl, painted_trees m ts)
  painted_content m (branch (function f) ts) = (refl, kept_trees ts)
  painted_content m (fields fs) = painted_fields m fs
  painted_content m (holder c) = refl

  painted_trees : (m : AccessMode) (ts : Trees) → AllSameButModes (paint_trees m (copy_trees ts)) ts
  painted_trees m no_trees = tt
  painted_trees m (tree_then t ts) = (painted_copy m t, painted_trees m ts)

  painted_fields : (m : AccessMode) (fs : Fields) → SameFieldsButModes (paint_fields m (copy_fields fs)) fs
  painted_fields m no_fields = tt
  painted_fields m (field_then k t fs) = (refl, painted_copy m t, painted_fields m fs)

pub kept_value : (e : Entry) → SameButModes (copied_entry e).value e.value
kept_value e = painted_copy (mode_of e.value) e.value

mode_kept : (t : Tree) → mode_of (copied_value t) ≡ mode_of t
mode_kept (node c g m) = refl

pub kept_constant : (e : Entry) → is_constant_entry (copied_entry e) ≡ is_constant_entry e
kept_constant e = ap is_constant (mode_kept e.value)

constant_through : (o : Option Entry) → option_map is_constant_entry (option_map copied_entry o) ≡ option_map is_constant_entry o
constant_through None = refl
constant_through (Some e) = ap Some (kept_constant e)

-- whether a name is a constant is unchanged in the copy of the visible entries
pub constants_kept : (name : List ℕ) (es : List Entry) → option_map is_constant_entry (last_entry name (map copied_entry (visible es))) ≡ option_map is_constant_entry (last_entry name es)
constants_kept name es = ap (option_map is_constant_entry) (visible_means name es) ∙ constant_through (last_entry name es)
