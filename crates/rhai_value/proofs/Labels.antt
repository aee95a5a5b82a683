-- A value's content with another tag and mode.
use Rattle.std.proofs.Common.{◌≡◌, ℤ, refl}
use Rattle.rhai_value.specs.declared.value.access_mode.AccessMode.{AccessMode}
use Rattle.rhai_value.specs.Tree.{Tree, node, content_of, with_tag, with_mode}

pub under_label : (g : ℤ) (m : AccessMode) (t : Tree) → with_mode m (with_tag g t) ≡ node (content_of t) g m
under_label g m (node c h n) = refl
