-- The remaining children of a value.
use Rattle.std.specs.Prelude.{List, []}
use Rattle.rhai_value.specs.Tree.{Tree}
use Rattle.rhai_value.specs.declared.walk.children.ChildrenLeft.{ChildrenLeft}
use Rattle.rhai_value.specs.declared.walk.children.ChildrenLeft.TheVariants.{Nothing, Items, Values}

abbrev pub children_left : ChildrenLeft → List Tree
children_left Nothing = []
children_left (Items items) = items.now
children_left (Values ts) = ts
