use Rattle.std.proofs.Common.{◌≡◌, take}
use Rattle.rhai_scope.proofs.copy.copied_list.Given as goal

abbrev pub invariant-loop-alias : goal.invariant-loop-alias
invariant-loop-alias l = l.copied.items ≡ take l.alias-index l.list
