use Rattle.std.proofs.Common.{◌≡◌, ◌++◌, vec_len, map, take, drop}
use Rattle.rhai_scope.specs.NameIndex.{lowered}
use Rattle.rhai_scope.proofs.place_list.close_up.Given as goal

abbrev pub invariant-loop-i : goal.invariant-loop-i
invariant-loop-i l = record {
  len : vec_len l.list ≡ vec_len l.fn.list;
  items : l.list.items ≡ map (lowered l.gone) (take l.i l.fn.list.items) ++ drop l.i l.fn.list.items;
}
