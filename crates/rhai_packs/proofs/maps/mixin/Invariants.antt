use Rattle.std.proofs.Common.{◌≡◌, ◌++◌}
use Rattle.rhai_value.specs.Rows.{Rows}
use Rattle.rhai_packs.specs.Entries.{mixed}
use Rattle.rhai_packs.proofs.maps.mixin.Given as goal

abbrev pub invariant-loop-key : goal.invariant-loop-key
invariant-loop-key l = record {
  done : Rows;
  all : l.fn.other ≡ done ++ l.key-iterator;
  made : l.map ≡ mixed l.initial.map done;
}
