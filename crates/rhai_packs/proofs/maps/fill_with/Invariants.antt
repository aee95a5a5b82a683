use Rattle.std.proofs.Common.{◌≡◌, ◌++◌}
use Rattle.rhai_value.specs.Rows.{Rows}
use Rattle.rhai_packs.specs.Entries.{filled}
use Rattle.rhai_packs.proofs.maps.fill_with.Given as goal

abbrev pub invariant-loop-key : goal.invariant-loop-key
invariant-loop-key l = record {
  done : Rows;
  all : l.fn.other ≡ done ++ l.key-iterator;
  made : l.map ≡ filled l.initial.map done;
}
