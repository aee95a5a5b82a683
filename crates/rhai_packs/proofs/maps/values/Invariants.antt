use Rattle.std.proofs.Common.{◌≡◌, ◌++◌, map}
use Rattle.std.specs.Map.{values_of}
use Rattle.rhai_value.specs.Rows.{Rows}
use Rattle.rhai_value.specs.Tree.{copy}
use Rattle.rhai_packs.proofs.maps.values.Given as goal

abbrev pub invariant-loop-value : goal.invariant-loop-value
invariant-loop-value l = record {
  done : Rows;
  all : l.map ≡ done ++ l.value-iterator;
  made : l.values.items ≡ map copy (values_of done);
}
