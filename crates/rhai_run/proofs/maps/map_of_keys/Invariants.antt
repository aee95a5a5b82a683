use Rattle.std.proofs.Common.{◌≡◌, [], map, take}
use Rattle.rhai_value.specs.Tree.{fresh, unit}
use Rattle.rhai_run.specs.Made.{rows_with}
use Rattle.rhai_run.proofs.maps.map_of_keys.Given as goal

abbrev pub invariant-loop-key : goal.invariant-loop-key
invariant-loop-key l = l.map ≡ rows_with [] (take l.key-index l.keys) (map (λ k. fresh unit) l.keys)
