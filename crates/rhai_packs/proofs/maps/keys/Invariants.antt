use Rattle.std.proofs.Common.{◌≡◌, ◌++◌, map}
use Rattle.std.specs.Map.{keys_of}
use Rattle.std.specs.Str.{chars}
use Rattle.rhai_value.specs.Rows.{Rows}
use Rattle.rhai_value.specs.Tree.{fresh, text}
use Rattle.rhai_packs.proofs.maps.keys.Given as goal

abbrev pub invariant-loop-key : goal.invariant-loop-key
invariant-loop-key l = record {
  done : Rows;
  all : l.map ≡ done ++ l.key-iterator;
  made : l.keys.items ≡ map (λ k. fresh (text (chars k))) (keys_of done);
}
