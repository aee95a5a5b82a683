use Rattle.std.proofs.Common.{◌≡◌, ◌≤◌, ℕ, List, take, length, slice_get, vec_len}
use Rattle.std.specs.Map.{keys_of}
use Rattle.rhai_run.specs.Made.{rows_with}
use Rattle.rhai_run.proofs.MapRows.{found}
use Rattle.rhai_run.proofs.maps.move_to_keys.Given as goal

abbrev pub invariant-loop-i : goal.invariant-loop-i
invariant-loop-i l =
    record {
      keys : keys_of l.map ≡ keys_of l.fn.map;
      map : (q : List ℕ) → found q l.map ≡ found q (rows_with l.fn.map (take l.i l.keys) l.fn.values.items);
      ahead : (k : ℕ) → l.i ≤ k → slice_get l.values.items k ≡ slice_get l.fn.values.items k;
      len : vec_len l.values ≡ length l.keys;
    }
