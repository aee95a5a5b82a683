use Rattle.std.proofs.Common.{◌∷◌, ◌-◌, ◌^◌, length, reverse, string_bytes}
use Rattle.std.specs.Str.{chars}
use Rattle.rhai_packs.proofs.Json.{Whole, Writing}
use Rattle.rhai_packs.proofs.maps.json.add_object.Given as goal

abbrev pub invariant-loop-above : goal.invariant-loop-above
invariant-loop-above l = Writing l.store (Whole l.store l.map (chars (string_bytes l.fn.out))) (chars (string_bytes l.out)) l.path (l.top ∷ reverse l.above.items)

abbrev pub decreases-loop-above : goal.decreases-loop-above
decreases-loop-above l = 2 ^ 64 - length (string_bytes l.out)
