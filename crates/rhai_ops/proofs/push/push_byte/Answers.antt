use Rattle.std.proofs.Common.{rules, ◌∷◌, [], option_map, ap}
use Rattle.rhai_value.specs.Bytes.{low_byte}
use Rattle.rhai_ops.proofs.FromBelow.{assigned, same_blob}
use Rattle.rhai_ops.proofs.push.push_byte.Goals as goal

pub returns : goal.returns
returns c = assigned same_blob _ c.held_part_mut.result.now.items c.extend_by_one.new.bytes.items (low_byte c.value-number.result ∷ []) c.held_part_mut.ensures.value (ap (option_map (λ n. low_byte n ∷ [])) c.value-number.ensures) (search rules)
