use Rattle.std.proofs.Common.{refl, sym, ◌∙◌}
use Rattle.rhai_value.proofs.Items.{found}
use Rattle.rhai_value.proofs.Placed.{field_written}
use Rattle.rhai_value.proofs.places.with_place.value_mut.Goals as goal

pub returns : goal.returns
returns c =
    let rs = c.args.map.now in
    let k = c.args.key.now in
    (refl, (c.get_mut.ensures.value ∙ sym (found rs k c.len.ensures.texts c.utf8.key), λ w. field_written rs k w c.len.ensures.texts c.utf8.key))
