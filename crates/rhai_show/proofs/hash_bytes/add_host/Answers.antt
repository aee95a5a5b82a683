use Rattle.std.proofs.Common.{◌∷◌, sym, ap, ◌∙◌, rules}
use Rattle.std.specs.Int.{w128, to_le_bytes, cast_unsigned}
use Rattle.std.proofs.lemmas.Int.{to_z-of_z}
use Rattle.rhai_show.specs.HashBytes.{host_bytes}
use Rattle.rhai_show.proofs.Pushed.{added_as}
use Rattle.rhai_show.proofs.hash_bytes.add_host.Goals as goal

pub returns-in-I128-clause-bytes : goal.returns-in-I128-clause-bytes
returns-in-I128-clause-bytes c =
    added_as c.add_width-in-I128.result _ _ _ _ (ap (λ bs. 9 ∷ 8 ∷ bs) c.to_le_bytes-in-I128.ensures ∙ ap (λ z. 9 ∷ 8 ∷ to_le_bytes w128 (cast_unsigned w128 z)) (to_z-of_z w128 c.in-I128.n (search rules)) ∙ sym (ap (λ h. 9 ∷ host_bytes h) c.in-I128.is)) c.add_width-in-I128.ensures
