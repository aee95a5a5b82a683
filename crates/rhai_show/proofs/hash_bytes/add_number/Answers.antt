use Rattle.std.proofs.Common.{ap, ◌∙◌, rules}
use Rattle.std.specs.Int.{w64, to_le_bytes, cast_unsigned}
use Rattle.std.proofs.lemmas.Int.{to_z-of_z}
use Rattle.rhai_show.proofs.Pushed.{added_as}
use Rattle.rhai_show.specs.HashBytes.{int_bytes}
use Rattle.rhai_show.proofs.hash_bytes.add_number.Goals as goal

pub returns-clause-bytes : goal.returns-clause-bytes
unfolding int_bytes
returns-clause-bytes c = added_as c.add_bytes.result _ _ _ _ (c.to_le_bytes.ensures ∙ ap (λ z. to_le_bytes w64 (cast_unsigned w64 z)) (to_z-of_z w64 c.args.value.now (search rules))) c.add_bytes.ensures
