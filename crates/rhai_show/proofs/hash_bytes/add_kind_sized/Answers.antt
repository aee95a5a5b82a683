use Rattle.std.proofs.Common.{◌∷◌, length, w64, refl, rules}
use Rattle.std.specs.Int.{to_le_bytes}
use Rattle.rhai_show.specs.HashBytes.{count_bytes}
use Rattle.rhai_show.proofs.Pushed.{added_twice}
use Rattle.rhai_show.proofs.hash_bytes.add_kind_sized.Goals as goal

pub returns-clause-bytes : goal.returns-clause-bytes
unfolding count_bytes
returns-clause-bytes c =
    added_twice c.add_bytes.result _ c.add_front.new.out.items c.args.out.now.items (c.args.kind ∷ to_le_bytes w64 (length c.args.bytes.now)) c.args.bytes.now _ (search rules) refl (search rules)
