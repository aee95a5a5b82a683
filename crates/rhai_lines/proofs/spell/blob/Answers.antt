use Rattle.std.proofs.Common.{◌++◌, ◌∷◌, flat_map, string_bytes, sym, ap, ◌∙◌}
use Rattle.std.proofs.lemmas.List.{take_all}
use Rattle.rhai_show.specs.Leaves.{hex_digits}
use Rattle.rhai_lines.proofs.Spoken.{blob_is}
use Rattle.rhai_lines.proofs.spell.blob.Goals as goal

pub returns : goal.returns
returns c =
    rw (blob_is c.args.verb.now c.args.bytes.now c.type_inv.bytes (sym c.if-is_empty.ensures))
    (c.loop-byte.invariant ∙ ap (λ bs. string_bytes c.args.line.now ++ (c.args.verb.now ++ 32 ∷ flat_map hex_digits bs)) (take_all c.loop-byte.byte-index c.args.bytes.now c.loop-byte-test.false))
