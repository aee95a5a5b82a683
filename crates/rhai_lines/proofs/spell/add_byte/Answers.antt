use Rattle.std.proofs.Common.{◌≡◌, ◌<◌, ◌++◌, false, OnOk, string_bytes, subst, arith}
use Rattle.std.proofs.lemmas.Fmt.{hex_byte}
use Rattle.rhai_lines.proofs.spell.add_byte.Goals as goal

pub returns : goal.returns
returns c =
    let fits : c.args.byte < 256 = omega arith in
    let padded = rw c.laid_out.ensures at (rw c.in_radix.ensures at c.write.ensures.bytes) in
    subst (λ t. OnOk c.write.result (string_bytes c.write.new.self ≡ string_bytes c.args.line.now ++ t)) (hex_byte false c.args.byte fits) padded
