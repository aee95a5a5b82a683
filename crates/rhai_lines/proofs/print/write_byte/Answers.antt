use Rattle.std.proofs.Common.{◌<◌, false, OnOk, subst, arith}
use Rattle.std.specs.Io.KnownBytes.{Appends}
use Rattle.std.proofs.lemmas.Fmt.{hex_byte}
use Rattle.rhai_lines.proofs.print.write_byte.Goals as goal

pub returns : goal.returns
returns g c =
    let fits : c.args.byte < 256 = omega arith in
    let padded = rw c.laid_out.ensures at (rw c.in_radix.ensures at c.write.ensures.bytes) in
    subst (λ t. OnOk c.write.result (Appends (g.W.Write.contents c.args.writer.now) (g.W.Write.contents c.write.new.self) t)) (hex_byte false c.args.byte fits) padded
