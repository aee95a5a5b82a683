use Rattle.std.proofs.Common.{◌≡◌, ◌<◌, ◌++◌, false, OnOk, string_bytes, subst, arith}
use Rattle.std.specs.Str.{IsUtf8}
use Rattle.std.proofs.lemmas.Fmt.{hex_byte}
use Rattle.rhai_show.proofs.Pushed.{pushed_ascii, IsAscii-hex}
use Rattle.rhai_show.specs.Leaves.{hex_digits}
use Rattle.rhai_show.proofs.blob.add_byte.Goals as goal

pub returns : goal.returns
returns c =
    let old = string_bytes c.args.out.now in
    let new = string_bytes c.write.new.self in
    let fits : c.args.byte < 256 = omega arith in
    let padded = rw c.laid_out.ensures at (rw c.in_radix.ensures at c.write.ensures.bytes) in
    pushed_ascii c.write.result new old (hex_digits c.args.byte)
    (subst IsUtf8 c.as_str-before.ensures.value c.as_str-before.utf8)
    (IsAscii-hex c.args.byte fits)
    (subst (λ t. OnOk c.write.result (new ≡ old ++ t)) (hex_byte false c.args.byte fits) padded)
