use Rattle.std.proofs.Common.{string_bytes, subst, arith, rules}
use mir.Val.{to_z, of_z}
use mir.Syntax.{w128}
use Rattle.std.proofs.lemmas.Int.{to_z-of_z}
use Rattle.std.specs.Fmt.{signed_decimal}
use Rattle.std.specs.Str.{IsUtf8}
use Rattle.rhai_show.proofs.Pushed.{pushed_ascii, IsAscii-signed_wide}
use Rattle.rhai_show.proofs.host.add_signed.Goals as goal

pub returns : goal.returns
returns c =
    let n = c.args.value in
    rw (← to_z-of_z w128 n (search rules))
    (pushed_ascii c.write.result (string_bytes c.write.new.self) (string_bytes c.args.out.now) (signed_decimal (to_z w128 (of_z w128 n)))
    (subst IsUtf8 c.as_str-before.ensures.value c.as_str-before.utf8) (rw (to_z-of_z w128 n (search rules)) (IsAscii-signed_wide n (omega arith))) c.write.ensures.bytes)
