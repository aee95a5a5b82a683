use Rattle.std.proofs.Common.{string_bytes, subst, arith, rules, w64}
use mir.Val.{to_z, of_z}
use Rattle.std.proofs.lemmas.Int.{to_z-of_z}
use Rattle.std.specs.Fmt.{signed_decimal}
use Rattle.std.specs.Str.{IsUtf8}
use Rattle.std.proofs.lemmas.Fmt.{IsAscii-signed}
use Rattle.rhai_show.proofs.Pushed.{added_as, digits_of, pushed_ascii}
use Rattle.rhai_show.proofs.leaf.add_int.Goals as goal

pub returns : goal.returns
returns c =
    let n = c.args.value.now in
    rw (← to_z-of_z w64 n (search rules))
    (pushed_ascii c.write.result (string_bytes c.write.new.self) (string_bytes c.args.out.now) (signed_decimal (to_z w64 (of_z w64 n)))
    (subst IsUtf8 c.as_str-before.ensures.value c.as_str-before.utf8) (rw (to_z-of_z w64 n (search rules)) (IsAscii-signed n (omega arith))) c.write.ensures.bytes)

pub returns-then-value-lt100 : goal.returns-then-value-lt100
returns-then-value-lt100 c =
    let n = c.args.value.now in
    rw (← to_z-of_z w64 n (search rules))
    (pushed_ascii c.add_short.result (string_bytes c.add_short.new.out) (string_bytes c.args.out.now) (signed_decimal (to_z w64 (of_z w64 n)))
    (subst IsUtf8 c.as_str-before.ensures.value c.as_str-before.utf8) (rw (to_z-of_z w64 n (search rules)) (IsAscii-signed n (omega arith)))
    (added_as c.add_short.result _ _ _ _ (digits_of _ c.if-value-ge0.true) c.add_short.ensures))
