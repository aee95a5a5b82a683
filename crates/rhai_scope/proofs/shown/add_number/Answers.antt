use Rattle.std.proofs.Common.{string_bytes, subst, arith}
use Rattle.std.specs.Fmt.{decimal}
use Rattle.std.specs.Str.{IsUtf8}
use Rattle.std.proofs.lemmas.Fmt.{IsAscii-decimal_wide}
use Rattle.rhai_scope.proofs.FromBelow.{pushed_ascii}
use Rattle.rhai_scope.proofs.shown.add_number.Goals as goal

pub returns : goal.returns
returns c =
    pushed_ascii c.write.result (string_bytes c.write.new.self) (string_bytes c.args.out.now) (decimal c.args.number)
    (subst IsUtf8 c.as_str-before.ensures.value c.as_str-before.utf8) (IsAscii-decimal_wide c.args.number (omega arith)) c.write.ensures.bytes
