use Rattle.std.proofs.Common.{string_bytes, subst}
use Rattle.std.specs.Str.{IsUtf8}
use Rattle.rhai_scope.proofs.FromBelow.{pushed_chars}
use Rattle.rhai_scope.proofs.shown.add_text.Goals as goal

pub returns : goal.returns
returns c =
    pushed_chars c.push_str.result (string_bytes c.push_str.new.self) (string_bytes c.args.out.now) c.args.text.now
    (subst IsUtf8 c.as_str-before.ensures.value c.as_str-before.utf8) c.push_str.ensures.bytes
