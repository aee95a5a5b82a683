use Rattle.std.proofs.Common.{string_bytes, subst}
use Rattle.std.specs.Str.{IsUtf8}
use Rattle.rhai_show.proofs.ForCallers.{pushed_chars}
use Rattle.rhai_packs.proofs.maps.json.add_text.Goals as goal

pub returns-clause-text : goal.returns-clause-text
returns-clause-text c =
    pushed_chars c.push_str.result (string_bytes c.push_str.new.self) (string_bytes c.args.out.now) c.args.text.now
    (subst IsUtf8 c.as_str-before.ensures.value c.as_str-before.utf8) c.push_str.ensures.bytes
