use Rattle.std.proofs.Common.{string_bytes, sym}
use Rattle.rhai_packs.proofs.Found.{refused_text}
use Rattle.rhai_packs.specs.Texts.{IsReplaced}
use Rattle.std.specs.Str.{encode_utf8_all}
use Rattle.rhai_packs.proofs.texts.replace.Goals as goal

pub returns-in-Ok-clause-ok : goal.returns-in-Ok-clause-ok
returns-in-Ok-clause-ok c =
    (string_bytes c.in_ok-made.made, rw (sym c.as_str.ensures.bytes) c.in_ok-made.ensures.ok, c.in-Ok.ensures.answer, c.in-Ok.ensures.ok)

pub returns-clause-refused : goal.returns-clause-refused
returns-clause-refused c =
    refused_text c.args.limits.now _ (IsReplaced (encode_utf8_all c.args.text.now) c.args.part c.args.with.now) (string_bytes c.in_ok-made.made) c.in-Err.error (rw (sym c.as_str.ensures.bytes) c.in_ok-made.ensures.ok) c.in-Err.ensures.answer
