-- The bytes of a text are the encoding of its characters.
use Rattle.std.proofs.Common.{sym, ◌∙◌, ap}
use Rattle.std.proofs.lemmas.Str.{encodes-chars}
use Rattle.std.specs.Str.{chars, encode_utf8_all}
use Rattle.rhai_text.specs.Bytes.{text_bytes}
use Rattle.rhai_text.proofs.immutable_string.ImmutableString.as_str.Goals as goal

pub returns-clause-bytes : goal.returns-clause-bytes
returns-clause-bytes c =
    sym (encodes-chars c.as_str.result.now c.as_str.utf8)
    ∙ ap encode_utf8_all (ap chars (c.as_str.ensures ∙ ap text_bytes c.deref.ensures) ∙ c.self.view_is)
