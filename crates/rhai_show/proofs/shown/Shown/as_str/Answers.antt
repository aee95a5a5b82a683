use Rattle.std.proofs.Common.{sym, ap, ◌∙◌, string_bytes, encode_utf8_all}
use Rattle.std.proofs.lemmas.Str.{encodes-chars, IsUtf8-string_bytes}
use Rattle.rhai_show.proofs.shown.Shown.as_str.Goals as goal

pub returns-clause-bytes : goal.returns-clause-bytes
returns-clause-bytes c =
    let text = c.self.inside.text in
    c.deref.ensures ∙ sym (encodes-chars (string_bytes text) (IsUtf8-string_bytes text)) ∙ ap encode_utf8_all c.self.view_is
