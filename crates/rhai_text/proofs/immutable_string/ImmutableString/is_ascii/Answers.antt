use Rattle.std.proofs.Common.{ap, ◌∙◌}
use Rattle.std.specs.Str.{chars}
use Rattle.rhai_text.specs.Bytes.{text_bytes}
use Rattle.rhai_text.proofs.Texts.{ascii_encodes}
use Rattle.rhai_text.proofs.immutable_string.ImmutableString.is_ascii.Goals as goal

pub returns : goal.returns
returns c h = ascii_encodes (text_bytes c.deref.result.now) c.args.self.now (ap (λ b. chars (text_bytes b)) c.deref.ensures ∙ c.self.view_is) (c.is_ascii.ensures h)
