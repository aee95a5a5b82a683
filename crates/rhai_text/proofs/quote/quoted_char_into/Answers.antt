use Rattle.std.proofs.Common.{◌≡◌, ◌++◌, OnOk, string_bytes, subst}
use Rattle.std.specs.Str.{chars, encode_utf8_all}
use Rattle.rhai_text.specs.Quote.{quoted}
use Rattle.rhai_text.proofs.Texts.{chars-one}
use Rattle.rhai_text.proofs.quote.quoted_char_into.Goals as goal

pub returns-clause-characters : goal.returns-clause-characters
returns-clause-characters c =
    subst (λ cs. OnOk c.append_quoted.result (chars (string_bytes c.append_quoted.new.out) ≡ chars (string_bytes c.args.out.now) ++ quoted 39 cs))
    (chars-one c.encode_utf8.result.now c.args.character c.encode_utf8.utf8 c.encode_utf8.ensures.value)
    c.append_quoted.ensures.characters

pub returns-clause-bytes : goal.returns-clause-bytes
returns-clause-bytes c =
    subst (λ cs. OnOk c.append_quoted.result (string_bytes c.append_quoted.new.out ≡ string_bytes c.args.out.now ++ encode_utf8_all (quoted 39 cs))) (chars-one c.encode_utf8.result.now c.args.character c.encode_utf8.utf8 c.encode_utf8.ensures.value)
    c.append_quoted.ensures.bytes
