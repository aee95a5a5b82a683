use Rattle.std.proofs.Common.{rules, subst, ◌≡◌, slice_get, sym, ap, ◌∙◌}
use Rattle.rhai_text.proofs.Texts.{ascii_is}
use Rattle.rhai_text.proofs.immutable_string.ImmutableString.char_at.Goals as goal

pub returns-in_err-byte : goal.returns-in_err-byte
returns-in_err-byte c =
    let same = ascii_is c.as_str-text.result.now c.args.self.now c.as_str-text.ensures.characters c.as_str-text.ensures.bytes (c.is_ascii.ensures c.if-is_ascii.true) in
    search (rules, same, c.byte_at.ensures)

pub returns-in_ok-byte : goal.returns-in_ok-byte
returns-in_ok-byte c =
    let same = ascii_is c.as_str-text.result.now c.args.self.now c.as_str-text.ensures.characters c.as_str-text.ensures.bytes (c.is_ascii.ensures c.if-is_ascii.true) in
    search (rules, same, c.byte_at.ensures)
