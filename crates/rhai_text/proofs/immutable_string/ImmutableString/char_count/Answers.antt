use Rattle.std.proofs.Common.{length, ap}
use Rattle.rhai_text.proofs.Texts.{ascii_is}
use Rattle.rhai_text.proofs.immutable_string.ImmutableString.char_count.Goals as goal

pub returns-then-is_ascii : goal.returns-then-is_ascii
returns-then-is_ascii c =
    ap length (ascii_is c.as_str-text.result.now c.args.self.now c.as_str-text.ensures.characters c.as_str-text.ensures.bytes (c.is_ascii.ensures c.if-is_ascii.true))
