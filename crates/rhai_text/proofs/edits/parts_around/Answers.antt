use Rattle.rhai_text.proofs.Texts.{IsAscii-rest}
use Rattle.rhai_text.proofs.edits.parts_around.Goals as goal

pub text_after-requires : goal.text_after-requires
text_after-requires c h = IsAscii-rest c.args.text.now c.args.start (c.requires h) c.split_at_char.result.1.now c.split_at_char.ensures.back_bytes
