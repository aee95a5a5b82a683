use Rattle.std.proofs.Common.{◌∙◌, ap}
use Rattle.std.specs.Str.{chars}
use Rattle.rhai_text.proofs.Texts.{IsCharBoundary-cut, chars-front_cut, chars-back_cut, drop-back_cut, length-le-cut}
use Rattle.rhai_text.proofs.edits.split_at_char.Goals as goal

pub overflow_sub-text : goal.overflow_sub-text
overflow_sub-text c =
    length-le-cut c.args.text.now c.utf8.text c.args.count c.skip_chars-back.result.now c.skip_chars-back.utf8 c.skip_chars-back.ensures

pub split_at-requires : goal.split_at-requires
split_at-requires c =
    IsCharBoundary-cut c.args.text.now c.utf8.text c.args.count c.skip_chars-back.result.now c.skip_chars-back.utf8 c.skip_chars-back.ensures

pub returns-clause-front : goal.returns-clause-front
returns-clause-front c =
    ap chars c.split_at.ensures.front
    ∙ chars-front_cut c.args.text.now c.utf8.text c.args.count c.skip_chars-back.result.now c.skip_chars-back.utf8 c.skip_chars-back.ensures

pub returns-clause-back_bytes : goal.returns-clause-back_bytes
returns-clause-back_bytes c =
    c.split_at.ensures.back
    ∙ drop-back_cut c.args.text.now c.utf8.text c.args.count c.skip_chars-back.result.now c.skip_chars-back.utf8 c.skip_chars-back.ensures

pub returns-clause-back : goal.returns-clause-back
returns-clause-back c =
    ap chars c.split_at.ensures.back
    ∙ chars-back_cut c.args.text.now c.utf8.text c.args.count c.skip_chars-back.result.now c.skip_chars-back.utf8 c.skip_chars-back.ensures
