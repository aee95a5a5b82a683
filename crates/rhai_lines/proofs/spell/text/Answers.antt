use Rattle.std.proofs.Common.{Some, [], ◌∷◌, sym}
use Rattle.rhai_lines.proofs.Spoken.{empty_text_is, some_text_is, fed_text_is}
use Rattle.rhai_lines.proofs.Added.{added_behind}
use Rattle.rhai_lines.proofs.spell.text.Goals as goal

pub returns-then-is_empty : goal.returns-then-is_empty
returns-then-is_empty c = rw (empty_text_is c.args.verb.now c.args.text.now (sym c.if-is_empty.ensures)) c.in_ok-push_str.ensures.bytes

pub returns-then-has_feed : goal.returns-then-has_feed
returns-then-has_feed c = fed_text_is c.args.verb.now c.args.text.now c.utf8.text (sym c.if-is_empty.ensures) (sym c.if-has_feed.ensures)

pub returns : goal.returns
returns c =
    rw (some_text_is c.args.verb.now c.args.text.now c.utf8.text (sym c.if-is_empty.ensures) (sym c.if-has_feed.ensures))
    (added_behind c.add.result c.args.verb.now (Some (32 ∷ c.args.text.now)) _ _ _ c.in_ok-push_str.ensures.bytes
    (added_behind c.add.result (32 ∷ []) (Some c.args.text.now) _ _ _ c.in_ok-push_str-2.ensures.bytes c.add.ensures))
