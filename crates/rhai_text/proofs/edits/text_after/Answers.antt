use Rattle.std.proofs.Common.{◌≡◌, ◌+◌, if◌then◌else◌, drop, sym, ◌∙◌, ap}
use Rattle.std.proofs.lemmas.List.{drop-drop}
use Rattle.std.proofs.lemmas.Str.{chars_from_encodes}
use Rattle.std.specs.Str.{chars, encode_utf8_all}
use Rattle.rhai_text.proofs.Texts.{IsAscii-rest}
use Rattle.rhai_text.proofs.edits.text_after.Goals as goal

pub returns-then-exclusive-clause-characters : goal.returns-then-exclusive-clause-characters
returns-then-exclusive-clause-characters c =
    let cs = chars c.args.text.now in
    sym (chars_from_encodes (drop c.args.end cs) c.skip_chars-from_end.result.now c.skip_chars-from_end.utf8 (sym c.skip_chars-from_end.ensures))
    ∙ ap (λ b. drop (if b then c.args.end else c.args.end + 1) cs) (sym c.if-exclusive.true)

pub returns-else-exclusive-clause-characters : goal.returns-else-exclusive-clause-characters
returns-else-exclusive-clause-characters c =
    let cs = chars c.args.text.now in
    let from_end : chars c.skip_chars-from_end.result.now ≡ drop c.args.end cs =
    sym (chars_from_encodes (drop c.args.end cs) c.skip_chars-from_end.result.now c.skip_chars-from_end.utf8 (sym c.skip_chars-from_end.ensures))
    in
    sym (chars_from_encodes (drop 1 (chars c.skip_chars-from_end.result.now)) c.skip_chars.result.now c.skip_chars.utf8 (sym c.skip_chars.ensures))
    ∙ ap (drop 1) from_end
    ∙ drop-drop 1 c.args.end cs
    ∙ ap (λ b. drop (if b then c.args.end else c.args.end + 1) cs) (sym c.if-exclusive.false)

pub returns-then-exclusive-clause-bytes : goal.returns-then-exclusive-clause-bytes
returns-then-exclusive-clause-bytes c =
    c.skip_chars-from_end.ensures ∙ ap (λ b. encode_utf8_all (drop (if b then c.args.end else c.args.end + 1) (chars c.args.text.now))) (sym c.if-exclusive.true)

pub returns-else-exclusive-clause-bytes : goal.returns-else-exclusive-clause-bytes
returns-else-exclusive-clause-bytes c =
    let cs = chars c.args.text.now in
    let from_end : chars c.skip_chars-from_end.result.now ≡ drop c.args.end cs =
    sym (chars_from_encodes (drop c.args.end cs) c.skip_chars-from_end.result.now c.skip_chars-from_end.utf8 (sym c.skip_chars-from_end.ensures))
    in
    c.skip_chars.ensures
    ∙ ap encode_utf8_all (ap (drop 1) from_end ∙ drop-drop 1 c.args.end cs)
    ∙ ap (λ b. encode_utf8_all (drop (if b then c.args.end else c.args.end + 1) cs)) (sym c.if-exclusive.false)

pub skip_chars-requires : goal.skip_chars-requires
skip_chars-requires c h = IsAscii-rest c.args.text.now c.args.end (c.requires h) c.skip_chars-from_end.result.now c.skip_chars-from_end.ensures
