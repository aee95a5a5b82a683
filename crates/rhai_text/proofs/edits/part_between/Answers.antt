use Rattle.std.proofs.Common.{◌≡◌, ℕ, ◌+◌, ◌-◌, ◌≤◌, ◌<◌, Bool, true, false, if◌then◌else◌, take, drop, ap, sym, ◌∙◌, arith, refl, rules}
use Rattle.std.proofs.lemmas.Str.{chars-nil, chars_from_encodes}
use Rattle.std.specs.Str.{chars}
use Rattle.rhai_text.proofs.Texts.{IsAscii-rest, IsCharBoundary-cut, chars-front_cut, length-le-cut}
use Rattle.rhai_text.proofs.edits.part_between.Goals as goal

-- the number of characters of a slice that doesn't end before it starts
room : (start end : ℕ) (exclusive : Bool) → start ≤ end → (if exclusive then end - start else end - start + 1) ≡ (if exclusive then end else end + 1) - start
room start end true h = refl
room start end false h = omega (arith, h)

-- it has none if it ends before it starts
no_room : (start end : ℕ) (exclusive : Bool) → end < start → (if exclusive then end else end + 1) - start ≡ 0
no_room start end true h = omega (arith, h)
no_room start end false h = omega (arith, h)

pub returns-then-end-start : goal.returns-then-end-start
returns-then-end-start c =
    let cs = chars c.args.text.now in
    chars-nil ∙ sym (ap (λ n. take n (drop c.args.start cs)) (no_room c.args.start c.args.end c.args.exclusive (search rules)))

pub overflow_sub-rest : goal.overflow_sub-rest
overflow_sub-rest c =
    length-le-cut c.skip_chars-rest.result.now c.skip_chars-rest.utf8 (if c.args.exclusive then c.args.end - c.args.start else c.args.end - c.args.start + 1)
    c.text_after-after.result.now c.text_after-after.utf8 c.text_after-after.ensures.bytes

pub split_at-requires : goal.split_at-requires
split_at-requires c =
    IsCharBoundary-cut c.skip_chars-rest.result.now c.skip_chars-rest.utf8 (if c.args.exclusive then c.args.end - c.args.start else c.args.end - c.args.start + 1)
    c.text_after-after.result.now c.text_after-after.utf8 c.text_after-after.ensures.bytes

pub returns : goal.returns
returns c =
    let cs = chars c.args.text.now in
    let rest : chars c.skip_chars-rest.result.now ≡ drop c.args.start cs =
    sym (chars_from_encodes (drop c.args.start cs) c.skip_chars-rest.result.now c.skip_chars-rest.utf8 (sym c.skip_chars-rest.ensures))
    in
    ap chars c.split_at.ensures.front
    ∙ chars-front_cut c.skip_chars-rest.result.now c.skip_chars-rest.utf8 (if c.args.exclusive then c.args.end - c.args.start else c.args.end - c.args.start + 1)
    c.text_after-after.result.now c.text_after-after.utf8 c.text_after-after.ensures.bytes
    ∙ ap (take (if c.args.exclusive then c.args.end - c.args.start else c.args.end - c.args.start + 1)) rest
    ∙ ap (λ n. take n (drop c.args.start cs)) (room c.args.start c.args.end c.args.exclusive (search rules))

pub text_after-after-requires : goal.text_after-after-requires
text_after-after-requires c h = IsAscii-rest c.args.text.now c.args.start (c.requires h) c.skip_chars-rest.result.now c.skip_chars-rest.ensures
