use Rattle.std.proofs.Common.{◌≡◌, ◌+◌, ◌-◌, ◌<◌, ◌++◌, ◌∷◌, [], true, false, take, length, slice_index_or, slice_set, rules, arith, sym, ap, ◌∙◌, length-append}
use Rattle.std.proofs.lemmas.Bool.{lt-ltb, le-ltb}
use Rattle.std.proofs.lemmas.List.{append-nil, take_more}
use Rattle.rhai_packs.specs.Written.{ascii_of, overwritten}
use Rattle.rhai_packs.proofs.Overwriting.{ascii_cut, ascii_more, overwritten_more}
use Rattle.rhai_packs.proofs.blobs.written.put_ascii.Goals as goal
use Rattle.rhai_packs.proofs.blobs.written.put_ascii.Goals.{then-byte-lt128, else-byte-lt128}

pub loop-byte-preserved : goal.loop-byte-preserved
loop-byte-preserved c =
    let i = c.loop-byte.byte-index in
    let xs = c.args.bytes.now.items in
    let text = c.as_bytes-byte-items.result.now in
    let b = slice_index_or text i 0 in
    let done = c.loop-byte.invariant in
    let before = ascii_of (take i text) in
    let next = take_more text i 0 c.loop-byte-test.true in
    let room : c.loop-byte.place < c.args.end = search rules in
    elim c.if-byte-lt128.branch [
      | then-byte-lt128 w ↦
          let more : ascii_of (take (i + 1) text) ≡ before ++ b ∷ [] = ascii_more text i b true (lt-ltb b 128 w.if-byte-lt128.true) next in
          record {
            within = omega (arith, w.place-is, room);
            placed = omega (arith, w.place-is, done.placed, ap length more, length-append before (b ∷ []));
            same = ap (λ v. v.items) w.bytes-is ∙ ap (λ ys. slice_set ys c.loop-byte.place b) done.same
                ∙ ap (λ n. slice_set (overwritten xs c.args.start before) n b) done.placed
                ∙ overwritten_more xs before c.args.start b (omega (arith, done.placed, room, c.requires.bound))
                ∙ ap (overwritten xs c.args.start) (sym more);
          }
      | else-byte-lt128 w ↦
          let more : ascii_of (take (i + 1) text) ≡ before = ascii_more text i b false (le-ltb b 128 w.if-byte-lt128.false) next ∙ append-nil before in
          record {
            within = omega (arith, w.place-is, room);
            placed = w.place-is ∙ done.placed ∙ ap (λ ys. c.args.start + length ys) (sym more);
            same = ap (λ v. v.items) w.bytes-is ∙ done.same ∙ ap (overwritten xs c.args.start) (sym more);
          }
    ]

pub returns-then-place-end : goal.returns-then-place-end
returns-then-place-end c =
    let i = c.loop-byte.byte-index in
    let text = c.as_bytes-byte-items.result.now in
    let n = c.args.end - c.args.start in
    let full : length (ascii_of (take i text)) ≡ n = omega (arith, c.loop-byte.invariant.placed, c.if-place-end.true) in
    c.loop-byte.invariant.same
    ∙ ap (overwritten c.args.bytes.now.items c.args.start) (sym (ascii_cut text i n full) ∙ ap (λ t. take n (ascii_of t)) c.as_bytes-byte-items.ensures.value)
