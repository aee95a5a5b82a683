use Rattle.std.proofs.Common.{◌%◌, ◌^◌, not, ◌==◌, sym, subst, w8}
use Rattle.std.proofs.lemmas.Simd.{tops_compared}
use Rattle.std.specs.Slice.Scan.{differ, Marks}
use Rattle.rhai_text.proofs.Marked.{Marks-bytes}
use lib.Lanes.{chunk, mask_l}
use Rattle.rhai_text.proofs.bytes_order.marks.Goals as goal

pub returns : goal.returns
returns g c =
    let a = c.args.a.now in
    let b = c.args.b.now in
    let n = g.row.N in
    subst (λ bs. Marks (differ a b) c.args.at n (mask_l bs % 2 ^ 64)) (sym (tops_compared w8 (λ x y. not (x == y)) (chunk c.args.at n a) (chunk c.args.at n b)))
    (Marks-bytes a b c.args.at n c.requires.1 c.requires.2 c.requires.3)
