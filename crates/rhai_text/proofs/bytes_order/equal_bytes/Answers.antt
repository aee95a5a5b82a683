use Rattle.std.proofs.Common.{arith}
use Rattle.rhai_text.proofs.Differs.{equal_by_first, equal_front}
use Rattle.rhai_text.proofs.bytes_order.equal_bytes.Goals as goal

pub returns-then-len : goal.returns-then-len
returns-then-len c =
    let past = c.marks.ensures.none c.if-marks-ne0.false in
    equal_front c.args.a.now c.args.b.now c.requires.1 _ 64 c.marks-then-len.result c.marks-then-len.ensures (λ k l g. past k l (omega arith)) (omega arith) (omega arith)

pub returns : goal.returns
returns c = equal_by_first c.args.a.now c.args.b.now c.requires.1 c.first_apart.result c.first_apart.ensures
