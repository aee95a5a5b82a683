use Rattle.std.proofs.Common.{◌∙◌, arith}
use Rattle.rhai_text.proofs.Differs.{by_byte, by_lengths}
use Rattle.rhai_text.proofs.bytes_order.order_of_bytes.Goals as goal

pub returns-then-at-both : goal.returns-then-at-both
returns-then-at-both c =
    let found = c.first_apart-at.ensures in
    c.cmp.ensures ∙ by_byte c.args.a.now c.args.b.now c.first_apart-at.result (omega arith) (omega arith) found.before (found.hit c.if-at-both.true)

pub returns : goal.returns
returns c = c.cmp-2.ensures ∙ by_lengths c.args.a.now c.args.b.now (λ k l g. c.first_apart-at.ensures.before k l (omega arith))
