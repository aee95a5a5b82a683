use Rattle.std.proofs.Common.{sym, ap, ◌∙◌, arith}
use Rattle.rhai_scope.specs.NameFilter.{bit_of, passes}
use Rattle.rhai_scope.proofs.FilterBits.{is_in, with_bit, came, stays}
use Rattle.rhai_scope.proofs.name_filter.NameFilter.add.Goals as goal

pub returns-clause-added : goal.returns-clause-added
unfolding passes
returns-clause-added c =
    let ws = c.args.self.now.words in
    let m = c.bit_of-bit.result in
    ap (is_in (with_bit ws m)) (sym c.bit_of-bit.ensures.is) ∙ came ws m (omega (arith, c.bit_of-bit.ensures.within))

pub returns-clause-kept : goal.returns-clause-kept
unfolding passes
returns-clause-kept c = λ q. stays c.args.self.now.words c.bit_of-bit.result (omega (arith, c.bit_of-bit.ensures.within)) (bit_of q)
