use Rattle.std.proofs.Common.{◌/◌, ◌%◌, nat_eq, ap, ◌∙◌, get_or}
use Rattle.std.proofs.lemmas.Nat.Bits.{shr_and_one}
use Rattle.rhai_scope.specs.NameFilter.{passes}
use Rattle.rhai_scope.proofs.FilterBits.{is_in}
use Rattle.rhai_scope.proofs.name_filter.NameFilter.passes.Goals as goal

pub returns : goal.returns
unfolding passes
returns c =
    let ws = c.args.self.now.words in
    let m = c.bit_of-bit.result in
    ap (λ n. nat_eq n 1) (shr_and_one (get_or ws (m / 64) 0) (m % 64)) ∙ ap (is_in ws) c.bit_of-bit.ensures.is
