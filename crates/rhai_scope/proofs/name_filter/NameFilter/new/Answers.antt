use Rattle.rhai_scope.specs.NameFilter.{bit_of, passes}
use Rattle.rhai_scope.proofs.FilterBits.{none_in}
use Rattle.rhai_scope.proofs.name_filter.NameFilter.new.Goals as goal

pub returns : goal.returns
unfolding passes
returns c = λ q. none_in 16 (bit_of q)
