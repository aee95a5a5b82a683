use denote.Enum.Bare.{true_same}
use Rattle.rhai_value.specs.contracts.value.type_id.TypeId as type_id
use Rattle.rhai_value.specs.Kinds.{one_type}
use Rattle.rhai_value.proofs.laws.types_compare_as_equal.Goals as goal

pub returns : goal.returns
returns c = λ a b. (one_type a b, true_same type_id.the_type a b)
