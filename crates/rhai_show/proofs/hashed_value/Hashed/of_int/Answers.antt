use Rattle.std.proofs.Common.{rules, ◌∙◌}
use Rattle.rhai_show.proofs.Fronts.{int_behind}
use Rattle.rhai_show.proofs.hashed_value.Hashed.of_int.Goals as goal

pub invariant_of-result : goal.invariant_of-result
invariant_of-result c = (c.args.value.now, c.front.ensures ∙ int_behind 4 _ c.args.value.now (search rules) c.cast_unsigned.ensures)

pub returns-clause-bytes : goal.returns-clause-bytes
returns-clause-bytes c = c.front.ensures ∙ int_behind 4 _ c.args.value.now (search rules) c.cast_unsigned.ensures
