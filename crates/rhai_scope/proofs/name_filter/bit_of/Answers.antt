use Rattle.std.proofs.Common.{◌*◌, ◌/◌, ◌%◌, ap, ◌∙◌}
use Rattle.rhai_scope.specs.NameFilter.{ends_of, bit_of}
use Rattle.rhai_scope.proofs.name_filter.bit_of.Goals as goal

pub returns-clause-is : goal.returns-clause-is
unfolding bit_of
returns-clause-is c = ap (λ n. n * 2654435769 % 4294967296 / 4194304) (c.ends_of.ensures ∙ ap ends_of c.as_bytes.ensures.value)
