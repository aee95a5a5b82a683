use Rattle.rhai_target.proofs.ReadBack.{same_field_keeps}
use Rattle.rhai_target.proofs.laws.fields_read_as_written.Goals as goal

pub returns-clause-unchanged : goal.returns-clause-unchanged
returns-clause-unchanged c = same_field_keeps
