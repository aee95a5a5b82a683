use Rattle.rhai_run.proofs.NormalForms.{has_normal_form}
use Rattle.rhai_run.proofs.laws.each_world_has_a_normal_form.Goals as goal

pub returns : goal.returns
returns c = has_normal_form
