use Rattle.rhai_run.proofs.NormalForms.{again_normal}
use Rattle.rhai_run.proofs.laws.normal_forms_are_normal.Goals as goal

pub returns : goal.returns
returns c = again_normal
