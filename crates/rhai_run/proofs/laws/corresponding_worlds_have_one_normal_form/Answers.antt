use Rattle.rhai_run.proofs.NormalForms.{one_normal_form}
use Rattle.rhai_run.proofs.laws.corresponding_worlds_have_one_normal_form.Goals as goal

pub returns : goal.returns
returns c = one_normal_form
