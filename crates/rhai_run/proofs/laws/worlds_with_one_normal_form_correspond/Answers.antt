use Rattle.rhai_run.proofs.NormalForms.{forms_correspond}
use Rattle.rhai_run.proofs.laws.worlds_with_one_normal_form_correspond.Goals as goal

pub returns : goal.returns
returns c = forms_correspond
