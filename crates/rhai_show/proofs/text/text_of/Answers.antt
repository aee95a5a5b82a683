use Rattle.std.proofs.Common.{◌++◌, [], ap, ap₂, ◌∙◌}
use Rattle.std.specs.Str.{chars}
use Rattle.std.proofs.lemmas.Str.{chars-nil}
use Rattle.rhai_show.specs.Text.{printed}
use Rattle.rhai_show.proofs.text.text_of.Goals as goal

pub returns : goal.returns
returns c =
    c.in_ok-add_value.ensures.text
    ∙ ap₂ (λ bs p. chars bs ++ printed c.args.store.now p c.args.value.now c.args.form) c.new-out.ensures.bytes c.new-path.ensures
    ∙ ap (λ x. x ++ printed c.args.store.now [] c.args.value.now c.args.form) chars-nil
