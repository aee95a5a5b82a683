use Rattle.std.proofs.Common.{ap, sym, ◌∙◌}
use Rattle.rhai_text.proofs.ForCallers.{chars-one}
use Rattle.rhai_value.specs.Tree.{char}
use Rattle.rhai_show.specs.Leaves.{leaf_printed}
use Rattle.rhai_show.proofs.Pushed.{added_as}
use Rattle.rhai_show.proofs.leaf.add_char.Goals as goal

pub returns-in-Display : goal.returns-in-Display
returns-in-Display c =
    added_as c.add_text.result _ _ _ _ (chars-one c.encode_utf8.result.now c.args.value c.encode_utf8.utf8 c.encode_utf8.ensures.value ∙ ap (λ f. leaf_printed f (char c.args.value)) (sym c.in-Display.is)) c.add_text.ensures

pub returns-in-Inner : goal.returns-in-Inner
returns-in-Inner c =
    added_as c.add_text-in-Inner.result _ _ _ _ (chars-one c.encode_utf8-in-Inner.result.now c.args.value c.encode_utf8-in-Inner.utf8 c.encode_utf8-in-Inner.ensures.value ∙ ap (λ f. leaf_printed f (char c.args.value)) (sym c.in-Inner.is))
    c.add_text-in-Inner.ensures
