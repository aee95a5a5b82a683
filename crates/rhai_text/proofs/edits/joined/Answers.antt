use Rattle.std.proofs.Common.{◌≡◌, IfOk, subst}
use Rattle.rhai_text.proofs.Texts.{chars-three}
use Rattle.rhai_text.proofs.edits.joined.Goals as goal

pub returns : goal.returns
returns c =
    subst (λ cs. IfOk c.of_three.result (λ t. t ≡ cs))
    (chars-three c.args.front.now c.args.middle.now c.args.back.now c.utf8.front c.utf8.middle)
    c.of_three.ensures
