use Rattle.std.proofs.Common.{◌≡◌, ◌++◌, IfOk, ap, subst, ◌∙◌, arith}
use Rattle.std.proofs.lemmas.Grind.{common_steps}
use Rattle.std.specs.List.{repeat}
use Rattle.std.specs.Str.{chars}
use Rattle.rhai_packs.proofs.Padding.{chars-repeat}
use Rattle.rhai_packs.proofs.texts.padding.padded.Goals as goal

pub returns : goal.returns
returns c =
    let bytes : c.as_str.result.now ≡ repeat c.args.whole c.args.padding.now ++ c.args.part.now = grind (arith, common_steps) in
    subst (λ cs. IfOk c.concat.result (λ t. t ≡ c.args.text.now ++ cs))
    (ap chars bytes ∙ chars-repeat c.args.whole c.args.padding.now c.args.part.now c.utf8.padding)
    c.concat.ensures
