use Rattle.std.proofs.Common.{◌<◌, length, rules, subst}
use Rattle.std.proofs.lemmas.Result.{IfOk-weaker}
use Rattle.rhai_packs.specs.Splits.{AreCutOff, AreTextsOf}
use Rattle.rhai_packs.proofs.Splits.{parts_between}
use Rattle.rhai_packs.proofs.texts.cuts.split_from.Goals as goal

pub returns : goal.returns
returns c =
    let some : 0 < length c.args.separator.now = search rules in
    let bytes = c.as_str.ensures.bytes in
    IfOk-weaker c.split_at_each.result _ _ (λ parts all. parts_between _ _ _ _ parts.items some (subst (λ t. AreTextsOf (AreCutOff c.args.side c.args.separator.now c.args.most t) parts.items) bytes all)) c.split_at_each.ensures
