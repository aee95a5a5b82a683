use Rattle.std.proofs.Common.{◌-◌, ◌∙◌, rules, arith, w64, FitsSigned}
use Rattle.std.proofs.Math.Facts.{to_z-of_z}
use Rattle.rhai_packs.proofs.Masks.{mask_is, mask_none}
use Rattle.rhai_packs.proofs.bits.mask.Goals as goal

pub returns-then-count-eq0 : goal.returns-then-count-eq0
returns-then-count-eq0 c = mask_none c.args.place c.args.count c.if-count-eq0.true

pub returns : goal.returns
returns c =
    let fits : FitsSigned w64 c.cast_signed.result = search rules in
    to_z-of_z fits ∙ c.cast_signed.ensures ∙ mask_is c.args.place c.args.count (64 - c.args.count) (omega (arith, c.requires))
