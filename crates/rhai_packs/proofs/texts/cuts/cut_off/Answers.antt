use Rattle.std.proofs.Common.{◌≡◌, false, rules, sym, subst}
use Rattle.rhai_packs.specs.Splits.{IsCutOff, is_spent}
use Rattle.rhai_packs.proofs.texts.cuts.cut_off.Goals as goal

pub returns-in_ok-part-in-Front-clause-cut : goal.returns-in_ok-part-in-Front-clause-cut
returns-in_ok-part-in-Front-clause-cut c =
    let left : is_spent c.args.most ≡ false = search rules in
    (left, subst (λ s. IsCutOff s c.args.separator.now c.args.text.now c.in_ok-part-in-Front.part.now c.in_ok-part-in-Front.rest.now) (sym c.in-Front.is) c.in_ok-part-in-Front.ensures.cases)

pub returns-in_ok-rest-in-Back-clause-cut : goal.returns-in_ok-rest-in-Back-clause-cut
returns-in_ok-rest-in-Back-clause-cut c =
    let left : is_spent c.args.most ≡ false = search rules in
    (left, subst (λ s. IsCutOff s c.args.separator.now c.args.text.now c.in_ok-rest-in-Back.part.now c.in_ok-rest-in-Back.rest.now) (sym c.in-Back.is) c.in_ok-rest-in-Back.ensures.cases)
