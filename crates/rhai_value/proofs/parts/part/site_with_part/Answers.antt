use Rattle.std.proofs.Common.{is_some, ap, sym, ◌∙◌}
use Rattle.rhai_value.proofs.LentPart.{own_place}
use Rattle.rhai_value.proofs.parts.part.site_with_part.Goals as goal

pub returns-in-Some-clause-site : goal.returns-in-Some-clause-site
returns-in-Some-clause-site g c =
    let P = g.T.Part in
    let laws = g.met.T.Part in
    (own_place P.content P.part_of P.KIND laws.constructs laws.reads c.args.store.now c.args.value.now (ap is_some (sym c.in-Some.ensures))).0

pub returns-in-Some-clause-kind : goal.returns-in-Some-clause-kind
returns-in-Some-clause-kind g c =
    let P = g.T.Part in
    let laws = g.met.T.Part in
    c.KIND.ensures ∙ (own_place P.content P.part_of P.KIND laws.constructs laws.reads c.args.store.now c.args.value.now (ap is_some (sym c.in-Some.ensures))).1
