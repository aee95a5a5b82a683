use Rattle.std.proofs.Common.{◌≡◌, Some, ap, sym, ◌∙◌}
use Rattle.rhai_value.specs.declared.cells.chain.Site.TheVariants.{InCell}
use Rattle.rhai_value.specs.End.{first_site}
use Rattle.rhai_value.specs.Store.{put}
use Rattle.rhai_value.proofs.InStores.{first_in_cell, put_near_part}
use Rattle.rhai_value.proofs.Stores.{put-same}
use Rattle.rhai_value.proofs.value.dynamic.Dynamic.put_near_part.Goals as goal

pub returns-in-Ok : goal.returns-in-Ok
returns-in-Ok g c =
    let P = g.T.Part in
    let s = c.args.store.now in
    let i = c.in-Some-InCell.index in
    let w = c.content_mut.result.now in
    let site : Some (InCell i) ≡ first_site s c.args.self.now = ap Some (sym c.in-Some-InCell.field-0-is) ∙ c.in-Some-InCell.ensures in
    let is = (first_in_cell s c.args.self.now w i site c.content_mut.ensures.value).1 in
    let r = put_near_part P.content P.part_of P.KIND g.met.T.Part.constructs g.met.T.Part.reads (P.content (P.meaning c.args.part)) s c.args.self.now w i _ site is c.in-Ok.ensures.ok.0 in
    record { ok = r.0; own = r.1; store = ap (put s i) c.in-Ok.ensures.ok.1 ∙ r.2; err = tt }

pub returns-in-Err-clause-err : goal.returns-in-Err-clause-err
returns-in-Err-clause-err g c =
    let s = c.args.store.now in
    let i = c.in-Some-InCell.index in
    let w = c.content_mut.result.now in
    let site : Some (InCell i) ≡ first_site s c.args.self.now = ap Some (sym c.in-Some-InCell.field-0-is) ∙ c.in-Some-InCell.ensures in
    let is = (first_in_cell s c.args.self.now w i site c.content_mut.ensures.value).0 in
    (c.in-Err.ensures.err.0, ap (put s i) c.in-Err.ensures.err.1 ∙ put-same s i w (sym is))
