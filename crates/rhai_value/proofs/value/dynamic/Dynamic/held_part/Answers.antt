use Rattle.std.proofs.Common.{sym, ◌∙◌}
use Rattle.rhai_value.proofs.InStores.{own_part, first_part_held, part_first_held, part_own_held, part_unheld}
use Rattle.rhai_value.proofs.value.dynamic.Dynamic.held_part.Goals as goal

pub returns-in-Some : goal.returns-in-Some
returns-in-Some g c = sym (own_part g.T.Part.content g.T.Part.part_of g.T.Part.KIND g.met.T.Part.constructs g.met.T.Part.reads c.args.store.now c.args.self.now _ (sym c.in-Some.ensures))

pub returns-in-Here : goal.returns-in-Here
returns-in-Here g c = c.in_default.ensures ∙ part_own_held g.T.Part.part_of c.args.store.now c.args.self.now c.in-Here.ensures.site

pub returns-in-Some-own : goal.returns-in-Some-own
returns-in-Some-own g c = first_part_held g.T.Part.content g.T.Part.part_of g.T.Part.KIND g.met.T.Part.constructs g.met.T.Part.reads c.args.store.now c.args.self.now _ _ c.in-InCell.ensures.content (sym c.in-Some-own.ensures)

pub returns-in-None-cell : goal.returns-in-None-cell
returns-in-None-cell g c = c.in-None.ensures ∙ part_first_held g.T.Part.part_of c.args.store.now c.args.self.now _ c.in-InCell.ensures.content c.in-None-cell.ensures

pub returns-in-Barred : goal.returns-in-Barred
returns-in-Barred g c = part_unheld g.T.Part.part_of c.args.store.now c.args.self.now c.in-Barred.ensures.content
