use Rattle.std.proofs.Common.{ap, sym, ◌∙◌}
use Rattle.rhai_value.specs.End.{site_cell}
use Rattle.rhai_value.proofs.LentPart.{own_place}
use Rattle.rhai_value.proofs.parts.lent.place_of.Goals as goal

pub returns-then-is_own-clause-place : goal.returns-then-is_own-clause-place
returns-then-is_own-clause-place g c = c.of.ensures ∙ ap site_cell (own_place g.T.Part.content g.T.Part.part_of g.T.Part.KIND g.met.T.Part.constructs g.met.T.Part.reads c.args.store.now c.args.value.now (sym c.requires ∙ c.if-is_own.true)).0

pub returns-then-is_own-clause-kind : goal.returns-then-is_own-clause-kind
returns-then-is_own-clause-kind g c = c.KIND.ensures ∙ (own_place g.T.Part.content g.T.Part.part_of g.T.Part.KIND g.met.T.Part.constructs g.met.T.Part.reads c.args.store.now c.args.value.now (sym c.requires ∙ c.if-is_own.true)).1
