use Rattle.std.proofs.Common.{◌∙◌}
use Rattle.rhai_value.proofs.InStores.{own_part, put_own_part}
use Rattle.rhai_value.proofs.value.dynamic.Dynamic.put_part.Goals as goal

pub returns-in-Ok-clause-ok : goal.returns-in-Ok-clause-ok
returns-in-Ok-clause-ok g c = own_part g.T.Part.content g.T.Part.part_of g.T.Part.KIND g.met.T.Part.constructs g.met.T.Part.reads c.args.store.now c.args.self.now _ c.in-Ok.ensures.ok.0

pub returns-in-Ok-clause-own : goal.returns-in-Ok-clause-own
returns-in-Ok-clause-own g c = c.in-Ok.ensures.ok.1 ∙ (put_own_part g.T.Part.content g.T.Part.part_of g.T.Part.KIND g.met.T.Part.constructs g.met.T.Part.reads _ c.args.store.now c.args.self.now _ c.in-Ok.ensures.ok.0).0

pub returns-in-Ok-clause-store : goal.returns-in-Ok-clause-store
returns-in-Ok-clause-store g c = (put_own_part g.T.Part.content g.T.Part.part_of g.T.Part.KIND g.met.T.Part.constructs g.met.T.Part.reads _ c.args.store.now c.args.self.now _ c.in-Ok.ensures.ok.0).1
