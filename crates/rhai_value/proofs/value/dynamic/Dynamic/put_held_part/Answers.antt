use Rattle.std.proofs.Common.{rules, sym}
use Rattle.rhai_value.proofs.InStores.{unheld}
use Rattle.rhai_value.proofs.value.dynamic.Dynamic.put_held_part.Goals as goal

pub returns-in-None-clause-own : goal.returns-in-None-clause-own
returns-in-None-clause-own g c =
    let same = (unheld g.T.Part.part_of (g.T.Part.content (g.T.Part.meaning c.args.part)) c.args.store.now c.args.self.now (sym c.in-None.ensures.value)).0 in
    search (rules, same)

pub returns-in-None-clause-store : goal.returns-in-None-clause-store
returns-in-None-clause-store g c =
    let same = (unheld g.T.Part.part_of (g.T.Part.content (g.T.Part.meaning c.args.part)) c.args.store.now c.args.self.now (sym c.in-None.ensures.value)).1 in
    search (rules, same)
