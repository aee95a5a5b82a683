use Rattle.std.proofs.Common.{◌∙◌}
use Rattle.rhai_scope.proofs.Indexed.{found_listed}
use Rattle.rhai_scope.proofs.index.Index.search_by.Goals as goal

pub returns-in-None : goal.returns-in-None
returns-in-None c = c.last.ensures ∙ found_listed c.args.self.now c.args.entries.now c.args.name.now c.requires.index c.utf8.name c.in-None.ensures
