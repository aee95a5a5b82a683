use Rattle.rhai_scope.proofs.Placed.{gap_left, gap_gone}
use Rattle.rhai_scope.proofs.name_index.NameIndex.remove.Goals as goal

pub returns : goal.returns
returns c = λ ms ns is stood.
    gap_gone c.unlist.new.self c.lower.new.self c.args.place ms ns is (gap_left c.args.name.now c.utf8.name c.args.self.now c.unlist.new.self c.args.place ms ns is stood c.unlist.ensures.lists c.unlist.ensures.filter) c.lower.ensures.lists c.lower.ensures.filter
