use Rattle.std.proofs.Common.{take, subst}
use Rattle.rhai_scope.specs.Index.{IsIndexOf, names_of}
use Rattle.rhai_scope.proofs.EntryNames.{indexed_same}
use Rattle.rhai_scope.proofs.scope.Scope.rewind.Goals as goal

pub invariant_of-self : goal.invariant_of-self
invariant_of-self c =
    let x = c.rewind.new.self in
    let es = c.self.inside.records.items in
    indexed_same x (take c.args.size es) c.truncate.new.self.items c.truncate.ensures.items (subst (λ gs. IsIndexOf x (names_of (take c.args.size gs))) c.deref.ensures.value c.rewind.ensures)
