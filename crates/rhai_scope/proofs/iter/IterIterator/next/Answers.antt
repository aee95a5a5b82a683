use Rattle.std.proofs.Common.{map, ap}
use Rattle.rhai_scope.specs.Entry.{Entry}
use Rattle.rhai_scope.specs.Items.{shown_flat}
use Rattle.rhai_scope.proofs.iter.IterIterator.next.Goals as goal

pub returns-in-Some-clause-steps : goal.returns-in-Some-clause-steps
returns-in-Some-clause-steps c =
    let shown = λ (e : Entry). shown_flat c.args.self.now.store.now e in
    (shown (record { name = c.in-Some.name.now; value = c.in-Some.value.now; aliases = c.in-Some.field-0-2.now }), ap (map shown) c.in-Some.ensures, c.flat_item.ensures.item, c.flat_item.ensures.free)
