use Rattle.std.proofs.Common.{rules, ◌++◌, ◌∷◌, []}
use Rattle.tests_values.proofs.value.chained.push_item.Goals as goal

pub returns-in-Ok-push-clause-items : goal.returns-in-Ok-push-clause-items
returns-in-Ok-push-clause-items c =
    let xs = c.in-Ok.items.now.items in
    let had = (c.items_are_chained.ensures.items _ xs).0 c.in-Ok.ensures.ok in
    let now = c.items_are_chained.ensures.written c.args.store.now c.args.array.now xs (xs ++ c.args.item ∷ []) had in
    (xs, had, search (rules, now))
