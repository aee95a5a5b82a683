use Rattle.std.proofs.Common.{[], w64, ap, ◌∙◌}
use Rattle.std.proofs.lemmas.Int.{to_z-of_z}
use Rattle.rhai_value.specs.Parts.{with_int}
use Rattle.rhai_value.specs.End.{end, value_after, store_after}
use Rattle.rhai_value.proofs.value.dynamic.Dynamic.set_int.Goals as goal

pub returns-clause-own : goal.returns-clause-own
returns-clause-own c =
    c.put_part.ensures.own ∙ ap (λ n. value_after (with_int n) (end c.args.store.now [] c.args.self.now) c.args.self.now) (to_z-of_z w64 c.args.value c.ranges.value)

pub returns-clause-store : goal.returns-clause-store
returns-clause-store c =
    c.put_part.ensures.store ∙ ap (λ n. store_after (with_int n) (end c.args.store.now [] c.args.self.now) c.args.store.now) (to_z-of_z w64 c.args.value c.ranges.value)
