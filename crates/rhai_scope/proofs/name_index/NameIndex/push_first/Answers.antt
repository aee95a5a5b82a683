use Rattle.std.proofs.Common.{rules, ◌≡◌, string_bytes}
use Rattle.std.proofs.lemmas.Result.{IfOk-at_ok}
use Rattle.rhai_scope.specs.NameIndex.{with_place}
use Rattle.rhai_scope.specs.declared.name_index.NameIndex.{NameIndex}
use Rattle.rhai_scope.proofs.Listed.{pushed_first}
use Rattle.rhai_scope.proofs.Filtered.{pass_more}
use Rattle.rhai_scope.proofs.name_index.NameIndex.push_first.Goals as goal

pub returns-in-Ok-clause-ok : goal.returns-in-Ok-clause-ok
returns-in-Ok-clause-ok c = λ pass.
    let old = c.args.self.now in
    let new : NameIndex = record { lists = c.insert.new.self; filter = c.add.new.self } in
    let more = pushed_first c.args.place c.args.name.now old.lists new.lists c.in_ok-key.key c.new.result
    (IfOk-at_ok (λ s. string_bytes s ≡ c.args.name.now) c.in_ok-key.was c.from_str.ensures.ok) c.new.ensures (c.requires pass) (search rules) in
    (pass_more old new pass (with_place c.args.place) c.args.name.now more c.add.ensures.added c.add.ensures.kept, more)
