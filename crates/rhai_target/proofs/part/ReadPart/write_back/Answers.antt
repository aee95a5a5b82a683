use Rattle.std.proofs.Common.{[], sym, ◌∙◌, ap, rules, w64, FitsSigned}
use Rattle.std.proofs.lemmas.Int.{to_z-of_z}
use Rattle.std.proofs.lemmas.Result.{on_ok_weaker}
use Rattle.rhai_value.specs.End.{end}
use Rattle.rhai_target.specs.Change.{value_changed, store_changed}
use Rattle.rhai_target.specs.Part.{change_at}
use Rattle.rhai_target.proofs.part.ReadPart.write_back.Goals as goal

pub returns-in-BitField-clause-own : goal.returns-in-BitField-clause-own
returns-in-BitField-clause-own c =
    let a = c.args in
    let fits : FitsSigned w64 c.in-BitField.mask = search rules in
    let own = simp to_z-of_z at c.write_field.ensures.own in
    on_ok_weaker c.write_field.result
    (λ e. e ∙ ap (λ p. value_changed (change_at a.store.now a.source.now p a.self.value) (end a.store.now [] a.source.now) a.source.now) (sym c.in-BitField.is)) own

pub returns-in-BitField-clause-store : goal.returns-in-BitField-clause-store
returns-in-BitField-clause-store c =
    let a = c.args in
    let fits : FitsSigned w64 c.in-BitField.mask = search rules in
    let store = simp to_z-of_z at c.write_field.ensures.store in
    on_ok_weaker c.write_field.result
    (λ e. e ∙ ap (λ p. store_changed (change_at a.store.now a.source.now p a.self.value) (end a.store.now [] a.source.now) a.store.now) (sym c.in-BitField.is)) store
