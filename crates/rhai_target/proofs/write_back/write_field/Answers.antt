use Rattle.std.proofs.Common.{[], option_map, ap, sym, ◌∙◌, rules, w64, FitsSigned}
use Rattle.std.proofs.lemmas.Int.{to_z-of_z}
use Rattle.rhai_value.specs.End.{end}
use Rattle.rhai_bits.specs.Bits.{with_field}
use Rattle.rhai_target.specs.Change.{on_int, value_changed, store_changed}
use Rattle.rhai_target.proofs.write_back.write_field.Goals as goal

pub returns-clause-own : goal.returns-clause-own
returns-clause-own c =
    let a = c.args in
    let fits_mask : FitsSigned w64 a.mask = search rules in
    let fits_bits : FitsSigned w64 c.in-Ok.bits = search rules in
    let own = simp to_z-of_z at c.put_field.ensures.own in
    own ∙ ap (λ o. value_changed (option_map (λ n. on_int (with_field a.mask a.shift n)) o) (end a.store.now [] a.source.now) a.source.now) (sym c.in-Ok.ensures.ok)

pub returns-clause-store : goal.returns-clause-store
returns-clause-store c =
    let a = c.args in
    let fits_mask : FitsSigned w64 a.mask = search rules in
    let fits_bits : FitsSigned w64 c.in-Ok.bits = search rules in
    let store = simp to_z-of_z at c.put_field.ensures.store in
    store ∙ ap (λ o. store_changed (option_map (λ n. on_int (with_field a.mask a.shift n)) o) (end a.store.now [] a.source.now) a.store.now) (sym c.in-Ok.ensures.ok)
