use Rattle.std.proofs.Common.{◌≡◌, rules, w64, FitsSigned}
use Rattle.std.proofs.lemmas.Int.{to_z-of_z}
use Rattle.rhai_target.specs.declared.target.Target.TheVariants.{BitField}
use Rattle.rhai_target.specs.Target.{write_back_of, target_written, store_written}
use Rattle.rhai_target.proofs.Fields.{field_written}
use Rattle.rhai_target.proofs.target.Target.propagate_field.Goals as goal

field_put : (c : goal.After-put_field) → let s = c.args.store.now in let t = c.args.self.now in let b = c.in-BitField-self in
    (BitField (record (b.source) { now = c.put_field.new.source }) b.value b.mask b.shift ≡ target_written s (write_back_of s t) t) × (c.put_field.new.store ≡ store_written (write_back_of s t) s)
field_put c =
    let a = c.in-BitField in
    let b = c.in-BitField-self in
    let fits_mask : FitsSigned w64 a.mask = search rules in
    let fits_bits : FitsSigned w64 c.in-Ok.bits = search rules in
    let own = simp to_z-of_z at c.put_field.ensures.own in
    let store = simp to_z-of_z at c.put_field.ensures.store in
    field_written c.args.store.now c.put_field.new.store c.args.self.now a.source b.source a.value b.value c.put_field.new.source a.mask b.mask a.shift b.shift c.in-Ok.bits a.is b.is c.in-Ok.ensures.ok own store

pub returns-in-BitField-self-clause-own : goal.returns-in-BitField-self-clause-own
returns-in-BitField-self-clause-own c = (field_put c).0

pub returns-in-BitField-self-clause-store : goal.returns-in-BitField-self-clause-store
returns-in-BitField-self-clause-store c = (field_put c).1
