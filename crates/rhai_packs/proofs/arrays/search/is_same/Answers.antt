use Rattle.rhai_packs.proofs.Sames.{bytes_tell, nothing_plain, nothing_told, told}
use Rattle.rhai_packs.proofs.arrays.search.is_same.Goals as goal

pub returns-in-Some : goal.returns-in-Some
returns-in-Some c y h =
    let s = c.args.store.now in
    let x = c.args.value.now in
    let own = told s x c.in_ok-own.field-0 c.in-Some.own c.in-Some.is c.in_ok-own.ensures.told in
    bytes_tell s x y c.in-Some.own c.args.bytes.now c.eq.result c.eq.ensures (c.hash_bytes_tell_values_apart.ensures s s x y c.in-Some.own c.args.bytes.now own h) h

pub returns-in-None : goal.returns-in-None
returns-in-None c y h = nothing_told c.args.store.now c.args.value.now y (nothing_plain c.args.store.now c.args.value.now c.in_ok-own.field-0 c.in_ok-own.ensures.bytes c.in-None.is)
