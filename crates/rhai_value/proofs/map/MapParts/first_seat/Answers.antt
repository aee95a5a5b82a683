use Rattle.std.proofs.Common.{◌≡◌, ◌<◌, vec_len, sym, ◌∙◌, arith}
use Rattle.std.proofs.lemmas.Bool.{eqb-true}
use Rattle.rhai_value.proofs.Seats.{chunk_seated}
use Rattle.rhai_value.proofs.map.MapParts.first_seat.Goals as goal

pub returns : goal.returns
returns c =
    let p = c.args.self.now in
    let none : vec_len p.first ≡ 0 = eqb-true (vec_len p.first) 0 (sym c.is_empty.ensures ∙ c.if-not-is_empty.false) in
    let some : 0 < vec_len p.rest = grind (arith, c.is_empty-2.ensures, c.if-is_empty.false) in
    chunk_seated p c.requires.fronted (omega (arith, none, p.first.ok.0)) (omega (arith, some, p.rest.ok.0))
