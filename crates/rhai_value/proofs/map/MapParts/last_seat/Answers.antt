use Rattle.std.proofs.Common.{◌≡◌, length, ap, ◌∙◌, sym, arith}
use Rattle.rhai_value.specs.Seats.{list_at}
use Rattle.rhai_value.proofs.Seats.{last_empty, last_seated}
use Rattle.rhai_value.proofs.map.MapParts.last_seat.Goals as goal

pub returns-then-len-eq0 : goal.returns-then-len-eq0
returns-then-len-eq0 c =
    let is : length c.args.self.now.rest.items ≡ c.len-list.result = omega (arith, c.len-list.ensures, c.args.self.now.rest.ok.0) in
    last_empty c.args.self.now c.requires.fronted (ap (λ n. length (list_at c.args.self.now n)) is ∙ sym c.list_len-len.ensures ∙ c.if-len-eq0.true)

pub returns : goal.returns
returns c =
    last_seated c.args.self.now c.len-list.result _ (omega (arith, c.len-list.ensures, c.args.self.now.rest.ok.0)) (omega (arith, c.list_len-len.ensures, c.if-len-eq0.false))
