use Rattle.std.proofs.Common.{Some, ap, sym, subst, ◌∙◌}
use Rattle.rhai_value.specs.Seats.{IsFound, IsMissing}
use Rattle.rhai_value.proofs.Seats.{found_value, missing_value}
use Rattle.rhai_value.proofs.map.MapParts.get.Goals as goal

pub returns-in-Ok : goal.returns-in-Ok
returns-in-Ok c = ap Some c.value_at.ensures ∙ sym (found_value c.args.key.now c.args.self.now c.in-Ok.seat (subst (λ k. IsFound k c.args.self.now c.in-Ok.seat) c.of.ensures c.in-Ok.ensures.found))

pub returns-in-Err : goal.returns-in-Err
returns-in-Err c = sym (missing_value c.args.key.now c.args.self.now c.in-Err.field-0 (subst (λ k. IsMissing k c.args.self.now c.in-Err.field-0) c.of.ensures c.in-Err.ensures.missing))
