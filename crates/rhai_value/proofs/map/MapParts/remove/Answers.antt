use Rattle.std.proofs.Common.{Some, ap, sym, subst, ◌∙◌}
use Rattle.rhai_value.specs.Seats.{IsFound, IsMissing}
use Rattle.rhai_value.proofs.SeatResults.{found_removed, missing_removed}
use Rattle.rhai_value.proofs.Seats.{found_value, missing_value}
use Rattle.rhai_value.proofs.map.MapParts.remove.Goals as goal

pub returns-in-Ok-clause-value : goal.returns-in-Ok-clause-value
returns-in-Ok-clause-value c =
    let found = subst (λ k. IsFound k c.args.self.now c.in-Ok.seat) c.of.ensures c.in-Ok.ensures.found in
    ap (λ r. Some r.1) c.take-key.ensures.entry ∙ sym (found_value c.args.key.now c.args.self.now c.in-Ok.seat found)

pub returns-in-Ok-clause-removed : goal.returns-in-Ok-clause-removed
returns-in-Ok-clause-removed c =
    let found = subst (λ k. IsFound k c.args.self.now c.in-Ok.seat) c.of.ensures c.in-Ok.ensures.found in
    found_removed c.args.key.now c.args.self.now c.take-key.new.self c.in-Ok.seat found c.take-key.ensures.rows

pub returns-in-Err-clause-value : goal.returns-in-Err-clause-value
returns-in-Err-clause-value c =
    let missing = subst (λ k. IsMissing k c.args.self.now c.in-Err.field-0) c.of.ensures c.in-Err.ensures.missing in
    sym (missing_value c.args.key.now c.args.self.now c.in-Err.field-0 missing)

pub returns-in-Err-clause-removed : goal.returns-in-Err-clause-removed
returns-in-Err-clause-removed c =
    let missing = subst (λ k. IsMissing k c.args.self.now c.in-Err.field-0) c.of.ensures c.in-Err.ensures.missing in
    sym (missing_removed c.args.key.now c.args.self.now c.in-Err.field-0 missing)
