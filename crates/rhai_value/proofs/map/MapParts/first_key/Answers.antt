use Rattle.std.proofs.Common.{◌∷◌, ◌++◌, ap, sym, ◌∙◌}
use Rattle.rhai_value.specs.Seats.{row_at, rows_past}
use Rattle.rhai_value.proofs.Seats.{rows_seated}
use Rattle.rhai_value.proofs.map.MapParts.first_key.Goals as goal

pub returns-in-Some : goal.returns-in-Some
returns-in-Some c =
    let p = c.args.self.now in
    let s = c.in-Some.seat in
    let h = c.in-Some.ensures in (
      (row_at p s).1,
      (rows_past p s, rows_seated p s h.0 ∙ ap (λ l. l ++ row_at p s ∷ rows_past p s) h.1 ∙ ap (λ k. (k, (row_at p s).1) ∷ rows_past p s) (sym c.key_at.ensures)),
    )
