use Rattle.std.proofs.Common.{◌++◌, ◌∷◌, Some, ap, ap₂, sym, subst, ◌∙◌}
use Rattle.rhai_value.specs.Rows.{AreRising}
use Rattle.rhai_value.specs.Seats.{rows_before, rows_from, IsFound, IsMissing}
use Rattle.rhai_value.proofs.SeatResults.{found_written, missing_put, missing_rising}
use Rattle.rhai_value.proofs.Seats.{found_value, missing_value}
use Rattle.rhai_value.proofs.map.MapParts.set.Goals as goal

pub returns-in-Ok-clause-old : goal.returns-in-Ok-clause-old
returns-in-Ok-clause-old c =
    let found = subst (λ k. IsFound k c.args.self.now c.in-Ok.seat) (c.of.ensures) c.in-Ok.ensures.found in
    ap Some c.replace_at.ensures.value ∙ sym (found_value c.args.text.now c.args.self.now c.in-Ok.seat found)

pub returns-in-Ok-clause-set : goal.returns-in-Ok-clause-set
returns-in-Ok-clause-set c =
    let found = subst (λ k. IsFound k c.args.self.now c.in-Ok.seat) (c.of.ensures) c.in-Ok.ensures.found in
    let done = c.replace_at.ensures in
    found_written c.args.text.now c.args.self.now c.replace_at.new.self c.in-Ok.seat found c.args.value done.before done.row done.past done.seated

pub put-requires : goal.put-requires
put-requires c =
    let missing = subst (λ k. IsMissing k c.args.self.now c.in-Err.gap) (c.of.ensures) c.in-Err.ensures.missing in
    let room = c.in-Some.ensures.room in
    let rising = missing_rising c.args.text.now c.args.self.now c.in-Err.gap missing c.args.value c.requires.rising in
    record {
      whole = c.in-Some.ensures.whole;
      «open» = room.0;
      room = room.1;
      between = subst AreRising (ap₂ (λ xs ys. xs ++ (c.in-Ok-from_str.key, c.args.value) ∷ ys) (sym room.2) (sym room.3)) (subst (λ k. AreRising (rows_before c.args.self.now c.in-Err.gap ++ (k, c.args.value) ∷ rows_from c.args.self.now c.in-Err.gap)) (sym (c.in-Ok-from_str.ensures.value)) rising);
      counted = c.in-Some.ensures.counted;
      text = subst Rattle.std.specs.Str.IsUtf8 (sym (c.in-Ok-from_str.ensures.value)) (c.utf8.text);
    }

pub returns-in-Ok-from_str-clause-old : goal.returns-in-Ok-from_str-clause-old
returns-in-Ok-from_str-clause-old c =
    let missing = subst (λ k. IsMissing k c.args.self.now c.in-Err.gap) (c.of.ensures) c.in-Err.ensures.missing in
    sym (missing_value c.args.text.now c.args.self.now c.in-Err.gap missing)

pub returns-in-Ok-from_str-clause-set : goal.returns-in-Ok-from_str-clause-set
returns-in-Ok-from_str-clause-set c =
    let missing = subst (λ k. IsMissing k c.args.self.now c.in-Err.gap) (c.of.ensures) c.in-Err.ensures.missing in
    let room = c.in-Some.ensures.room in
    c.put.ensures.rows ∙ ap₂ (λ xs ys. xs ++ (c.in-Ok-from_str.key, c.args.value) ∷ ys) room.2 room.3 ∙ ap (λ k. rows_before c.args.self.now c.in-Err.gap ++ (k, c.args.value) ∷ rows_from c.args.self.now c.in-Err.gap) (c.in-Ok-from_str.ensures.value)
    ∙ missing_put c.args.text.now c.args.self.now c.in-Err.gap missing c.args.value

pub returns-in_default-clause-absent : goal.returns-in_default-clause-absent
returns-in_default-clause-absent c =
    let missing = subst (λ k. IsMissing k c.args.self.now c.in-Err.gap) (c.of.ensures) c.in-Err.ensures.missing in
    missing_value c.args.text.now c.args.self.now c.in-Err.gap missing

pub returns-in-Err-from_str-clause-absent : goal.returns-in-Err-from_str-clause-absent
returns-in-Err-from_str-clause-absent c =
    let missing = subst (λ k. IsMissing k c.args.self.now c.in-Err.gap) (c.of.ensures) c.in-Err.ensures.missing in
    missing_value c.args.text.now c.args.self.now c.in-Err.gap missing
