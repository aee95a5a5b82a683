use Rattle.std.proofs.Common.{◌++◌, ◌∷◌, Some, ap, ap₂, sym, subst, ◌∙◌}
use Rattle.std.proofs.lemmas.Str.{IsUtf8-string_bytes}
use Rattle.std.proofs.Common.{string_bytes}
use Rattle.rhai_value.specs.Rows.{AreRising}
use Rattle.rhai_value.specs.Seats.{rows_before, rows_from, IsFound, IsMissing}
use Rattle.rhai_value.proofs.SeatResults.{found_written, missing_put, missing_rising}
use Rattle.rhai_value.proofs.Seats.{found_value, missing_value}
use Rattle.rhai_value.proofs.map.MapParts.insert.Goals as goal

pub returns-in-Ok-clause-old : goal.returns-in-Ok-clause-old
returns-in-Ok-clause-old c =
    let found = subst (λ k. IsFound k c.args.self.now c.in-Ok.seat) (c.of.ensures ∙ c.as_str.ensures.value) c.in-Ok.ensures.found in
    ap Some c.replace_at.ensures.value ∙ sym (found_value (string_bytes c.args.key) c.args.self.now c.in-Ok.seat found)

pub returns-in-Ok-clause-inserted : goal.returns-in-Ok-clause-inserted
returns-in-Ok-clause-inserted c =
    let found = subst (λ k. IsFound k c.args.self.now c.in-Ok.seat) (c.of.ensures ∙ c.as_str.ensures.value) c.in-Ok.ensures.found in
    let done = c.replace_at.ensures in
    found_written (string_bytes c.args.key) c.args.self.now c.replace_at.new.self c.in-Ok.seat found c.args.value done.before done.row done.past done.seated

pub put-requires : goal.put-requires
put-requires c =
    let missing = subst (λ k. IsMissing k c.args.self.now c.in-Err.gap) (c.of.ensures ∙ c.as_str.ensures.value) c.in-Err.ensures.missing in
    let room = c.in-Some.ensures.room in
    let rising = missing_rising (string_bytes c.args.key) c.args.self.now c.in-Err.gap missing c.args.value c.requires.rising in
    record {
      whole = c.in-Some.ensures.whole;
      «open» = room.0;
      room = room.1;
      between = subst AreRising (ap₂ (λ xs ys. xs ++ (c.from_string.result, c.args.value) ∷ ys) (sym room.2) (sym room.3)) (subst (λ k. AreRising (rows_before c.args.self.now c.in-Err.gap ++ (k, c.args.value) ∷ rows_from c.args.self.now c.in-Err.gap)) (sym (c.from_string.ensures)) rising);
      counted = c.in-Some.ensures.counted;
      text = subst Rattle.std.specs.Str.IsUtf8 (sym (c.from_string.ensures)) (IsUtf8-string_bytes c.args.key);
    }

pub returns-in-Some-clause-old : goal.returns-in-Some-clause-old
returns-in-Some-clause-old c =
    let missing = subst (λ k. IsMissing k c.args.self.now c.in-Err.gap) (c.of.ensures ∙ c.as_str.ensures.value) c.in-Err.ensures.missing in
    sym (missing_value (string_bytes c.args.key) c.args.self.now c.in-Err.gap missing)

pub returns-in-Some-clause-inserted : goal.returns-in-Some-clause-inserted
returns-in-Some-clause-inserted c =
    let missing = subst (λ k. IsMissing k c.args.self.now c.in-Err.gap) (c.of.ensures ∙ c.as_str.ensures.value) c.in-Err.ensures.missing in
    let room = c.in-Some.ensures.room in
    c.put.ensures.rows ∙ ap₂ (λ xs ys. xs ++ (c.from_string.result, c.args.value) ∷ ys) room.2 room.3 ∙ ap (λ k. rows_before c.args.self.now c.in-Err.gap ++ (k, c.args.value) ∷ rows_from c.args.self.now c.in-Err.gap) (c.from_string.ensures)
    ∙ missing_put (string_bytes c.args.key) c.args.self.now c.in-Err.gap missing c.args.value

pub returns-in-None-clause-absent : goal.returns-in-None-clause-absent
returns-in-None-clause-absent c =
    let missing = subst (λ k. IsMissing k c.args.self.now c.in-Err.gap) (c.of.ensures ∙ c.as_str.ensures.value) c.in-Err.ensures.missing in
    missing_value (string_bytes c.args.key) c.args.self.now c.in-Err.gap missing
