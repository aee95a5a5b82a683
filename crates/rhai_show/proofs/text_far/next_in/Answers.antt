use Rattle.std.proofs.Common.{◌≡◌, ◌∷◌, Some, codes, string_bytes, refl, ap, ◌∙◌, false}
use Rattle.std.specs.Str.{chars}
use Rattle.rhai_show.specs.Frames.{keyed_printed}
use Rattle.rhai_show.specs.Listed.{listed}
use Rattle.rhai_show.specs.Rests.{child_of, rest_of}
use Rattle.rhai_show.proofs.Commas.{listed_step}
use Rattle.rhai_show.proofs.Frames.{one_taken}
use Rattle.rhai_show.proofs.Pushed.{added_more, added_fixed}
use Rattle.rhai_show.proofs.text_far.next_in.Goals as goal

pub returns-in_ok-add_text-in-Entry-clause-text : goal.returns-in_ok-add_text-in-Entry-clause-text
returns-in_ok-add_text-in-Entry-clause-text c = λ f.
    let frame = c.args.frame.now in
    let g = keyed_printed frame.form f in
    let next : rest_of frame.rest ≡ (Some c.in-Entry.key.now, c.in-Entry.value.now) ∷ rest_of c.next.new.self = c.in-Some.ensures.next ∙ ap (λ x. child_of x ∷ rest_of c.next.new.self) c.in-Entry.is in
    let more = chars (string_bytes c.add_comma.new.out) in
    let later = chars (string_bytes c.add_text.new.out) in
    let colon = added_fixed later (chars (string_bytes c.add_name.new.out)) (codes ": ") refl c.in_ok-add_text-in-Entry.ensures in
    let row = added_more _ later more _ (f c.in-Entry.value.now frame.form) (added_more later _ more _ _ c.in_ok-add_name-in-Entry.ensures colon) refl in
    one_taken later (f c.in-Entry.value.now frame.form) (listed g false (rest_of c.next.new.self)) (chars (string_bytes c.args.out.now)) (listed g frame.is_first (rest_of frame.rest)) (chars frame.ending.now)
    (listed_step g frame.is_first (Some c.in-Entry.key.now, c.in-Entry.value.now) (rest_of c.next.new.self) (rest_of frame.rest) (chars (string_bytes c.args.out.now)) more _ next c.in_ok-add_comma-in-Some.ensures row)
