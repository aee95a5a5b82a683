use Rattle.std.proofs.Common.{◌≡◌, ap, arith, ◌∙◌}
use Rattle.rhai_value.specs.Coats.{taken_seat, IsTaken}
use Rattle.rhai_value.specs.Lists.{IsWhole}
use Rattle.rhai_value.specs.Rows.{fields_of}
use Rattle.rhai_value.specs.Seats.{row_at, rows_before, rows_past}
use Rattle.rhai_value.specs.Tree.{fields, node, nodes_fields}
use Rattle.rhai_value.proofs.Coatings.{coat_added, left_added, open_added}
use Rattle.rhai_value.proofs.walk.paint_far.PaintingSearch.add.Goals as goal

pub returns-in-Fields : goal.returns-in-Fields
returns-in-Fields c =
    let m = c.args.self.now.mode in
    let p = c.in-Fields.fields.parts.value in
    let q = c.replace_at.new.self in
    let t = c.in-Fields.fields.next in
    let s = taken_seat t in
    let x = c.args.done in
    let done = c.replace_at.ensures in
    let same : c.deref_mut.result.now ≡ p = c.deref_mut.ensures.value in
    let waiting : IsTaken p t × IsWhole p = rw c.in-Fields.is at c.requires in
    let before : rows_before q s ≡ rows_before p s = done.before ∙ ap (λ r. rows_before r s) same in
    let row : row_at q s ≡ ((row_at p s).0, x) = done.row ∙ ap (λ r. ((row_at r s).0, x)) same in
    let past : rows_past q s ≡ rows_past p s = done.past ∙ ap (λ r. rows_past r s) same in
    let left = ap (λ rs. nodes_fields (fields_of rs)) (left_added m p q t waiting.0 done.seated x before row past) in
    rw c.in-Fields.is (
      ap (λ rs. (m, node (fields (fields_of rs)) c.in-Fields.field-0 m)) (coat_added m p q t waiting.0 done.seated x before row past),
      omega (arith, left),
      (open_added m p q t waiting.0 done.seated x before row past, done.whole),
    )
