use Rattle.std.proofs.Common.{◌≡◌, rules}
use Rattle.rhai_value.specs.Coats.{painted_past}
use Rattle.rhai_value.specs.Lists.{rows_of}
use Rattle.rhai_value.proofs.Coatings.{painted_all}
use Rattle.rhai_value.proofs.walk.paint_far.PaintingSearch.finish.Goals as goal

pub returns-in-Fields : goal.returns-in-Fields
returns-in-Fields c =
    let m = c.args.self.now.mode in
    let p = c.in-Fields.fields.parts.value in
    let t = c.in-Fields.fields.next in
    let ended = rw c.in-Fields.is at c.requires in
    let all : painted_past m p t ≡ rows_of p = painted_all m p t ended.1 ended.0 in
    rw (c.in-Fields.is, all) (search rules)
