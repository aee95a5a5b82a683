use Rattle.std.proofs.Common.{w32, arith, sym, ap}
use Rattle.std.proofs.lemmas.Int.{to_z-of_z}
use Rattle.rhai_value.specs.Tree.{node, fields}
use Rattle.rhai_value.proofs.Coatings.{opened_painted}
use Rattle.rhai_value.proofs.walk.paint_far.coated_parts.Goals as goal

pub returns-in-Some : goal.returns-in-Some
returns-in-Some c =
    let opened = opened_painted c.args.mode c.args.parts c.in-Some.parts (sym c.in-Some.is) c.requires in
    rw (to_z-of_z w32 c.args.tag c.ranges.tag) (ap (λ fs. node (fields fs) c.args.tag c.args.mode) opened.0, omega (arith, opened.1), (opened.2, opened.3))
