use Rattle.rhai_value.proofs.SameScans.{same_visits}
use Rattle.rhai_value.proofs.laws.scans.scan_is_renamed.Goals as goal

pub returns : goal.returns
returns g c = λ r. same_visits r g.V.Visitor.visited
