use Rattle.rhai_value.proofs.Scans.{scan_opens}
use Rattle.rhai_value.proofs.laws.scans.scan_opens.Goals as goal

pub returns : goal.returns
returns g c = scan_opens g.V.Visitor.visited g.V.Visitor.adds_no_nodes
