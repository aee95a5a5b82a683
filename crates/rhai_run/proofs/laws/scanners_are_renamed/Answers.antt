use Rattle.rhai_value.proofs.ForCallers.{same_visits}
use Rattle.rhai_run.specs.Scanners.{visited}
use Rattle.rhai_run.proofs.ScanSteps.{scanners_same}
use Rattle.rhai_run.proofs.laws.scanners_are_renamed.Goals as goal

pub returns : goal.returns
returns c = record { visit = scanners_same; scan = λ r. same_visits r visited (scanners_same r) }
