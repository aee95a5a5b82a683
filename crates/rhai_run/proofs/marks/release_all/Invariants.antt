use Rattle.rhai_run.specs.Fits.{MarksAre}
use Rattle.rhai_run.proofs.marks.release_all.Given as goal

abbrev pub invariant-loop-marks : goal.invariant-loop-marks
invariant-loop-marks l = MarksAre l.store l.marks.items

abbrev pub decreases-loop-marks : goal.decreases-loop-marks
decreases-loop-marks l = l.marks.len
