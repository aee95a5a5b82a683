use Rattle.rhai_run.specs.KeptWorld.{kept_pairs}
use Rattle.rhai_run.proofs.Runs.{runs_alike}
use Rattle.rhai_run.proofs.laws.normalizing_is_not_seen.Goals as goal

pub returns : goal.returns
returns c w v h commands = runs_alike (kept_pairs h.cells) w v commands h.alike
