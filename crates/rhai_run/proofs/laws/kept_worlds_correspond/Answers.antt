use Rattle.rhai_run.proofs.KeptWorlds.{fits_kept, alike_kept}
use Rattle.rhai_run.proofs.laws.kept_worlds_correspond.Goals as goal

pub returns : goal.returns
returns c w cells h k = record { first = h; second = fits_kept w cells k h; same = alike_kept w cells k }
