use Rattle.rhai_run.proofs.KeptWorlds.{fits_kept, alike_kept, keeps_all}
use Rattle.rhai_run.proofs.laws.reordered_worlds_correspond.Goals as goal

pub returns : goal.returns
returns c w cells h d e = let k = keeps_all w cells h d e in record { first = h; second = fits_kept w cells k h; same = alike_kept w cells k }
