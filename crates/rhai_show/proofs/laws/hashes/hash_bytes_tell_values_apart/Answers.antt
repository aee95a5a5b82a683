use Rattle.rhai_show.proofs.Ranges.{hashed_apart}
use Rattle.rhai_show.proofs.laws.hashes.hash_bytes_tell_values_apart.Goals as goal

pub returns : goal.returns
returns c = λ s z t u a b f g. hashed_apart s z t u a b f g
