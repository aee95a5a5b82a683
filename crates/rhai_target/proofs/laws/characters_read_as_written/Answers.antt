use Rattle.rhai_target.proofs.ReadBack.{same_char_keeps}
use Rattle.rhai_target.proofs.laws.characters_read_as_written.Goals as goal

pub returns-clause-unchanged : goal.returns-clause-unchanged
returns-clause-unchanged c = same_char_keeps
