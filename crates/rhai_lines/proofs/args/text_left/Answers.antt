use Rattle.std.proofs.lemmas.Str.{chars-nil}
use Rattle.rhai_lines.proofs.args.text_left.Goals as goal

pub returns-in-None : goal.returns-in-None
returns-in-None c = rw c.in-None.is chars-nil
