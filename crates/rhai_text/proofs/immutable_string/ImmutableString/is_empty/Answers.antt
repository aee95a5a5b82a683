use Rattle.std.proofs.Common.{arith}
use Rattle.std.proofs.lemmas.Grind.{common_steps}
use Rattle.std.proofs.lemmas.Str.{length-le-encodes}
use Rattle.rhai_text.proofs.immutable_string.ImmutableString.is_empty.Goals as goal

pub returns : goal.returns
returns c = grind (arith, common_steps, length-le-encodes c.args.self.now)
