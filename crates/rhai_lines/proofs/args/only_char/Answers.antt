use Rattle.std.proofs.Common.{◌∙◌}
use Rattle.rhai_lines.proofs.Characters.{parsed_char}
use Rattle.rhai_lines.proofs.args.only_char.Goals as goal

pub returns : goal.returns
returns c = c.ok.ensures.value ∙ parsed_char c.args.text.now c.parse.result c.utf8.text c.parse.ensures.value
