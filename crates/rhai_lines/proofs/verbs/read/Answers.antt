use Rattle.std.proofs.Common.{◌≡◌, true, length, arith}
use Rattle.std.proofs.lemmas.Bool.Decides.{nat_tests}
use Rattle.rhai_lines.specs.Cursor.{left_in}
use Rattle.rhai_lines.proofs.Lookups.{is_other, of_other_length}
use Rattle.rhai_lines.proofs.verbs.read.Goals as goal

pub returns-in_default-verb : goal.returns-in_default-verb
returns-in_default-verb c = let t : is_other (length c.args.verb.now) ≡ true = grind (arith, nat_tests) in search (of_other_length c.args.verb.now (left_in c.args.left.now) t)
