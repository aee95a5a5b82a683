use Rattle.std.proofs.Common.{Some, sym, subst, append-nil, string_bytes}
use Rattle.rhai_lines.specs.Cursor.{Adds}
use Rattle.rhai_lines.specs.Spelling.{spoken, writes}
use Rattle.rhai_lines.proofs.spell.no_args.Goals as goal

pub returns : goal.returns
unfolding spoken writes
returns c = subst (λ v. Adds c.add.result (Some v) (string_bytes c.args.line.now) (string_bytes c.add.new.line)) (sym (append-nil c.args.verb.now)) c.add.ensures
