use Rattle.std.proofs.Common.{string_bytes}
use Rattle.std.specs.Str.{chars}
use Rattle.rhai_scope.proofs.Lines.{name_line_added}
use Rattle.rhai_scope.proofs.names_text.add_name_line.Goals as goal

pub returns : goal.returns
returns c =
    name_line_added c.add_text-2.result (chars (string_bytes c.args.out.now)) (chars (string_bytes c.add_mark.new.out)) (chars (string_bytes c.add_text.new.out)) (chars (string_bytes c.add_text-2.new.out))
    c.args.is_constant (chars c.args.name.now) c.in_ok-add_mark.ensures c.in_ok-add_text.ensures c.add_text-2.ensures
