use Rattle.std.proofs.Common.{string_bytes}
use Rattle.std.specs.Str.{chars}
use Rattle.rhai_scope.proofs.Lines.{line_added}
use Rattle.rhai_scope.proofs.shown.add_line.Goals as goal

pub returns : goal.returns
returns c =
    line_added c.add_text-6.result
    (chars (string_bytes c.args.out.now)) (chars (string_bytes c.add_text.new.out)) (chars (string_bytes c.add_number.new.out)) (chars (string_bytes c.add_text-2.new.out)) (chars (string_bytes c.add_mark.new.out))
    (chars (string_bytes c.add_text-3.new.out)) (chars (string_bytes c.add_text-4.new.out)) (chars (string_bytes c.add_text-5.new.out)) (chars (string_bytes c.add_text-6.new.out))
    c.args.number c.args.is_constant (chars c.args.name.now) (chars c.args.text.now)
    c.in_ok-add_text.ensures c.in_ok-add_number.ensures c.in_ok-add_text-2.ensures c.in_ok-add_mark.ensures c.in_ok-add_text-3.ensures c.in_ok-add_text-4.ensures c.in_ok-add_text-5.ensures c.add_text-6.ensures
