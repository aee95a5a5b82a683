use Rattle.std.proofs.Common.{◌++◌, string_bytes, refl}
use Rattle.std.specs.Fmt.{signed_decimal}
use Rattle.std.specs.Str.{chars}
use Rattle.rhai_show.specs.Leaves.{end_printed}
use Rattle.rhai_show.proofs.Pushed.{added_more, added_twice}
use Rattle.rhai_show.proofs.host.add_range.Goals as goal

pub returns : goal.returns
returns c =
    let between = signed_decimal c.args.start.now ++ chars c.args.between.now in
    added_twice c.add_end.result _ (chars (string_bytes c.add_text.new.out)) (chars (string_bytes c.args.out.now)) between (end_printed c.args.end.now) _
    (added_more _ _ _ _ _ c.in_ok-add_int.ensures c.in_ok-add_text.ensures) refl c.add_end.ensures
