use Rattle.std.proofs.Common.{◌++◌, codes, refl, sym, ap, ◌∙◌}
use Rattle.std.specs.Fmt.{signed_decimal}
use Rattle.rhai_show.specs.Leaves.{end_printed, host_printed}
use Rattle.rhai_show.proofs.Pushed.{fixed, added_as}
use Rattle.rhai_show.proofs.host.add_host.Goals as goal

pub returns-in-ExclusiveRange : goal.returns-in-ExclusiveRange
returns-in-ExclusiveRange c =
    let r = c.in-ExclusiveRange.range in
    added_as c.add_range.result _ _ _ _ (ap (λ t. signed_decimal r.start ++ t ++ end_printed r.end) (fixed (codes "..") refl) ∙ ap host_printed (sym c.in-ExclusiveRange.is)) c.add_range.ensures

pub returns-in-InclusiveRange : goal.returns-in-InclusiveRange
returns-in-InclusiveRange c =
    let r = c.in-InclusiveRange.range in
    added_as c.add_range-in-InclusiveRange.result _ _ _ _ (ap (λ t. signed_decimal r.start ++ t ++ end_printed r.end) (fixed (codes "..=") refl) ∙ ap host_printed (sym c.in-InclusiveRange.is)) c.add_range-in-InclusiveRange.ensures
