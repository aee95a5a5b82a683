use Rattle.std.proofs.Common.{◌≡◌, ◌∙◌, rules}
use Rattle.rhai_packs.specs.Places.{part_count}
use Rattle.rhai_packs.proofs.Parts.{first_kept, front_kept}
use Rattle.rhai_packs.proofs.texts.truncate.Goals as goal

pub returns-clause-ok : goal.returns-clause-ok
returns-clause-ok c =
    let xs = c.args.text.now in
    let l = c.len-length.result in
    let k = c.at_most-kept.result in
    let number : k ≡ part_count l c.args.count = search rules in
    front_kept xs c.in_ok-text.field-0 k l c.len-length.ensures c.in_ok-text.ensures ∙ first_kept xs c.args.count l k c.len-length.ensures number
