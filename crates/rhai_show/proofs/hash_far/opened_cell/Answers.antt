use Rattle.std.proofs.Common.{◌∙◌, is_some, sym, ap}
use Rattle.rhai_show.proofs.Plains.{plain-enters, some_map}
use Rattle.rhai_show.proofs.hash_far.opened_cell.Goals as goal

pub unwrap-requires : goal.unwrap-requires
unwrap-requires c =
    let h = c.requires.holder in
    sym (some_map (λ r. r.now) c.in_ok-enter.field-0) ∙ ap is_some c.in_ok-enter.ensures.found ∙ plain-enters c.args.store.now c.args.path.now c.args.value.now h.0 h.1 h.2 h.3 c.requires.plain
