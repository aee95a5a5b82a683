use Rattle.std.proofs.Common.{rules, ap}
use Rattle.rhai_target.proofs.Kept.{text_kept}
use Rattle.rhai_target.proofs.write_back.write_char.Goals as goal

pub returns-in-Err-with_char-clause-err : goal.returns-in-Err-with_char-clause-err
returns-in-Err-with_char-clause-err c =
    let kept = text_kept (record { value = c.args.source; store = c.args.store }) c.held_part_mut-text.result.now c.held_part_mut-text.ensures.value in
    search (rules, ap (λ h. h.value.now) kept, ap (λ h. h.store.now) kept)
