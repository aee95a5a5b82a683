use Rattle.std.proofs.Common.{◌≡◌, None, true, is_some, rules, sym, ap, ◌∙◌}
use Rattle.std.specs.Option.{option_copied}
use Rattle.std.proofs.lemmas.Result.{IfOk-weaker}
use Rattle.rhai_value.specs.Tree.{cell_of}
use Rattle.rhai_value.specs.Walk.{entry}
use Rattle.rhai_packs.proofs.Json.{closed_again, shut_written, unread_written}
use Rattle.rhai_packs.proofs.maps.json.add_value.Goals as goal

pub returns-in-None-clause-text : goal.returns-in-None-clause-text
returns-in-None-clause-text c =
    let holder : is_some (cell_of c.args.value.now) ≡ true = search rules in
    let none : entry c.args.store.now c.args.path.now c.args.value.now ≡ None = sym c.in_ok-enter.ensures.found ∙ ap option_copied c.in-None.is in
    IfOk-weaker c.add_null.result _ _ (λ o null. shut_written c.args.store.now c.args.path.now c.args.value.now _ _ _ o holder none (rw c.in-None.is at c.in_ok-enter.ensures.stays) null) c.add_null.ensures.text

pub returns-in-None-held-clause-text : goal.returns-in-None-held-clause-text
returns-in-None-held-clause-text c =
    let holder : is_some (cell_of c.args.value.now) ≡ true = search rules in
    let opened = rw c.in-Some.is at c.in_ok-enter.ensures.opened in
    IfOk-weaker c.add_null-in-None-held.result _ _ (λ o null. unread_written c.args.store.now c.args.path.now c.args.value.now _ _ _ o holder (sym c.in-None-held.ensures) (c.leave.ensures ∙ closed_again _ _ _ holder opened) null) c.add_null-in-None-held.ensures.text
