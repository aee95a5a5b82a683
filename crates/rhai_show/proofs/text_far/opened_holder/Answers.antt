use Rattle.std.proofs.Common.{◌≡◌, ◌++◌, ◌∷◌, Some, None, IfSome, codes, string_bytes, length, option_copied, refl, sym, ap, ap₂, ◌∙◌, arith}
use Rattle.std.specs.Str.{chars}
use Rattle.std.proofs.lemmas.List.{append-nil}
use Rattle.std.proofs.lemmas.Option.{MatchOption-at_some}
use Rattle.rhai_value.specs.Tree.{cell_of}
use Rattle.rhai_value.specs.Walk.{entry}
use Rattle.rhai_show.specs.Text.{printed}
use Rattle.rhai_show.proofs.Printed.{printed-closed, printed-opened}
use Rattle.rhai_show.proofs.Pushed.{fixed}
use Rattle.rhai_show.proofs.Weights.{held-weight, opened_path}
use Rattle.rhai_show.proofs.text_far.opened_holder.Goals as goal

pub returns-in_ok-add_text-in-None-clause-text : goal.returns-in_ok-add_text-in-None-clause-text
returns-in_ok-add_text-in-None-clause-text c =
    let h = c.requires in
    let none : None ≡ entry c.args.store.now c.args.path.now c.args.value.now = ap option_copied (sym c.in-None.is) ∙ c.in_ok-enter.ensures.found in
    c.in_ok-add_text-in-None.ensures
    ∙ ap (λ x. chars (string_bytes c.args.out.now) ++ x) (fixed (codes "<shared>") refl ∙ printed-closed c.args.store.now c.args.path.now c.args.value.now c.args.form h.0 h.1 h.2 h.3 none)

pub returns-in-Some-clause-text : goal.returns-in-Some-clause-text
returns-in-Some-clause-text c =
    let h = c.requires in
    let o = c.in_ok-enter.ensures in
    let some : Some c.in-Some.content.now ≡ entry c.args.store.now c.args.path.now c.args.value.now = ap option_copied (sym c.in-Some.is) ∙ o.found in
    let next : IfSome (cell_of c.args.value.now) (λ k. c.enter.new.self ≡ k ∷ c.args.path.now) = MatchOption-at_some _ _ _ c.in-Some.is o.opened in
    let inside = printed c.args.store.now c.enter.new.self c.in-Some.content.now in
    ap (λ x. chars (string_bytes c.args.out.now) ++ x)
    (ap₂ (λ x y. x ++ y) (append-nil (inside c.of_content.result)) (fixed (codes " (shared)") refl)
    ∙ ap (λ f. inside f ++ codes " (shared)") c.of_content.ensures
    ∙ printed-opened c.args.store.now c.args.path.now c.enter.new.self c.args.value.now c.in-Some.content.now c.args.form h.0 h.1 h.2 h.3 some next)

pub returns-in-Some-clause-left : goal.returns-in-Some-clause-left
returns-in-Some-clause-left c =
    let h = c.requires in
    let o = c.in_ok-enter.ensures in
    let some : Some c.in-Some.content.now ≡ entry c.args.store.now c.args.path.now c.args.value.now = ap option_copied (sym c.in-Some.is) ∙ o.found in
    let next : IfSome (cell_of c.args.value.now) (λ k. c.enter.new.self ≡ k ∷ c.args.path.now) = MatchOption-at_some _ _ _ c.in-Some.is o.opened in
    let opens = ap length (opened_path c.args.value.now h.0 h.1 h.2 c.enter.new.self c.args.path.now h.3 next) in
    let same = held-weight c.args.store.now c.args.path.now c.enter.new.self c.args.value.now c.in-Some.content.now h.0 h.1 h.2 h.3 some next in
    (omega arith, omega arith)
