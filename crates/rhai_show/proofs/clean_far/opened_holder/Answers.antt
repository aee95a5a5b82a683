use Rattle.std.proofs.Common.{◌≡◌, ◌∷◌, ◌∙◌, Some, None, IfSome, is_some, option_copied, refl, sym, ap, arith}
use Rattle.std.proofs.lemmas.Option.{MatchOption-at_some}
use Rattle.rhai_value.specs.Tree.{cell_of}
use Rattle.rhai_value.specs.Walk.{entry}
use Rattle.rhai_show.proofs.Plains.{plain-closed}
use Rattle.rhai_show.proofs.Searches.{again_answers, inside_requires, inside_answers, inside_leaves}
use Rattle.rhai_show.proofs.Weights.{held-weight}
use Rattle.rhai_show.proofs.clean_far.opened_holder.Goals as goal

pub returns-in-None-clause-answer : goal.returns-in-None-clause-answer
returns-in-None-clause-answer c =
    let h = c.requires.holder in
    let none : None ≡ entry c.args.store.now c.args.path.now c.args.value.now = ap option_copied (sym c.in-None.is) ∙ c.in_ok-enter.ensures.found in
    sym (ap is_some (plain-closed c.args.store.now c.args.path.now c.args.value.now h.0 h.1 h.2 h.3 none))

pub returns-in-None-2-clause-answer : goal.returns-in-None-2-clause-answer
returns-in-None-2-clause-answer c =
    let h = c.requires.holder in
    let o = c.in_ok-enter.ensures in
    let some : Some c.in-Some.content.now ≡ entry c.args.store.now c.args.path.now c.args.value.now = ap option_copied (sym c.in-Some.is) ∙ o.found in
    let next : IfSome (cell_of c.args.value.now) (λ k. c.enter.new.self ≡ k ∷ c.args.path.now) = MatchOption-at_some _ _ _ c.in-Some.is o.opened in
    let none : None ≡ entry c.args.store.now c.args.seen.now c.args.value.now = ap option_copied (sym c.in-None-2.is) ∙ c.in_ok-enter-in-Some.ensures.found in
    again_answers c.args.store.now c.args.path.now c.enter.new.self c.args.seen.now c.args.value.now c.in-Some.content.now h.0 h.1 h.2 h.3 some next c.requires.clean none

pub returns-in-Some-2-clause-answer : goal.returns-in-Some-2-clause-answer
returns-in-Some-2-clause-answer c =
    let h = c.requires.holder in
    let o = c.in_ok-enter.ensures in
    let some : Some c.in-Some.content.now ≡ entry c.args.store.now c.args.path.now c.args.value.now = ap option_copied (sym c.in-Some.is) ∙ o.found in
    let next : IfSome (cell_of c.args.value.now) (λ k. c.enter.new.self ≡ k ∷ c.args.path.now) = MatchOption-at_some _ _ _ c.in-Some.is o.opened in
    let q = c.in_ok-enter-in-Some.ensures in
    let new : Some c.in-Some-2.field-0.now ≡ entry c.args.store.now c.args.seen.now c.args.value.now = ap option_copied (sym c.in-Some-2.is) ∙ q.found in
    let after : IfSome (cell_of c.args.value.now) (λ k. c.enter-in-Some.new.self ≡ k ∷ c.args.seen.now) = MatchOption-at_some _ _ _ c.in-Some-2.is q.opened in
    inside_answers c.args.store.now c.args.path.now c.enter.new.self c.args.seen.now c.args.value.now c.in-Some.content.now h.0 h.1 h.2 h.3 some next c.requires.clean c.enter-in-Some.new.self c.in-Some-2.field-0.now new after _ refl

pub returns-in-Some-2-clause-left : goal.returns-in-Some-2-clause-left
returns-in-Some-2-clause-left c =
    let h = c.requires.holder in
    let o = c.in_ok-enter.ensures in
    let some : Some c.in-Some.content.now ≡ entry c.args.store.now c.args.path.now c.args.value.now = ap option_copied (sym c.in-Some.is) ∙ o.found in
    let next : IfSome (cell_of c.args.value.now) (λ k. c.enter.new.self ≡ k ∷ c.args.path.now) = MatchOption-at_some _ _ _ c.in-Some.is o.opened in
    let same = held-weight c.args.store.now c.args.path.now c.enter.new.self c.args.value.now c.in-Some.content.now h.0 h.1 h.2 h.3 some next in
    omega arith

pub returns-in-Some-2-clause-searched : goal.returns-in-Some-2-clause-searched
returns-in-Some-2-clause-searched c =
    let h = c.requires.holder in
    let o = c.in_ok-enter.ensures in
    let some : Some c.in-Some.content.now ≡ entry c.args.store.now c.args.path.now c.args.value.now = ap option_copied (sym c.in-Some.is) ∙ o.found in
    let next : IfSome (cell_of c.args.value.now) (λ k. c.enter.new.self ≡ k ∷ c.args.path.now) = MatchOption-at_some _ _ _ c.in-Some.is o.opened in
    let q = c.in_ok-enter-in-Some.ensures in
    let new : Some c.in-Some-2.field-0.now ≡ entry c.args.store.now c.args.seen.now c.args.value.now = ap option_copied (sym c.in-Some-2.is) ∙ q.found in
    let after : IfSome (cell_of c.args.value.now) (λ k. c.enter-in-Some.new.self ≡ k ∷ c.args.seen.now) = MatchOption-at_some _ _ _ c.in-Some-2.is q.opened in (
      inside_requires c.args.store.now c.args.path.now c.enter.new.self c.args.seen.now c.args.value.now c.in-Some.content.now h.0 h.1 h.2 h.3 some next c.requires.clean c.enter-in-Some.new.self c.in-Some-2.field-0.now new after,
      λ later k. inside_leaves c.args.store.now c.args.path.now c.enter.new.self c.args.seen.now c.args.value.now c.in-Some.content.now h.0 h.1 h.2 h.3 some next c.requires.clean c.enter-in-Some.new.self c.in-Some-2.field-0.now new after later k,
    )
