use Rattle.std.proofs.Common.{◌≡◌, ◌++◌, ◌∷◌, [], length, slice_set, get_or, ap, ap₂, ◌∙◌}
use Rattle.rhai_value.specs.Tree.{paint}
use Rattle.rhai_scope.specs.Entry.{Entry, with_value}
use Rattle.rhai_scope.proofs.MovedOut.{last_changed}
use Rattle.rhai_scope.proofs.scope.push_in_room.Goals as goal

pub returns-clause-items : goal.returns-clause-items
returns-clause-items c =
    let es = c.args.records.now.items in
    let painted : Entry → Entry = λ e. with_value (paint c.args.access e.value) e in
    let g = c.index_mut.result.now in
    let last : c.len-place.result ≡ length es = c.len-place.ensures ∙ c.args.records.now.ok.0 in
    let written : with_value c.set_access_mode.new.self g ≡ painted g = ap (λ t. with_value t g) (c.set_access_mode.ensures ∙ ap (paint c.args.access) c.value_mut.ensures.value) in
    ap (slice_set c.push_reserved.new.self.items c.len-place.result) written
    ∙ ap₂ (λ xs i. slice_set xs i (painted g)) c.push_reserved.ensures.items last
    ∙ last_changed painted es c.new.result g (c.index_mut.ensures.value ∙ ap₂ (λ xs i. get_or xs i g) c.push_reserved.ensures.items last)
    ∙ ap (λ e. es ++ painted e ∷ []) c.new.ensures
