use Rattle.std.proofs.Common.{◌≡◌, [], true, false, string_bytes, IfSome, refl, ap, sym, ◌∙◌}
use Rattle.std.specs.Str.{chars}
use Rattle.std.proofs.lemmas.Result.{on_ok_weaker, on_err_weaker}
use Rattle.rhai_value.specs.declared.parts.in_store.InStore.{InStore}
use Rattle.rhai_value.specs.End.{end, value_after, store_after}
use Rattle.rhai_value.specs.Store.{content_at, is_marked_at, put, set_mark, marked_with}
use Rattle.rhai_target.specs.Change.{on_text, spliced, sliced}
use Rattle.rhai_target.proofs.MarkedTexts.{own_text, own_changed, token_marks, cell_text, cell_has_text, cell_changed, of_ok}
use Rattle.rhai_target.proofs.slice.write_slice.Goals as goal

pub sliced-requires : goal.sliced-requires
sliced-requires c = (own_text (record { value = c.args.source; store = c.args.store }) c.requires.held c.in-None.ensures.which).0

pub returns-in_ok-text-in-None-clause-own : goal.returns-in_ok-text-in-None-clause-own
returns-in_ok-text-in-None-clause-own c =
    let h : InStore = record { value = c.args.source; store = c.args.store } in
    let place = end c.args.store.now [] c.args.source.now in
    c.put_text.ensures ∙ own_changed h (spliced (chars c.as_str.result.now) c.args.slice) c.in_ok-text-in-None.text c.requires.held c.in-None.ensures.which c.in_ok-text-in-None.ensures
    ∙ ap (λ cs. value_after (on_text (spliced cs c.args.slice)) place c.args.source.now) (ap chars c.as_str.ensures.value ∙ c.in_ok-printed-in-None.ensures)
    ∙ ap (λ n. value_after (on_text (sliced n c.args.value.now c.args.slice)) (end c.args.store.now [] c.args.source.now) c.args.source.now) c.mark_held-mark.ensures.after

pub returns-in_ok-text-in-None-clause-store : goal.returns-in_ok-text-in-None-clause-store
returns-in_ok-text-in-None-clause-store c =
    c.mark_held-mark.ensures.after ∙ ap (λ o. marked_with o c.args.store.now) (sym c.in-None.ensures.which)
    ∙ (own_text (record { value = c.args.source; store = c.args.store }) c.requires.held c.in-None.ensures.which).2 _ c.args.store.now

pub write_marked_slice-done-requires-clause-held : goal.write_marked_slice-done-requires-clause-held
write_marked_slice-done-requires-clause-held c =
    let h : InStore = record { value = c.args.source; store = c.args.store } in
    let n = token_marks c.args.store.now c.mark_held-mark.new.self c.in-Some.token _ c.in-Some.ensures.which c.mark_held-mark.ensures.after in
    let stands : is_marked_at (set_mark c.args.store.now c.in-Some.token true) c.in-Some.token ≡ true = ap (λ x. is_marked_at x c.in-Some.token) (sym n) ∙ c.in-Some.ensures.marked in
    cell_has_text _ _ _ _ (cell_text h c.in-Some.token c.requires.held c.in-Some.ensures.which stands) n

pub returns-in-Some-clause-store : goal.returns-in-Some-clause-store
returns-in-Some-clause-store c =
    let s = c.args.store.now in
    let t = c.in-Some.token in
    let h : InStore = record { value = c.args.source; store = c.args.store } in
    let n = token_marks s c.mark_held-mark.new.self t _ c.in-Some.ensures.which c.mark_held-mark.ensures.after in
    let stands : is_marked_at (set_mark s t true) t ≡ true = ap (λ x. is_marked_at x t) (sym n) ∙ c.in-Some.ensures.marked in
    let read = c.sites_are_read.ensures.held s c.args.source.now t (sym c.in-Some.ensures.which) in
    on_ok_weaker c.write_marked_slice-done.result
    (λ done. cell_changed _ s c.mark_held-mark.new.self c.write_marked_slice-done.new.store c.release.new.self t (on_text (sliced c.mark_held-mark.new.self c.args.value.now c.args.slice))
    (cell_text h t c.requires.held c.in-Some.ensures.which stands) n c.release.ensures (λ w. c.mark_is_cleared.ensures.written s t w read)
    (of_ok c.display_text-printed.result (λ p. chars (string_bytes p)) _ (λ cs. IfSome (content_at c.mark_held-mark.new.self t)
    (λ v. c.write_marked_slice-done.new.store ≡ put c.mark_held-mark.new.self t (on_text (spliced cs c.args.slice) v))) c.display_text-printed.ensures done)
    ∙ ap (λ x. store_after (on_text (sliced x c.args.value.now c.args.slice)) (end s [] c.args.source.now) s) c.mark_held-mark.ensures.after)
    c.write_marked_slice-done.ensures.ok

pub returns-in-Some-clause-err : goal.returns-in-Some-clause-err
returns-in-Some-clause-err c =
    let s = c.args.store.now in
    let t = c.in-Some.token in
    let n = token_marks s c.mark_held-mark.new.self t _ c.in-Some.ensures.which c.mark_held-mark.ensures.after in
    let read = c.sites_are_read.ensures.held s c.args.source.now t (sym c.in-Some.ensures.which) in
    on_err_weaker c.write_marked_slice-done.result
    (λ same. (refl, c.release.ensures ∙ ap (λ x. set_mark x t false) (same ∙ n) ∙ c.mark_is_cleared.ensures.alone s t read))
    c.write_marked_slice-done.ensures.err
