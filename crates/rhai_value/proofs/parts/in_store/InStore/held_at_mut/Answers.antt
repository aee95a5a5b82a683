use Rattle.std.proofs.Common.{◌≡◌, [], Some, ap, sym, ◌∙◌, inl}
use mathlib.Core.Path.{fun_ext}
use Rattle.rhai_value.specs.declared.cells.chain.Site.TheVariants.{Here, InCell}
use Rattle.rhai_value.specs.declared.parts.in_store.InStore.{InStore}
use Rattle.rhai_value.specs.End.{end, site_of}
use Rattle.rhai_value.specs.Tree.{Tree}
use Rattle.rhai_value.specs.Writes.{written}
use Rattle.rhai_value.proofs.InStores.{own_written, own_value, cell_written, cell_value, cell_within}
use Rattle.rhai_value.proofs.parts.in_store.InStore.held_at_mut.Goals as goal

pub content_mut-requires : goal.content_mut-requires
content_mut-requires c =
    let h = c.args.self.now in
    let e : Some (InCell c.in-InCell.index) ≡ site_of (end h.store.now [] h.value.now) = ap Some (sym c.in-InCell.is) ∙ sym (c.in_ok-site.was {u = tt}) ∙ c.requires in
    cell_within h.store.now h.value.now c.in-InCell.index e

pub returns-in-Here : goal.returns-in-Here
returns-in-Here c =
    let h = c.args.self.now in
    let p : Some Here ≡ site_of (end h.store.now [] h.value.now) = ap Some (sym c.in-Here.is) ∙ sym (c.in_ok-site.was {u = tt}) ∙ c.requires in
    let e : ◌≡◌ {A = Tree → InStore} (λ w. record { value = record (h.value) { now = w }; store = h.store }) (λ w. written h (λ _. w)) = fun_ext (own_written h p) in
    (ap (λ F. inl (c.self-in-Here-1.given, F)) e, record { writes_back = tt; value = own_value h.store.now h.value.now p })

pub returns-in-InCell : goal.returns-in-InCell
returns-in-InCell c =
    let h = c.args.self.now in
    let i = c.in-InCell.index in
    let p : Some (InCell i) ≡ site_of (end h.store.now [] h.value.now) = ap Some (sym c.in-InCell.is) ∙ sym (c.in_ok-site.was {u = tt}) ∙ c.requires in
    (ap (λ F. inl (c.content_mut.result.ghost_name, F)) (fun_ext (cell_written h i p)), record { writes_back = tt; value = cell_value h.store.now h.value.now i c.content_mut.result.now p c.content_mut.ensures.value })
