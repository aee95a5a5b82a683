use Rattle.std.proofs.Common.{Some, codes, refl, sym, ap, ◌∙◌}
use Rattle.std.proofs.lemmas.Result.{IfOk-weaker}
use Rattle.rhai_value.specs.Rows.{fields_of}
use Rattle.rhai_value.specs.Tree.{fields, node}
use Rattle.rhai_show.proofs.ForCallers.{added_fixed}
use Rattle.rhai_packs.proofs.Json.{other_written, unit_written}
use Rattle.rhai_packs.proofs.maps.json.add_inner.Goals as goal

pub returns-in_ok-add_text-in-Map-clause-text : goal.returns-in_ok-add_text-in-Map-clause-text
returns-in_ok-add_text-in-Map-clause-text c =
    let is = c.in-Map.ensures in
    let entries = ap (λ rs. Some (c.args.path.now, node (fields (fields_of rs)) is.0 is.1)) (sym c.iter.ensures.entries) in
    ((is.0, is.1, ap (λ t. Some (c.args.path.now, t)) is.2 ∙ entries), refl, c.requires, refl, added_fixed _ _ (codes "{") refl c.in_ok-add_text-in-Map.ensures.text)

pub returns-in-Unit-clause-text : goal.returns-in-Unit-clause-text
returns-in-Unit-clause-text c =
    IfOk-weaker c.add_null.result _ _ (λ o null. unit_written c.args.store.now c.args.path.now _ _ _ c.args.value.now c.args.is_held o c.in-Unit.ensures c.leave.ensures null) c.add_null.ensures.text

pub returns-in_ok-add_debug-in-Other-clause-text : goal.returns-in_ok-add_debug-in-Other-clause-text
returns-in_ok-add_debug-in-Other-clause-text c =
    other_written c.args.store.now c.args.path.now _ _ _ c.args.value.now c.args.is_held c.in-Other.ensures c.leave-in-Other.ensures c.in_ok-add_debug-in-Other.ensures.text
