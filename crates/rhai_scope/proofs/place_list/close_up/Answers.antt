use Rattle.std.proofs.Common.{◌<◌, length, slice_set, ap, ◌∙◌, arith}
use Rattle.std.proofs.lemmas.List.Edits.{map_over_more}
use Rattle.rhai_scope.specs.NameIndex.{lowered}
use Rattle.rhai_scope.proofs.place_list.close_up.Goals as goal

pub loop-i-preserved : goal.loop-i-preserved
loop-i-preserved c =
    let list = c.args.list.now in
    let now = c.loop-i.list.items in
    let i = c.loop-i.i in
    let within : i < length list.items = omega (arith, c.loop-i-test.true, c.len-i-end.ensures, list.ok.0) in
    record {
      len = c.loop-i.invariant.len;
      items = ap (slice_set now i) c.lowered.ensures ∙ map_over_more (lowered c.args.gone) list.items now i c.index-place.result.now within c.loop-i.invariant.items c.index-place.ensures;
    }
