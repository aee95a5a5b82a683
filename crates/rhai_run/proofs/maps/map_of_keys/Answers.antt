use Rattle.std.proofs.Common.{◌≡◌, [], map, sym, ap₂, ◌∙◌, string_bytes}
use Rattle.std.specs.BTreeMap.{insert_entry}
use Rattle.std.specs.Str.{encode_utf8_all}
use Rattle.rhai_value.specs.Rows.{bytes_cmp}
use Rattle.rhai_value.specs.Tree.{fresh, unit}
use Rattle.rhai_run.proofs.MapRows.{rows_more, unit_at}
use Rattle.rhai_run.proofs.maps.map_of_keys.Goals as goal

pub loop-key-preserved : goal.loop-key-preserved
loop-key-preserved c =
    let ks = c.args.keys.now in
    let i = c.loop-key.key-index in
    let key : string_bytes c.in_ok-key.key ≡ encode_utf8_all c.key-item.result = c.in_ok-key.ensures.ok ∙ c.as_str.ensures.bytes in
    c.in-Ok.ensures.inserted ∙ ap₂ (λ rs k. insert_entry bytes_cmp rs k (fresh unit)) c.loop-key.invariant key
    ∙ sym (rows_more [] ks (map (λ k. fresh unit) ks) i c.key-item.result (fresh unit) c.loop-key-test.true c.key-item.is (unit_at ks i c.loop-key-test.true))
