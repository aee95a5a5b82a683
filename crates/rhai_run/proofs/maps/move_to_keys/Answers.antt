use Rattle.std.proofs.Common.{◌≡◌, true, length, take, is_some, slice_get, Some, sym, ap, ap₂, ◌∙◌, arith}
use Rattle.std.proofs.lemmas.List.{take_all}
use Rattle.std.specs.BTreeMap.{is_at}
use Rattle.std.specs.Map.{keys_of, set_value}
use Rattle.std.specs.Str.{encode_utf8_all}
use Rattle.rhai_value.specs.Rows.{bytes_cmp}
use Rattle.rhai_run.specs.Made.{rows_with, rows_of_keys}
use Rattle.rhai_run.proofs.MapRows.{found, key_stays, found_more, keys_set, ahead_more, all_given}
use Rattle.rhai_run.proofs.maps.move_to_keys.Goals as goal

-- the key is still in the map
present : (c : goal.After-as_str) → is_some (found (encode_utf8_all c.index-keys-i.result) c.loop-i.map) ≡ true
present c =
    let ks = c.args.keys.now in
    let i = c.loop-i.i in
    let k = c.index-keys-i.result in
    ap is_some (c.loop-i.invariant.map (encode_utf8_all k)) ∙ ap (λ m. is_some (found (encode_utf8_all k) (rows_with m (take i ks) c.args.values.items))) c.requires.keys
    ∙ key_stays ks (take i ks) c.args.values.items i k c.loop-i-test.true c.index-keys-i.is

pub set_at-requires : goal.set_at-requires
set_at-requires c = ap (λ b. is_some (found b c.loop-i.map)) c.as_str.ensures.bytes ∙ present c

pub loop-i-preserved : goal.loop-i-preserved
loop-i-preserved c =
    let l = c.loop-i in
    let ts = c.args.values.items in
    let k = c.index-keys-i.result in
    let value = c.replace_at-value.result in
    let here : slice_get ts l.i ≡ Some value = sym (l.invariant.ahead l.i (omega arith)) ∙ c.replace_at-value.ensures.value in
    record {
      keys = ap keys_of c.set_at.ensures ∙ keys_set c.as_str.result.now value l.map ∙ l.invariant.keys;
      map = λ q. ap (found q) c.set_at.ensures ∙ ap (λ b. found q (set_value (is_at (bytes_cmp b)) l.map value)) c.as_str.ensures.bytes
          ∙ found_more q c.args.map.now l.map c.args.keys.now ts l.i k value c.loop-i-test.true c.index-keys-i.is here (present c.before) (l.invariant.map q);
      ahead = λ j le. ahead_more ts l.values.items c.replace_at-value.new.values.items l.i c.replace_at-value.ensures.after l.invariant.ahead j (omega arith);
      len = c.replace_at-value.ensures.len ∙ l.invariant.len;
    }

pub returns : goal.returns
returns c =
    let l = c.loop-i in
    let ks = c.args.keys.now in
    let ts = c.args.values.items in
    let n : length ts ≡ length ks = omega (arith, c.requires.values, c.args.values.ok.0) in
    let e : l.i ≡ length ks = omega (arith, c.loop-i-test.false, l.auto.i-end) in
    all_given l.map ks ts n (l.invariant.keys ∙ ap keys_of c.requires.keys)
    (λ q. l.invariant.map q ∙ ap₂ (λ m j. found q (rows_with m (take j ks) ts)) c.requires.keys e ∙ ap (λ xs. found q (rows_with (rows_of_keys ks) xs ts)) (take_all (length ks) ks (omega arith)))
