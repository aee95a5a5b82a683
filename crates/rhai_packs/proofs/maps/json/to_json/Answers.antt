use Rattle.std.proofs.Common.{◌≡◌, ◌++◌, codes, string_bytes, refl, ap, true, ◌∙◌}
use Rattle.std.proofs.lemmas.Result.{IfOk-weaker}
use Rattle.std.specs.Str.{chars}
use Rattle.rhai_show.proofs.ForCallers.{fixed}
use Rattle.rhai_packs.specs.Json.{rest_text}
use Rattle.rhai_packs.proofs.maps.json.to_json.Goals as goal

pub returns : goal.returns
returns c =
    let all = c.in_ok-add_object.ensures in
    let bytes : string_bytes c.push_str.new.self ≡ codes "{" = c.in_ok-push_str.ensures.bytes ∙ ap (λ b. b ++ codes "{") c.new-out.ensures.bytes in
    let start : chars (string_bytes c.push_str.new.self) ≡ codes "{" = ap chars bytes ∙ fixed (codes "{") refl in
    IfOk-weaker c.from_str.result _ _ (λ text e. (all.0, all.1, e ∙ ap chars c.as_str.ensures.value ∙ all.2 ∙ ap (λ r. r ++ rest_text true all.0) start)) c.from_str.ensures.characters
