use Rattle.std.proofs.Common.{◌≡◌, ◌++◌, [], string_bytes, ◌∙◌, ap}
use Rattle.std.proofs.lemmas.List.{append-nil}
use Rattle.std.proofs.lemmas.Result.{IfOk-weaker}
use Rattle.std.proofs.lemmas.Str.{encodes-chars}
use Rattle.std.specs.Str.{chars, encode_utf8_all}
use Rattle.rhai_text.proofs.immutable_string.ImmutableString.from_str.Goals as goal

pub returns-then-text-gt-SHORT_BYTES-clause-bytes : goal.returns-then-text-gt-SHORT_BYTES-clause-bytes
returns-then-text-gt-SHORT_BYTES-clause-bytes c =
    IfOk-weaker c.from_string.result (λ t. t ≡ chars (string_bytes c.in_ok-long.long)) (λ t. encode_utf8_all t ≡ c.args.text.now)
    (λ t e. ap encode_utf8_all (e ∙ ap chars c.in_ok-long.ensures.ok) ∙ encodes-chars c.args.text.now c.utf8.text)
    c.from_string.ensures

pub returns-clause-bytes : goal.returns-clause-bytes
returns-clause-bytes c =
    IfOk-weaker c.of_three.result (λ t. t ≡ chars (c.args.text.now ++ [])) (λ t. encode_utf8_all t ≡ c.args.text.now)
    (λ t e. ap encode_utf8_all e ∙ ap (λ bs. encode_utf8_all (chars bs)) (append-nil c.args.text.now) ∙ encodes-chars c.args.text.now c.utf8.text)
    c.of_three.ensures
