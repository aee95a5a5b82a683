use Rattle.std.proofs.Common.{◌∷◌, ◌++◌, [], string_bytes, sym}
use Rattle.std.proofs.lemmas.List.{append-nil}
use Rattle.std.proofs.lemmas.Result.{on_ok_weaker}
use Rattle.std.specs.Char.{encode_utf8}
use Rattle.std.specs.List.{flat_map}
use Rattle.std.specs.Str.{chars}
use Rattle.rhai_text.specs.Quote.{escaped}
use Rattle.rhai_text.proofs.Quotes.{encodes-more, encodes-one_more, OnOk-appended}
use Rattle.rhai_text.proofs.quote.push_quoted.Goals as goal

pub returns-clause-ok : goal.returns-clause-ok
returns-clause-ok c =
    let quote = c.args.quote in
    let old = string_bytes c.args.out.now in
    let inner = flat_map (escaped quote) (chars c.args.text.now) in
    let opened = encodes-one_more old [] quote (sym (append-nil old)) c.in_ok-push.ensures.bytes in
    on_ok_weaker c.push-2.result
    (encodes-one_more old (quote ∷ inner) quote (encodes-more old (quote ∷ []) inner opened c.in_ok-push_runs.ensures.ok))
    (OnOk-appended c.push-2.result (string_bytes c.push-2.new.self) (string_bytes c.push_runs.new.out ++ encode_utf8 quote) (string_bytes c.push_runs.new.out) c.push-2.ensures.bytes)
