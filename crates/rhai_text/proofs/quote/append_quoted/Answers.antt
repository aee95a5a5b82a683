use Rattle.std.proofs.Common.{◌≡◌, length, string_bytes, subst, arith}
use Rattle.std.proofs.lemmas.Str.{IsUtf8-string_bytes}
use Rattle.std.specs.Str.{chars, IsCharBoundary}
use Rattle.rhai_text.specs.Quote.{quoted}
use Rattle.rhai_text.proofs.Quotes.{IsCharBoundary-extended, chars-extended}
use Rattle.rhai_text.proofs.quote.append_quoted.Goals as goal

pub truncate-requires : goal.truncate-requires
truncate-requires c =
    let old = c.args.out.now in
    let new = c.push_quoted.new.out in
    let len : length (string_bytes old) ≡ c.len-before.result = grind (arith, c.len-before.ensures, old.bytes.ok.0) in
    let cut = subst (IsCharBoundary (string_bytes new)) len (IsCharBoundary-extended (string_bytes old) (string_bytes new) (IsUtf8-string_bytes old) (IsUtf8-string_bytes new) c.in-Err.ensures.err.0 c.in-Err.ensures.err.1) in
    λ _. (cut.0, λ _. cut.1)

pub returns-in-Ok-clause-characters : goal.returns-in-Ok-clause-characters
returns-in-Ok-clause-characters c =
    let old = c.args.out.now in
    let new = c.push_quoted.new.out in
    chars-extended (string_bytes old) (string_bytes new) (quoted c.args.quote (chars c.args.text.now)) (IsUtf8-string_bytes old) (IsUtf8-string_bytes new) c.in-Ok.ensures.ok
