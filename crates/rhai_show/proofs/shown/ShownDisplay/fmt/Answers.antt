use Rattle.std.proofs.Common.{◌≡◌, sym, ap, ◌∙◌}
use Rattle.std.specs.Str.{chars, encode_utf8_all}
use Rattle.std.proofs.lemmas.Str.{encodes-chars}
use Rattle.rhai_show.proofs.shown.ShownDisplay.fmt.Goals as goal

-- the bytes of the text are those of its characters
pub returns-clause-writes : goal.returns-clause-writes
returns-clause-writes g c = λ plain ok.
    let same : c.as_str.result.now ≡ encode_utf8_all c.args.self.now = sym (encodes-chars c.as_str.result.now c.as_str.utf8) ∙ ap encode_utf8_all (ap chars c.as_str.ensures.value ∙ c.self.view_is) in
    rw (← same) (c.write_str.ensures.writes plain ok)
