use Rattle.std.proofs.Common.{◌≡◌, [], ◌++◌, IfOk, ap, ◌∙◌, subst}
use Rattle.std.proofs.lemmas.List.{append-nil}
use Rattle.std.proofs.lemmas.Str.{chars-nil}
use Rattle.std.specs.Str.{chars}
use Rattle.rhai_text.proofs.immutable_string.ImmutableString.concat.Goals as goal

pub returns : goal.returns
returns c =
    subst (λ cs. IfOk c.joined.result (λ t. t ≡ cs))
    (ap (λ cs. cs ++ (chars c.args.text.now ++ chars [])) c.as_str.ensures.characters
    ∙ ap (λ cs. c.args.self.now ++ (chars c.args.text.now ++ cs)) chars-nil
    ∙ ap (λ cs. c.args.self.now ++ cs) (append-nil (chars c.args.text.now)))
    c.joined.ensures
