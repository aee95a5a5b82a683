use Rattle.std.proofs.Common.{◌≡◌, ◌++◌, take, IfOk, ◌∙◌, ap, subst}
use Rattle.std.specs.Str.{chars}
use Rattle.rhai_text.specs.Text.{with_slice}
use Rattle.rhai_text.proofs.immutable_string.ImmutableString.with_slice.Goals as goal

pub returns : goal.returns
returns c =
    let slice = chars c.args.slice.now in
    subst (λ xs. IfOk c.joined.result (λ t. t ≡ xs))
    (ap (λ xs. xs ++ (slice ++ chars c.parts_around.result.1.now)) c.parts_around.ensures.front
    ∙ ap (λ xs. take c.args.start (chars c.as_str.result.now) ++ (slice ++ xs)) c.parts_around.ensures.back
    ∙ ap (λ xs. with_slice xs c.args.start c.args.end c.args.exclusive slice) c.as_str.ensures.characters)
    c.joined.ensures
