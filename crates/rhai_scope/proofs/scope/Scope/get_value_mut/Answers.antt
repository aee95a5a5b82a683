use Rattle.std.proofs.Common.{ap, ap₂, ◌∙◌, option_and_then}
use mathlib.Core.Path.{fun_ext}
use borrow.Follows.Closed.{read_of}
use Rattle.std.specs.Option.{ghost_name_of}
use Rattle.std.specs.Str.{chars}
use Rattle.rhai_variant.specs.Reads.{viewed}
use Rattle.rhai_scope.specs.Lookup.{last_position}
use Rattle.rhai_scope.proofs.MovedOut.{kept_at, written_at}
use Rattle.rhai_scope.proofs.scope.Scope.get_value_mut.Goals as goal

pub returns-in-Some : goal.returns-in-Some
returns-in-Some g c =
    let es = c.args.self.now in
    let k = g.T.Variant.KIND in
    let written = fun_ext (λ w. written_at k (g.T.Variant.tree w) c.in-Some.value.now es (last_position (chars c.args.name.now) es) c.in-Some.ensures.value) in
    let kept = kept_at c.in-Some.value.now es (last_position (chars c.args.name.now) es) c.in-Some.ensures.value in
    (ap₂ (λ f x. read_of (ghost_name_of c.view_mut.result) f x) written kept, c.view_mut.ensures.value ∙ ap (option_and_then (viewed k)) c.in-Some.ensures.value)
