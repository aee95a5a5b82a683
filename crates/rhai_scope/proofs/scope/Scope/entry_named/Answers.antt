use Rattle.std.proofs.Common.{◌≡◌, length, slice_get, Some, option_and_then, refl, sym, ap, ◌∙◌}
use Rattle.std.proofs.lemmas.Option.{slice_get_read}
use Rattle.std.specs.Str.{chars}
use Rattle.rhai_scope.specs.Lookup.{last_position}
use Rattle.rhai_scope.proofs.scope.Scope.entry_named.Goals as goal

pub returns-in-Some : goal.returns-in-Some
returns-in-Some c =
    let es = c.args.self.now in
    let name = chars c.args.name.now in
    let i = c.in-Some.i in
    let is : last_position name es ≡ Some i = sym c.in-Some.ensures.position in
    sym (ap (option_and_then (slice_get es)) is ∙ slice_get_read es (length es) i c.index.result.now refl c.in-Some.ensures.within (rw c.self.view_is at c.index.ensures))
