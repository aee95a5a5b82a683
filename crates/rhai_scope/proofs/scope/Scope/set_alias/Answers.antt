use Rattle.std.proofs.Common.{sym, ap, ◌∙◌}
use Rattle.std.proofs.lemmas.Result.{on_ok_weaker}
use Rattle.std.specs.Str.{chars}
use Rattle.rhai_scope.specs.Alias.{aliased, meant_alias}
use Rattle.rhai_scope.specs.Lookup.{changed_at, changed_if}
use Rattle.rhai_scope.proofs.Found.{found_name}
use Rattle.rhai_scope.proofs.scope.Scope.set_alias.Goals as goal

pub returns-in_ok-alias-in-Some-clause-ok : goal.returns-in_ok-alias-in-Some-clause-ok
returns-in_ok-alias-in-Some-clause-ok c =
    let es = c.args.self.now in
    let i = c.in-Some.i in
    let name = chars c.args.name.now in
    let own = found_name name es i c.index.result.now (sym c.in-Some.ensures.position) (rw c.self.view_is at c.index.ensures) in
    let meant = c.in_ok-alias-in-Some.ensures ∙ ap (λ n. meant_alias n (chars c.args.alias.now)) (c.name.ensures ∙ own) in
    on_ok_weaker c.add_alias.result
    (λ is. is ∙ ap (λ a. changed_at (aliased a) es i) meant ∙ ap (changed_if (aliased (meant_alias name (chars c.args.alias.now))) es) c.in-Some.ensures.position)
    c.add_alias.ensures.ok
