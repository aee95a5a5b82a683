use Rattle.std.proofs.Common.{◌∷◌, [], ◌++◌, subst, ◌∙◌}
use Rattle.std.proofs.lemmas.Result.{on_ok_weaker}
use Rattle.rhai_scope.specs.Index.{IsIndexOf, names_of}
use Rattle.rhai_scope.proofs.scope.admit.Goals as goal

pub returns-clause-ok : goal.returns-clause-ok
returns-clause-ok c =
    on_ok_weaker c.admit_one.result
    (λ new name. subst (λ es. IsIndexOf c.admit_one.new.self (names_of es ++ name ∷ [])) (c.as_slice.ensures.value ∙ c.make_room.ensures.items) (new name))
    c.admit_one.ensures.ok

pub returns-clause-index : goal.returns-clause-index
returns-clause-index c = subst (λ es. IsIndexOf c.admit_one.new.self (names_of es)) (c.as_slice.ensures.value ∙ c.make_room.ensures.items) c.admit_one.ensures.index
