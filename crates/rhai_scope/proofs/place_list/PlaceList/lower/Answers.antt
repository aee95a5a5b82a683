use Rattle.std.proofs.Common.{◌∷◌, [], ◌++◌, ap₂, ◌∙◌}
use Rattle.rhai_scope.proofs.PlaceLists.{lowered_apart}
use Rattle.rhai_scope.proofs.place_list.PlaceList.lower.Goals as goal

pub returns : goal.returns
returns c = rw (← c.self.view_is) (ap₂ (λ ps p. ps ++ p ∷ []) c.close_up.ensures c.lowered-self-inside.ensures ∙ lowered_apart c.args.gone c.self.inside.earlier.items c.self.inside.last)
