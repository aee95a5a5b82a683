use Rattle.std.proofs.Common.{sym, ◌∙◌}
use Rattle.rhai_scope.proofs.PlaceLists.{one_left, none_left}
use Rattle.rhai_scope.proofs.place_list.PlaceList.pop.Goals as goal

pub returns-in-Some : goal.returns-in-Some
returns-in-Some c = rw (← c.self.view_is) (one_left c.self.inside.earlier.items c.pop.new.self.items c.self.inside.last c.in-Some.place c.in-Some.ensures.items)

pub returns-in-None : goal.returns-in-None
returns-in-None c = rw (← c.self.view_is) (none_left c.self.inside.earlier.items c.self.inside.last (sym c.self.inside.earlier.ok.0 ∙ c.in-None.ensures.cases.0))
