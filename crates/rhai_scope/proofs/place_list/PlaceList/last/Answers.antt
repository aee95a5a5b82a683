use Rattle.rhai_scope.proofs.PlaceLists.{last_apart}
use Rattle.rhai_scope.proofs.place_list.PlaceList.last.Goals as goal

pub returns : goal.returns
returns c = rw (← c.self.view_is) (last_apart c.self.inside.earlier.items c.self.inside.last)
