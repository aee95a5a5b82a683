use Rattle.std.proofs.Common.{ap, ◌∙◌}
use Rattle.rhai_scope.specs.NameIndex.{unless_empty}
use Rattle.rhai_scope.proofs.PlaceLists.{last_goes, last_stays}
use Rattle.rhai_scope.proofs.place_list.PlaceList.take_out.Goals as goal

pub returns-then-self-place : goal.returns-then-self-place
returns-then-self-place c =
    rw (← c.self.view_is) (c.pop.ensures ∙ ap unless_empty (last_goes c.args.place c.self.inside.earlier.items c.drop_place.new.list.items c.self.inside.last c.drop_place.ensures c.if-self-place.true))

pub returns : goal.returns
returns c = rw (← c.self.view_is) (last_stays c.args.place c.self.inside.earlier.items c.drop_place.new.list.items c.self.inside.last c.drop_place.ensures c.if-self-place.false)
