use Rattle.std.proofs.Common.{◌≡◌, ◌∙◌, true, is_some, Some, length, slice_get, refl, sym, ap, subst}
use Rattle.std.proofs.lemmas.Option.{slice_get_read}
use Rattle.rhai_run.specs.Lent.{placed_in}
use Rattle.rhai_run.specs.Slots.{value_in}
use Rattle.rhai_run.proofs.SlotValues.{hand_within, entry_within}
use Rattle.rhai_run.proofs.slots.Slots.at_mut.Goals as goal

pub returns-in-Hand : goal.returns-in-Hand
returns-in-Hand c =
    let h = c.args.self.now in
    let xs = h.hand.now.items in
    let i = c.in-Hand.i in
    let within = hand_within xs h.scope.now i (subst (λ q. is_some (value_in xs h.scope.now q) ≡ true) c.in-Hand.is c.requires) in
    let at : slice_get xs i ≡ Some c.index_mut.result.now = slice_get_read xs (length xs) i _ refl within c.index_mut.ensures.value in
    ((refl, λ w. ap (λ q. placed_in h q w) (sym c.in-Hand.is)), record { writes_back = tt; value = ap (value_in xs h.scope.now) c.in-Hand.is ∙ at })

pub at_mut-requires : goal.at_mut-requires
at_mut-requires c =
    let h = c.args.self.now in
    entry_within h.hand.now.items h.scope.now c.in-Entry.k (subst (λ q. is_some (value_in h.hand.now.items h.scope.now q) ≡ true) c.in-Entry.is c.requires)
