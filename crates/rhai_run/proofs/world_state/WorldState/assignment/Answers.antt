use Rattle.std.proofs.Common.{◌≡◌, subst, Some, Ok, option_map, rules}
use Rattle.rhai_value.specs.End.{first}
use Rattle.rhai_ops.specs.AssignTable.{assign_row}
use Rattle.rhai_run.specs.Places.{place_of}
use Rattle.rhai_run.specs.State.{State}
use Rattle.rhai_run.specs.StateCode.{state_of}
use Rattle.rhai_run.specs.Slots.{slot_of, source, value_in}
use Rattle.rhai_run.proofs.Assigns.{assign_is}
use Rattle.rhai_run.proofs.InSlots.{slot_apart, source_is}
use Rattle.rhai_run.proofs.world_state.WorldState.assignment.Goals as goal

pub returns : goal.returns
returns c =
    let w = c.args.self.now in
    let v : State = state_of c.self.inside.store c.self.inside.scope c.self.inside.marks.items c.self.inside.hand.items c.self.inside.limits in
    let p = place_of c.args.place in
    let q = c.in_ok-slot.slot in
    let x = c.value-x.result.now in
    let y = c.in_ok-y.y.now in
    let content : first w.store x ≡ Some c.in_ok-first.first.now = search rules in
    let found : assign_row c.args.op c.in_ok-first.first.now y ≡ Some c.in_ok-row.row = search rules in
    let is : slot_of w.entries p ≡ Some q = subst (λ (z : State). slot_of z.entries p ≡ Some q) c.self.view_is c.in_ok-slot.ensures.slot in
    let at : value_in w.hand w.entries q ≡ Some x =
    subst (λ (z : State). value_in z.hand z.entries q ≡ Some x) c.self.view_is (subst (λ us. value_in us v.entries q ≡ Some x) c.deref-2.ensures.value c.value-x.ensures) in
    let same : option_map Ok (value_in w.hand w.entries q) ≡ Some (source w.hand w.entries p) =
    subst (λ (z : State). option_map Ok (value_in z.hand z.entries q) ≡ Some (source z.hand z.entries p)) c.self.view_is
    (subst (λ us. option_map Ok (value_in us v.entries q) ≡ Some (source us v.entries p)) c.deref.ensures.value c.in_ok-slot.ensures.value) in (
      (x, y, slot_apart w.entries p q c.args.j is c.in_ok-is_apart.ensures.ok, at, c.in_ok-y.ensures.ok, c.rows_suit.ensures.place c.args.op w.store x c.in_ok-first.first.now y c.in_ok-row.row content found),
      assign_is w c.args.op p q c.args.j x y c.in_ok-first.first.now c.in_ok-row.row c.in_ok-y.ensures.ok c.in_ok-is_apart.ensures.ok is
          (source_is (value_in w.hand w.entries q) (source w.hand w.entries p) x same at) at content found (c.operators_write_nothing.ensures.assignment c.args.op c.in_ok-first.first.now y c.in_ok-row.row found),
    )
