use Rattle.std.proofs.Common.{◌≡◌, [], length, refl, sym, ap, ap₂, ◌∙◌, slice_set, subst, w64}
use Rattle.std.proofs.lemmas.Int.{to_z-of_z}
use Rattle.std.proofs.lemmas.Option.{slice_get_read}
use Rattle.rhai_value.specs.End.{end, end_name, store_after, value_after}
use Rattle.rhai_value.specs.Parts.{with_int}
use Rattle.rhai_run.specs.State.{State, with_cells}
use Rattle.rhai_run.specs.StateCode.{state_of}
use Rattle.rhai_run.specs.declared.answer.Answer.TheVariants.{Done, Refused}
use Rattle.rhai_run.specs.declared.answer.Refusal.TheVariants.{Mismatch}
use Rattle.rhai_run.proofs.Moves.{hand_within, int_done, int_refused}
use Rattle.rhai_run.proofs.world_state.WorldState.write_int.Goals as goal
use Rattle.rhai_run.specs.declared.command.Command.TheVariants as command
use Rattle.rhai_run.specs.Step.{step}

pub returns-then-not-set_int : goal.returns-then-not-set_int
returns-then-not-set_int c =
    let w : State = state_of c.self.inside.store c.self.inside.scope c.self.inside.marks.items c.self.inside.hand.items c.self.inside.limits in
    let within = hand_within c.args.self.now w c.args.i c.in_ok-value.field-0.now (sym c.self.view_is) c.in_ok-value.ensures.ok in
    let t = c.index_mut-target.result.now in
    let stays = c.if-not-set_int.ensures.stays in
    let name = c.type_name-name.result.now in
    rw c.mismatch.ensures (subst (λ v. (Refused (Mismatch name) ≡ (step v (command.WriteInt c.args.i c.args.value)).reply) × (with_cells w c.set_int.new.store (slice_set w.hand c.args.i c.set_int.new.self) ≡ (step v (command.WriteInt c.args.i c.args.value)).after)) c.self.view_is
    (int_refused w c.args.i c.args.value t c.set_int.new.self c.set_int.new.store name (slice_get_read w.hand (length w.hand) c.args.i t refl within c.index_mut-target.ensures.value)
    (sym c.if-not-set_int.ensures.is_int) stays (c.type_name-name.ensures ∙ ap₂ (λ s d. end_name (end s [] d)) stays.1 stays.0)))

pub returns : goal.returns
returns c =
    let w : State = state_of c.self.inside.store c.self.inside.scope c.self.inside.marks.items c.self.inside.hand.items c.self.inside.limits in
    let within = hand_within c.args.self.now w c.args.i c.in_ok-value.field-0.now (sym c.self.view_is) c.in_ok-value.ensures.ok in
    let t = c.index_mut-target.result.now in
    let e = end w.store [] t in
    let back = to_z-of_z w64 c.args.value c.ranges.value in
    subst (λ v. (Done ≡ (step v (command.WriteInt c.args.i c.args.value)).reply) × (with_cells w c.set_int.new.store (slice_set w.hand c.args.i c.set_int.new.self) ≡ (step v (command.WriteInt c.args.i c.args.value)).after)) c.self.view_is
    (int_done w c.args.i c.args.value t c.set_int.new.self c.set_int.new.store (slice_get_read w.hand (length w.hand) c.args.i t refl within c.index_mut-target.ensures.value)
    (sym c.if-not-set_int.ensures.is_int)
    (c.set_int.ensures.own ∙ ap (λ z. value_after (with_int z) e t) back, c.set_int.ensures.store ∙ ap (λ z. store_after (with_int z) e w.store) back))
