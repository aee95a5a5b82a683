use Rattle.std.proofs.Common.{◌≡◌, Some, inl, refl, sym, ap, ◌∙◌}
use mathlib.Core.Path.{fun_ext}
use Rattle.rhai_value.specs.Lists.{IsWhole}
use Rattle.rhai_value.specs.Rows.{Rows}
use Rattle.rhai_value.specs.Seats.{row_at, IsFound, IsMissing}
use Rattle.rhai_value.specs.Tree.{Tree}
use Rattle.rhai_value.proofs.SeatEdits.{value_whole}
use Rattle.rhai_value.proofs.SeatResults.{found_valued}
use Rattle.rhai_value.proofs.Seats.{found_value, missing_value}
use Rattle.rhai_value.proofs.map.Map.get_mut.Goals as goal

pub invariant_of-self-lent : goal.invariant_of-self-lent
invariant_of-self-lent c =
    let p = c.in-Some.parts.value in
    let whole : IsWhole p = rw c.in-Some.is at c.self.invariant in
    let found : IsFound c.args.key.now p c.in-Ok.seat = rw (c.of.ensures, c.deref.ensures, c.in-Some.is) at c.in-Ok.ensures.found in
    λ w. rw (c.deref_mut.ensures.value, c.in-Some.is) (value_whole p c.in-Ok.seat found.seated w whole)

pub returns-in-Ok : goal.returns-in-Ok
returns-in-Ok c =
    let p = c.in-Some.parts.value in
    let s = c.in-Ok.seat in
    let found : IsFound c.args.key.now p s = rw (c.of.ensures, c.deref.ensures, c.in-Some.is) at c.in-Ok.ensures.found in
    let same : c.deref_mut.result.now ≡ p = rw c.in-Some.is at c.deref_mut.ensures.value in
    let value : c.value_at_mut.result.now ≡ (row_at p s).1 = c.value_at_mut.ensures.value ∙ ap (λ q. (row_at q s).1) same in
    let written = fun_ext (λ w. found_valued c.args.key.now p s found w) in
    rw (sym c.self.view_is, c.deref_mut.ensures.value, c.in-Some.is) (
      ap (λ (f : Tree → Rows). inl (c.value_at_mut.result.ghost_name, f)) written,
      ap Some value ∙ sym (found_value c.args.key.now p s found),
    )

pub returns-in-Err : goal.returns-in-Err
returns-in-Err c =
    let p = c.in-Some.parts.value in
    let missing : IsMissing c.args.key.now p c.in-Err.field-0 = rw (c.of.ensures, c.deref.ensures, c.in-Some.is) at c.in-Err.ensures.missing in
    rw (sym c.self.view_is, c.in-Some.is) (refl, sym (missing_value c.args.key.now p c.in-Err.field-0 missing))
