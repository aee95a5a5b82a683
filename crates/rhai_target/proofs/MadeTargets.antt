-- The result for a value, as the target made from it.
use Rattle.std.proofs.Common.{◌≡◌, List, Some, None, Ok, Err, IfOk, IfErr, refl, sym, ap, ◌∙◌}
use Rattle.std.specs.Borrow.{MutBor, name_if_ok}
use Rattle.rhai_text.specs.declared.error.EvalAltResult.TheVariants.{ErrorDataRace}
use Rattle.rhai_text.specs.declared.position.TheConstants.Position as position
use Rattle.rhai_value.specs.declared.cells.store.Cell.{Cell}
use Rattle.rhai_value.specs.Tree.{Tree}
use Rattle.rhai_value.specs.End.{first_cell}
use Rattle.rhai_target.specs.declared.target.Target.TheVariants.{RefMut, SharedValue}
use Rattle.rhai_target.specs.Resolved.{Resolved, IsResolved, IsMarkedResolved, resolved_target, lent_name}
use Rattle.rhai_target.specs.Target.{made_target, target_of, IsMarkedIn}

pub found_name : (x : Resolved) → name_if_ok (λ w. w.value.ghost_name) x ≡ lent_name (resolved_target x)
found_name (Ok w) = refl
found_name (Err (Ok p)) = refl
found_name (Err (Err e)) = refl

pub found_ok : (s : List Cell) (d : MutBor Tree) (x : Resolved) → IsResolved s d x → IfOk (resolved_target x) (λ t. target_of s d ≡ Some t)
found_ok s d (Ok w) h = ap (λ o. made_target d o (first_cell s d.now)) h.0 ∙ ap (λ r. Some (RefMut r)) (sym h.1)
found_ok s d (Err (Ok p)) h = ap (λ o. made_target d o (first_cell s d.now)) h.1 ∙ ap (made_target d (Some h.0)) h.2 ∙ ap (λ v. Some (SharedValue p.token v)) (sym h.3)
found_ok s d (Err (Err e)) h = tt

pub found_err : (s : List Cell) (d : MutBor Tree) (x : Resolved) → IsResolved s d x → IfErr (resolved_target x) (λ e. (target_of s d ≡ None) × (e ≡ ErrorDataRace position.NONE))
found_err s d (Ok w) h = tt
found_err s d (Err (Ok p)) h = tt
found_err s d (Err (Err e)) h = (ap (λ o. made_target d o (first_cell s d.now)) h.1 ∙ ap (made_target d (Some h.0)) h.2, h.3)

pub found_marked : (s : List Cell) (x : Resolved) → IsMarkedResolved s x → IfOk (resolved_target x) (λ t. IsMarkedIn s t)
found_marked s (Ok w) h = tt
found_marked s (Err (Ok p)) h = h
found_marked s (Err (Err e)) h = tt
