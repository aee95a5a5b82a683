-- The effect of a row, given its outcome.
use Rattle.std.proofs.Common.{◌≡◌, true, false, Some, Ok, Err, refl}
use Rattle.rhai_text.specs.declared.error.EvalAltResult.{EvalAltResult}
use Rattle.rhai_text.specs.declared.error.EvalAltResult.TheVariants as error
use Rattle.rhai_text.specs.Error.{is_memory}
use Rattle.rhai_value.specs.Tree.{Tree}
use Rattle.rhai_ops.specs.Outcome.{Outcome, fault, too_large, answers, unsuited, is_answer, result_of, IsOutcome}
use Rattle.rhai_ops.specs.Effects.{Effect, operator, assignment, answered}

-- a call that fails for another reason than a failed allocation fails as the outcome says; and only
-- a value may need an allocation
pub refused_result : (M : Type 0) (o : Outcome) (e : EvalAltResult) → IsOutcome M (Err e) o → is_memory e ≡ false → result_of o ≡ Some (Err e)
refused_result M o (error.ErrorArithmetic f p) h n = rw (h.0, h.1) refl
refused_result M o (error.ErrorDataTooLarge k p) h n = rw (h.0, h.1) refl
refused_result M o (error.ErrorMemory a) h n = cc
refused_result M o (error.ErrorDataRace p) h n = absurd h
refused_result M o (error.ErrorMismatchDataType x y p) h n = absurd h

pub refused_memory : (M : Type 0) (o : Outcome) (e : EvalAltResult) → IsOutcome M (Err e) o → is_memory e ≡ true → is_answer o ≡ true
refused_memory M o (error.ErrorArithmetic f p) h n = cc
refused_memory M o (error.ErrorDataTooLarge k p) h n = cc
refused_memory M o (error.ErrorMemory a) h n = h.1
refused_memory M o (error.ErrorDataRace p) h n = absurd h
refused_memory M o (error.ErrorMismatchDataType x y p) h n = absurd h

-- a call fails if its row does, and returns if the outcome is a value
pub answered_refuses : (M : Type 0) (w : Effect) (o : Outcome) (e : EvalAltResult) → IsOutcome M (Err e) (answered w o) → IsOutcome M (Err e) o
answered_refuses M operator o e h = h
answered_refuses M (assignment q) (fault g) e h = h
answered_refuses M (assignment q) (too_large k) e h = h
answered_refuses M (assignment q) unsuited e h = h
answered_refuses M (assignment q) (answers t) (error.ErrorArithmetic f p) h = let no = h.0 in cc
answered_refuses M (assignment q) (answers t) (error.ErrorDataTooLarge k p) h = let no = h.0 in cc
answered_refuses M (assignment q) (answers t) (error.ErrorMemory a) h = h
answered_refuses M (assignment q) (answers t) (error.ErrorDataRace p) h = absurd h
answered_refuses M (assignment q) (answers t) (error.ErrorMismatchDataType x y p) h = absurd h

pub answered_value : (w : Effect) (o : Outcome) (d : Tree) → answered w o ≡ answers d → (t : Tree) × (o ≡ answers t)
answered_value operator o d h = (d, h)
answered_value (assignment q) (answers t) d h = (t, refl)
answered_value (assignment q) (fault g) d h = cc
answered_value (assignment q) (too_large k) d h = cc
answered_value (assignment q) unsuited d h = cc

pub still_answer : (w : Effect) (o : Outcome) → is_answer o ≡ true → is_answer (answered w o) ≡ true
still_answer operator o e = e
still_answer (assignment q) (answers t) e = refl
still_answer (assignment q) (fault f) e = cc
still_answer (assignment q) (too_large k) e = cc
still_answer (assignment q) unsuited e = cc
