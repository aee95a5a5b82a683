-- The effect of a call, given the outcome of its row: an operator returns it; an assignment writes
-- it where the chain of the first operand ends, and returns unit.
use Rattle.std.specs.Prelude.{◌≡◌, Bool, true, false, List, [], Result, IfOk, IfErr}
use Rattle.rhai_text.specs.declared.error.EvalAltResult.{EvalAltResult}
use Rattle.rhai_value.specs.declared.cells.store.Cell.{Cell}
use Rattle.rhai_value.specs.Tree.{Tree, node, leaf, char, text, content_of, fresh, unit}
use Rattle.rhai_value.specs.Parts.{with_content}
use Rattle.rhai_value.specs.End.{end, value_after, store_after}
use Rattle.rhai_ops.specs.declared.builtin.FnBuiltin.{FnBuiltin}
use Rattle.rhai_ops.specs.Outcome.{Outcome, IsOutcome, fault, too_large, answers, unsuited}
pub use Rattle.rhai_ops.specs.Outcome.{Second, stays, taken, Effect, operator, assignment}
use Rattle.rhai_ops.specs.Results.{rule}

-- each row's effect
abbrev pub effect : FnBuiltin → Effect
effect b = (rule b).effect

-- whether a row writes
abbrev pub writes : Effect → Bool
writes operator = false
writes (assignment q) = true

-- the value u after t was written to it: t's content with the tag and the mode of u
abbrev pub rewritten : Tree → Tree → Tree
rewritten t u = with_content (content_of t) u

-- f of the value that is the outcome of a row; otherwise, as for an error, a
abbrev pub on_value : {A : Type 0} → (Tree → A) → A → Outcome → A
on_value f a (fault g) = a
on_value f a (too_large k) = a
on_value f a (answers t) = f t
on_value f a unsuited = a

-- the result of the call
abbrev pub answered : Effect → Outcome → Outcome
answered operator o = o
answered (assignment q) o = on_value (λ t. answers (fresh unit)) o o

-- the first operand, the second one and the store s after the call
abbrev pub first_left : Effect → Outcome → List Cell → Tree → Tree
first_left operator o s x = x
first_left (assignment q) o s x = on_value (λ t. value_after (rewritten t) (end s [] x) x) x o

abbrev pub second_left : Effect → Outcome → Tree → Tree
second_left operator o y = y
second_left (assignment stays) o y = y
second_left (assignment taken) o y = on_value (λ t. fresh unit) y o

abbrev pub store_left : Effect → Outcome → List Cell → Tree → List Cell
store_left operator o s x = s
store_left (assignment q) o s x = on_value (λ t. store_after (rewritten t) (end s [] x) s) s o

-- The outcome of a row was written over x, in the store s, and nothing changed if it was an error:
-- the first operand is now y, and the store is z.
pub record IsAssigned (MayWant : Type 0) (r : Result Tree EvalAltResult) (o : Outcome) (x y : Tree) (s z : List Cell) : Type 0 where
  pub answer : IsOutcome MayWant r (answered (assignment stays) o)
  pub first : IfOk r (λ d. y ≡ first_left (assignment stays) o s x)
  pub store : IfOk r (λ d. z ≡ store_left (assignment stays) o s x)
  pub err : IfErr r (λ e. (y ≡ x) × (z ≡ s))

-- a character and an empty text
abbrev pub takes_nothing : Tree → Tree → Bool
takes_nothing (node (leaf (char c)) g m) (node (leaf (text [])) h n) = true
takes_nothing _ _ = false
