-- The outcome of a call of a row.
use Rattle.std.specs.Prelude.{◌≡◌, ℕ, Bool, true, false, ◌||◌, nat_eq, nat_le, List, length, Option, Some, None, Result, Ok, Err, if◌then◌else◌}
use Rattle.std.specs.Option.{option_map_or, unwrap_or}
use Rattle.std.specs.Str.{encode_utf8_all}
use Rattle.rhai_text.specs.declared.error.ArithmeticFault.{ArithmeticFault}
use Rattle.rhai_text.specs.declared.error.EvalAltResult.{EvalAltResult}
use Rattle.rhai_text.specs.declared.error.EvalAltResult.TheVariants.{ErrorArithmetic, ErrorDataTooLarge, ErrorMemory, ErrorDataRace, ErrorMismatchDataType}
use Rattle.rhai_text.specs.declared.error.SizeKind.{SizeKind}
use Rattle.rhai_text.specs.declared.error.SizeKind.TheVariants as size
use Rattle.rhai_text.specs.declared.limits.Limits.{Limits}
use Rattle.rhai_text.specs.declared.position.Position.{Position}
use Rattle.rhai_value.specs.Tree.{Tree, fresh, bool, int, text, blob, mode_of}
use Rattle.rhai_value.specs.declared.value.access_mode.AccessMode.TheVariants.{ReadWrite}
use Rattle.rhai_value.specs.Relation.{Renaming, Related}
use Rattle.rhai_ops.specs.Numbers.{Number}

-- A row gives an error or a value. For operands that the row isn't for there is no outcome.
pub data Outcome : Type 0 where
  fault : ArithmeticFault → Outcome
  too_large : SizeKind → Outcome
  answers : Tree → Outcome
  unsuited : Outcome

-- the second operand of an assignment is unchanged, or replaced by unit
pub data Second : Type 0 where
  stays : Second
  taken : Second

-- a row is one of an operator, or of an assignment, with its effect on the second operand
pub data Effect : Type 0 where
  operator : Effect
  assignment : Second → Effect

-- the result of f on two contents, if both exist; and its outcome, if f has one
abbrev pub of_both : {A B C : Type 0} → (A → B → C) → Option A → Option B → Option C
of_both f (Some a) (Some b) = Some (f a b)
of_both f (Some a) None = None
of_both f None b = None

abbrev pub both : {A B : Type 0} → (A → B → Outcome) → Option A → Option B → Outcome
both f o p = unwrap_or (of_both f o p) unsuited

-- a number, or why there is none
abbrev pub number_answer : Option Number → Outcome
number_answer (Some (Ok n)) = answers (fresh (int n))
number_answer (Some (Err f)) = fault f
number_answer None = unsuited

abbrev pub bool_answer : Option Bool → Outcome
bool_answer o = option_map_or (λ b. answers (fresh (bool b))) o unsuited

-- whether a length is allowed: a limit of 0 means none, and a length equal to the limit is allowed
abbrev pub is_allowed : ℕ → ℕ → Bool
is_allowed limit n = nat_eq limit 0 || nat_le n limit

-- a text whose bytes the limit allows, and a blob whose bytes the limit allows
abbrev pub limited_text : Limits → List ℕ → Outcome
limited_text l t = if is_allowed l.text (length (encode_utf8_all t)) then answers (fresh (text t)) else too_large size.Text

abbrev pub limited_blob : Limits → List ℕ → Outcome
limited_blob l bs = if is_allowed l.items (length bs) then answers (fresh (blob bs)) else too_large size.Items

abbrev pub no_place : Position
no_place = record { line = 0; position = 0 }

abbrev pub is_answer : Outcome → Bool
is_answer (fault f) = false
is_answer (too_large k) = false
is_answer (answers t) = true
is_answer unsuited = false

-- the outcome of a row as a result, each error at no position; none if the operands aren't those of the row
abbrev pub result_of : Outcome → Option (Result Tree EvalAltResult)
result_of (fault f) = Some (Err (ErrorArithmetic f no_place))
result_of (too_large k) = Some (Err (ErrorDataTooLarge k no_place))
result_of (answers t) = Some (Ok t)
result_of unsuited = None

-- the outcome of a row is an error, or a value that isn't a constant
abbrev pub IsSuited : Outcome → Type 0
IsSuited (fault f) = Unit {0}
IsSuited (too_large k) = Unit {0}
IsSuited (answers t) = mode_of t ≡ ReadWrite
IsSuited unsuited = ⊥

-- The result of a call is that of the outcome, each error at no position. A failed allocation is
-- possible only in place of a value, and only if the row may allocate.
abbrev pub IsOutcome : Type 0 → Result Tree EvalAltResult → Outcome → Type 0
IsOutcome MayWant (Ok d) o = o ≡ answers d
IsOutcome MayWant (Err (ErrorArithmetic f p)) o = (o ≡ fault f) × (p ≡ no_place)
IsOutcome MayWant (Err (ErrorDataTooLarge k p)) o = (o ≡ too_large k) × (p ≡ no_place)
IsOutcome MayWant (Err (ErrorMemory e)) o = MayWant × (is_answer o ≡ true)
IsOutcome MayWant (Err (ErrorDataRace p)) o = ⊥
IsOutcome MayWant (Err (ErrorMismatchDataType wanted found p)) o = ⊥

-- the same outcomes up to a renaming of cells
abbrev pub RelatedOutcomes : Renaming → Outcome → Outcome → Type 0
RelatedOutcomes r (fault f) (fault g) = f ≡ g
RelatedOutcomes r (too_large k) (too_large j) = k ≡ j
RelatedOutcomes r (answers t) (answers u) = Related r t u
RelatedOutcomes r unsuited unsuited = Unit {0}
RelatedOutcomes r _ _ = ⊥
