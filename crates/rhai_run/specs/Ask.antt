-- Answers to questions about a value.
use Rattle.std.specs.Prelude.{Bool, not, ◌&&◌, [], ◌∷◌, is_some}
use Rattle.rhai_value.specs.Tree.{Tree, tag_of, cell_of, is_host}
use Rattle.rhai_value.specs.Parts.{unit_of, int_of, bool_of, char_of}
use Rattle.rhai_value.specs.End.{End, end, first, constant_in, end_type, end_name}
use Rattle.rhai_value.specs.Locked.{is_locked}
use Rattle.rhai_value.specs.Types.{is_type}
use Rattle.rhai_value.specs.declared.value.type_id.TypeId.{TypeId}
use Rattle.rhai_value.specs.declared.value.type_id.TypeId.TheVariants as id
use Rattle.rhai_cast.specs.Casts.{is_of}
use Rattle.rhai_show.specs.Plain.{plain}
use Rattle.rhai_run.specs.declared.command.Question.{Question}
use Rattle.rhai_run.specs.declared.command.Question.TheVariants as question
use Rattle.rhai_run.specs.State.{State}
use Rattle.rhai_run.specs.declared.answer.Answer.TheVariants as answer
use Rattle.rhai_run.specs.Outcome.{Outcome, free, growing, of_held}

-- whether a value is of a type; none is of the type `Shared`
abbrev pub is_value_of : TypeId → Tree → End → Bool
is_value_of kind t e = not (is_type kind id.Shared) && is_of kind t e

-- the first five questions are about the value itself, the others about the held value
abbrev pub asked : State → Tree → Question → Outcome
asked w t question.Tag = free (answer.Int (tag_of t)) w
asked w t question.Variant = free (answer.Bool (is_host t)) w
asked w t question.Shared = free (answer.Bool (is_some (cell_of t))) w
asked w t question.ReadOnly = free (answer.Bool (constant_in (first w.store t))) w
asked w t question.Locked = free (answer.Bool (is_locked w.store t)) w
asked w t question.TypeName = growing (answer.Text (end_name (end w.store [] t))) w
asked w t (question.Held kind) = free (answer.Bool (is_type kind (end_type (end w.store [] t)))) w
asked w t question.Hashable = growing (answer.Bool (is_some (plain w.store [] t))) w
asked w t (question.Is kind) = free (answer.Bool (is_value_of kind t (end w.store [] t))) w
asked w t question.Unit = of_held w unit_of (end w.store [] t) (λ u. free answer.Done w)
asked w t question.Int = of_held w int_of (end w.store [] t) (λ n. free (answer.Int n) w)
asked w t question.Bool = of_held w bool_of (end w.store [] t) (λ b. free (answer.Bool b) w)
asked w t question.Char = of_held w char_of (end w.store [] t) (λ c. growing (answer.Text (c ∷ [])) w)
