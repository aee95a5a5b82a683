-- Components of steps on entries.
use Rattle.std.specs.Prelude.{ℕ, Bool, false, not, if◌then◌else◌, List, Option, None, is_some}
use Rattle.std.specs.Option.{option_map_or}
use Rattle.rhai_value.specs.declared.value.access_mode.AccessMode.{AccessMode}
use Rattle.rhai_value.specs.declared.value.type_id.TypeId.{TypeId}
use Rattle.rhai_value.specs.declared.value.type_id.TypeId.TheVariants as id
use Rattle.rhai_value.specs.Tree.{Tree}
use Rattle.rhai_value.specs.Types.{is_type}
use Rattle.rhai_variant.specs.Reads.{read, viewed}
use Rattle.rhai_scope.specs.Entry.{Entry, is_constant_entry, pushed}
use Rattle.rhai_scope.specs.Typed.{set_or_pushed}
use Rattle.rhai_run.specs.State.{State, with_scope, appended, moved_from}
use Rattle.rhai_run.specs.declared.answer.Answer.TheVariants.{Done, Nothing}
use Rattle.rhai_run.specs.Outcome.{Outcome, growing_if, free, growing, with_value}

-- moves the value at i, painted with a mode, into a new last entry, and leaves unit
abbrev pub moved_into_entry : (Tree → AccessMode) → State → List ℕ → ℕ → Outcome
moved_into_entry mode w name i = with_value w i (λ t. growing Done (with_scope w (pushed (mode t) name t w.entries) (moved_from w.hand i)))

-- moves the value into the entry at this position, or, if there is none, into a new one, which needs an allocation
abbrev pub set_at : Option ℕ → State → List ℕ → ℕ → Tree → Outcome
set_at o w name i t = growing_if (not (is_some o)) Done (with_scope w (set_or_pushed o name t w.entries) (moved_from w.hand i))

-- whether there is an entry and it is a constant
abbrev pub is_there_constant : Option Entry → Bool
is_there_constant o = option_map_or is_constant_entry o false

-- appends a value to the hand, if there is one
abbrev pub appended_or_nothing : State → Option Tree → Outcome
appended_or_nothing w o = option_map_or (λ t. growing Done (appended w t)) o (free Nothing w)

-- a value read as a type, and the value itself borrowed as a type; none for the type `Shared`
abbrev pub read_as : TypeId → Tree → Option Tree
read_as kind t = if is_type kind id.Shared then None else read kind t

abbrev pub viewed_as : TypeId → Tree → Option Tree
viewed_as kind t = if is_type kind id.Shared then None else viewed kind t
