-- Names that are returned as texts.
use Rattle.std.specs.Prelude.{◌≡◌, ℕ, zero, suc, Bool, List, slice_get, Option, None, Some, option_map, IfSome}
use Rattle.rhai_scope.specs.Items.{Named, shown_raw}
use Rattle.rhai_host.specs.declared.handle.kept.Kept.{Kept}
use Rattle.rhai_run.specs.declared.answer.Answer.TheVariants as answer
use Rattle.rhai_host.specs.declared.told.Told.{Told}
use Rattle.rhai_host.specs.Answers.{told_of}
use Rattle.rhai_host.specs.Calls.{InWorld, IsClosed, Stays}
use Rattle.rhai_host.specs.Names.{name_at}

-- the answer is the text of these characters, and is reported; or an allocation failed, or there is
-- no such name, and nothing has changed
abbrev pub IsToldText : ℕ → Kept → Kept → Option (List ℕ) → Told → Told → Type 0
IsToldText status k l None was told = (status ≡ 3) × Stays k l was told
IsToldText zero k l (Some name) was told = (l.answer ≡ answer.Text name) × (told ≡ told_of l.answer) × (l.world ≡ k.world) × (l.names ≡ k.names)
IsToldText (suc zero) k l (Some name) was told = Stays k l was told
IsToldText (suc (suc n)) k l (Some name) was told = ⊥

-- the name of a number
abbrev pub TellsName : ℕ → Option Kept → Option Kept → ℕ → Told → Told → Type 0
TellsName status None new number was told = IsClosed status new was told
TellsName status (Some k) new number was told = InWorld new (λ l. IsToldText status k l (name_at k number) was told)

-- the entry at a position: its name, whether it is a constant, where a holder counts as its cell's
-- content, and its value
abbrev pub shown_at : Kept → ℕ → Option Named
shown_at k i = option_map (shown_raw k.world.store) (slice_get k.world.entries i)

-- a flag before and after: if the name is returned, it says whether the entry is a constant,
-- otherwise it is unchanged
abbrev pub IsFlag : ℕ → Option Named → Bool → Bool → Type 0
IsFlag zero o was is = IfSome o (λ e. is ≡ e.1)
IsFlag (suc n) o was is = is ≡ was

-- the name of the entry at a position, and whether it is a constant
abbrev pub TellsEntry : ℕ → Option Kept → Option Kept → ℕ → Bool → Bool → Told → Told → Type 0
TellsEntry status None new i was is last told = IsClosed status new last told × (is ≡ was)
TellsEntry status (Some k) new i was is last told =
    InWorld new (λ l. IsToldText status k l (option_map (λ e. e.0) (shown_at k i)) last told) × IsFlag status (shown_at k i) was is
