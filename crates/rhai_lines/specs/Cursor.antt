-- The contracts of the reader of a line, and of its writer.
use Rattle.std.specs.Prelude.{◌≡◌, ℕ, ◌++◌, ⊤, Bool, true, false, List, Option, Some, None, IsSomeAnd, Result, Ok, Err, map}
use Rattle.std.specs.Borrow.{Bor}
use Rattle.std.specs.declared.alloc.AllocError.{AllocError}
use Rattle.rhai_run.specs.declared.command.Command.{Command}
use Rattle.rhai_lines.specs.declared.words.NoCommand.{NoCommand}
use Rattle.rhai_lines.specs.declared.words.NoCommand.TheVariants.{BadLine, Memory}
use Rattle.rhai_lines.specs.Words.{Left, words_of}
use Rattle.rhai_lines.specs.Vocabulary.{Word, reads}
use Rattle.rhai_lines.specs.Arguments.{Arguments, says, each_of}
use Rattle.rhai_lines.specs.Verbs.{said_by}
use Rattle.rhai_lines.specs.Memory.{takes_for, takes, takes_by, first_says}
use Rattle.rhai_lines.specs.Spelling.{IsLineOf}

-- the rest after the words read, as its bytes
abbrev pub left_in : Option (Bor (List ℕ)) → Left
left_in None = None
left_in (Some text) = Some text.now

-- the rows of a table in the code
abbrev pub rows : {A : Type 0} → List (Bor (List ℕ) × A) → List (List ℕ × A)
rows table = map (λ row. (row.0.now, row.1)) table

-- A word has the value; or it has none; or an allocation for its value failed.
abbrev pub Yields : {A : Type 0} → Result A NoCommand → Option A → (A → Bool) → Type 0
Yields (Ok a) value takes = value ≡ Some a
Yields (Err BadLine) value takes = value ≡ None
Yields (Err Memory) value takes = IsSomeAnd value (λ a. takes a ≡ true)

-- The value is read from the rest of the line, and this is left; or there is none; or an allocation
-- for the value failed.
abbrev pub Reads : {A : Type 0} → Result (A × Option (Bor (List ℕ))) NoCommand → Word A → Left → Type 0
Reads (Ok p) word left = reads word left ≡ Some (p.0, left_in p.1)
Reads (Err BadLine) word left = reads word left ≡ None
Reads (Err Memory) word left = IsSomeAnd (reads word left) (λ p. takes_for word p.0 ≡ true)

-- The rest of the line has no values; or an allocation failed where one is made.
abbrev pub Lacks : {A : Type 0} → NoCommand → Arguments A → Left → Type 0
Lacks BadLine arguments left = says arguments left ≡ None
Lacks Memory arguments left = takes arguments left ≡ true

-- The rest of the line has the values; or there are none.
abbrev pub Finds : {A : Type 0} → Result A NoCommand → Arguments A → Left → Type 0
Finds (Ok a) arguments left = says arguments left ≡ Some a
Finds (Err e) arguments left = Lacks e arguments left

-- The rest of the line has values, which the code has as a tuple and from which this command is
-- made; or there are none.
abbrev pub Makes : {T A : Type 0} → Result Command NoCommand → (T → A) → (T → Command → Type 0) → Arguments A → Left → Type 0
Makes {T} (Ok c) values IsMade arguments left = (t : T) × (says arguments left ≡ Some (values t)) × IsMade t c
Makes (Err e) values IsMade arguments left = Lacks e arguments left

-- The same for a list, each word of which is one item.
abbrev pub LacksItems : {A : Type 0} → NoCommand → (List ℕ → Option A) → Left → Type 0
LacksItems BadLine item left = each_of item (words_of left) ≡ None
LacksItems Memory item left = first_says item left ≡ true

-- The verb and the rest after it give the command; or none; or an allocation failed where one is made.
abbrev pub Says : Result Command NoCommand → List ℕ → Left → Type 0
Says (Ok c) verb left = said_by verb left ≡ Some c
Says (Err BadLine) verb left = said_by verb left ≡ None
Says (Err Memory) verb left = takes_by verb left ≡ true

-- The bytes of a value are appended, if there are any.
abbrev pub Adds : Result Bool AllocError → Option (List ℕ) → List ℕ → List ℕ → Type 0
Adds (Ok true) bytes old new = IsSomeAnd bytes (λ b. new ≡ old ++ b)
Adds (Ok false) bytes old new = bytes ≡ None
Adds (Err e) bytes old new = ⊤

-- The line of a command is appended, if there is one.
abbrev pub AddsLine : Result Bool AllocError → Command → List ℕ → List ℕ → Type 0
AddsLine (Ok true) c old new = (line : List ℕ) × IsLineOf c (Some line) × (new ≡ old ++ line)
AddsLine (Ok false) c old new = IsLineOf c None
AddsLine (Err e) c old new = ⊤
