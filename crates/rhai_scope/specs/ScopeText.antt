-- The printed text of a scope.
use Rattle.std.specs.Prelude.{ℕ, suc, Bool, true, false, List, [], ◌∷◌, ◌++◌, codes}
use Rattle.std.specs.Fmt.{decimal}
use Rattle.rhai_value.specs.declared.cells.store.Cell.{Cell}
use Rattle.rhai_value.specs.End.{first, constant_in}
use Rattle.rhai_show.specs.Text.{printed}
use Rattle.rhai_show.specs.declared.form.Form.TheVariants.{Debug}
use Rattle.rhai_scope.specs.Entry.{Entry}

-- the text before the name of a constant
abbrev pub constant_mark : Bool → List ℕ
constant_mark true = codes "const "
constant_mark false = []

-- a line: a number, whether it is a constant, a name and a text
abbrev pub line : ℕ → Bool → List ℕ → List ℕ → List ℕ
line i b name text = codes "[" ++ decimal i ++ codes "] " ++ constant_mark b ++ name ++ codes " = " ++ text ++ codes "\n"

-- the line of an entry; a holder is a constant if its cell's content is
abbrev pub entry_line : List Cell → ℕ → Entry → List ℕ
entry_line s i e = line i (constant_in (first s e.value)) e.name (printed s [] e.value Debug)

-- a line for each entry, numbered from this number
abbrev pub lines_from : List Cell → ℕ → List Entry → List ℕ
lines_from s i [] = []
lines_from s i (e ∷ es) = entry_line s i e ++ lines_from s (suc i) es

-- the entries are counted from 1
abbrev pub scope_text : List Cell → List Entry → List ℕ
scope_text s es = lines_from s 1 es
