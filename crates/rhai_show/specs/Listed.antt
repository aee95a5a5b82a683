-- Texts with commas, part by part.
use Rattle.std.specs.Prelude.{ℕ, Bool, true, false, List, []}
use Rattle.std.specs.Str.{chars}
use Rattle.rhai_value.specs.Tree.{Tree}
use Rattle.rhai_show.specs.declared.form.Form.{Form}
use Rattle.rhai_show.specs.Text.{comma, joined, further, field_printed}

-- the comma before a text, unless it is the first
abbrev pub comma_unless : Bool → List ℕ
comma_unless true = []
comma_unless false = comma

-- the texts of these, separated by commas; if they aren't the first, also with a comma before them
abbrev pub listed : {A : Type 0} → (A → List ℕ) → Bool → List A → List ℕ
listed f true xs = joined f xs
listed f false xs = further f xs

-- a row of a map, whose key is bytes
abbrev pub row_printed : Form → (Tree → List ℕ) → List ℕ × Tree → List ℕ
row_printed form f r = field_printed form (chars r.0) (f r.1)
