-- Inserting the entries of one map into another.
use Rattle.std.specs.Prelude.{◌≡◌, [], ◌∷◌, ◌++◌, is_some, if◌then◌else◌}
use Rattle.std.specs.BTreeMap.{insert_entry, is_at}
use Rattle.std.specs.Map.{lookup}
use Rattle.rhai_value.specs.Rows.{Rows, bytes_cmp}

-- the rows after inserting each of the others
abbrev pub mixed : Rows → Rows → Rows
mixed rs [] = rs
mixed rs (e ∷ es) = mixed (insert_entry bytes_cmp rs e.0 e.1) es

-- the rows after inserting each of the others whose key is absent
abbrev pub filled : Rows → Rows → Rows
filled rs [] = rs
filled rs (e ∷ es) = filled (if is_some (lookup (is_at (bytes_cmp e.0)) rs) then rs else insert_entry bytes_cmp rs e.0 e.1) es

-- f was applied to a prefix of the others
abbrev pub IsPartly : (Rows → Rows → Rows) → Rows → Rows → Rows → Type 0
IsPartly f rs es qs = (done : Rows) × (rest : Rows) × (es ≡ done ++ rest) × (qs ≡ f rs done)
