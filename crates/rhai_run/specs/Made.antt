-- The values that commands make.
use Rattle.std.specs.Prelude.{ℕ, List, [], ◌∷◌, map}
use Rattle.std.specs.BTreeMap.{insert_entry}
use Rattle.std.specs.Str.{encode_utf8_all}
use Rattle.rhai_value.specs.declared.value.host.Host.TheVariants as host_kind
use Rattle.rhai_value.specs.Tree.{Tree, fresh, unit, bool, int, char, text, blob, host}
use Rattle.rhai_value.specs.Rows.{Rows, bytes_cmp}
use Rattle.rhai_run.specs.declared.command.Literal.{Literal}
use Rattle.rhai_run.specs.declared.command.Literal.TheVariants as literal

-- the value of a literal
abbrev pub literal_tree : Literal → Tree
literal_tree literal.Unit = fresh unit
literal_tree (literal.Bool b) = fresh (bool b)
literal_tree (literal.Int n) = fresh (int n)
literal_tree (literal.Char c) = fresh (char c)
literal_tree (literal.Text s) = fresh (text s)
literal_tree (literal.Blob bytes) = fresh (blob bytes)
literal_tree (literal.Host h) = fresh (host h)
literal_tree (literal.Range r) = fresh (host (host_kind.ExclusiveRange r))
literal_tree (literal.RangeEq r) = fresh (host (host_kind.InclusiveRange r))

-- the rows after each key is set to its value, one after another
abbrev pub rows_with : Rows → List (List ℕ) → List Tree → Rows
rows_with rs [] ts = rs
rows_with rs (k ∷ ks) [] = rs
rows_with rs (k ∷ ks) (t ∷ ts) = rows_with (insert_entry bytes_cmp rs (encode_utf8_all k) t) ks ts

-- the rows of the keys, each with unit
abbrev pub rows_of_keys : List (List ℕ) → Rows
rows_of_keys ks = rows_with [] ks (map (λ k. fresh unit) ks)
