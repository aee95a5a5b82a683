-- How the logic stores an entry: as the tuple of its fields.
use Rattle.std.specs.Prelude.{ℕ, List, refl}
use Rattle.std.specs.Coded.{Coded, code_by, coded×, coded_list, coded_ℕ}
use Rattle.rhai_value.specs.contracts.value.dynamic.Dynamic as dynamic_type
use Rattle.rhai_value.specs.Tree.{Tree}
use Rattle.rhai_scope.specs.Entry.{Entry}

abbrev pub EntryFields : Type 0
EntryFields = List ℕ × (Tree × List (List ℕ))

abbrev pub entry_code : Coded Entry
entry_code =
    code_by EntryFields (coded× (coded_list coded_ℕ) (coded× dynamic_type.the_row.coded (coded_list (coded_list coded_ℕ))))
    (λ e. (e.name, (e.value, e.aliases))) (λ p. record { name = p.0; value = p.1.0; aliases = p.1.1 }) (λ e. refl)
