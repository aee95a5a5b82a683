-- Texts, bytes and items of entries that are equal up to a renaming of cells.
use mathlib.Core.List.{reverse_aux}
use Rattle.std.proofs.Common.{◌≡◌, ℕ, suc, List, [], ◌∷◌, ◌++◌, map, reverse, Option, Some, None, option_map, refl, ap, ap₂, ◌∙◌}
use Rattle.std.specs.List.{AllZip, flat_map}
use Rattle.rhai_value.specs.declared.cells.store.Cell.{Cell}
use Rattle.rhai_value.specs.End.{first, flat, constant_in}
use Rattle.rhai_value.specs.Relation.{Renaming, Related, Alike, IsOneToOne, RelatedCells}
use Rattle.rhai_value.specs.Tree.{Tree, is_constant}
use Rattle.rhai_value.proofs.ForCallers.{same_first, same_flat, same_mode, zip_length}
use Rattle.rhai_show.proofs.ForCallers.{same_plain, same_printed}
use Rattle.rhai_show.specs.declared.form.Form.TheVariants.{Debug}
use Rattle.rhai_show.specs.HashBytes.{count_bytes}
use Rattle.rhai_show.specs.Plain.{plain}
use Rattle.rhai_show.specs.Text.{printed}
use Rattle.rhai_scope.specs.Entry.{Entry}
use Rattle.rhai_scope.specs.Items.{Named, shown_raw, shown_flat, flat_values}
use Rattle.rhai_scope.specs.NamesText.{name_line, named_line, names_text}
use Rattle.rhai_scope.specs.Relation.{RelatedEntry, RelatedEntries, RelatedNamed}
use Rattle.rhai_scope.specs.ScopeBytes.{plain_entry_bytes, entry_bytes, both_bytes, entries_bytes, scope_bytes}
use Rattle.rhai_scope.proofs.SameEntries.{same_map}
use Rattle.rhai_scope.specs.ScopeText.{line, entry_line, lines_from, scope_text}

constant_alike : (r : Renaming) (o p : Option Tree) → Alike (Related r) o p → constant_in o ≡ constant_in p
constant_alike r None None h = refl
constant_alike r (Some t) (Some u) h = ap is_constant (same_mode r t u h)
constant_alike r None (Some u) h = absurd h
constant_alike r (Some t) None h = absurd h

zip_onto : {A B : Type 0} (R : A → B → Type 0) (xs us : List A) (ys vs : List B) → AllZip R xs ys → AllZip R us vs → AllZip R (reverse_aux xs us) (reverse_aux ys vs)
zip_onto R [] us [] vs h k = k
zip_onto R (x ∷ xs) us (y ∷ ys) vs h k = zip_onto R xs (x ∷ us) ys (y ∷ vs) h.1 (h.0, k)
zip_onto R [] us (y ∷ ys) vs h k = absurd h
zip_onto R (x ∷ xs) us [] vs h k = absurd h

zip_reverse : {A B : Type 0} (R : A → B → Type 0) (xs : List A) (ys : List B) → AllZip R xs ys → AllZip R (reverse xs) (reverse ys)
zip_reverse R xs ys h = zip_onto R xs [] ys [] h tt

module _ (r : Renaming) where
  same_named_line : (x y : Named) → RelatedNamed r x y → named_line x ≡ named_line y
  same_named_line x y h = ap₂ name_line h.1 h.0

  same_lines_of : (xs ys : List Named) → AllZip (RelatedNamed r) xs ys → flat_map named_line xs ≡ flat_map named_line ys
  same_lines_of [] [] h = refl
  same_lines_of (x ∷ xs) (y ∷ ys) h = ap₂ ◌++◌ (same_named_line x y h.0) (same_lines_of xs ys h.1)
  same_lines_of [] (y ∷ ys) h = absurd h
  same_lines_of (x ∷ xs) [] h = absurd h

module _ (r : Renaming) (s z : List Cell) (one : IsOneToOne r) (cells : RelatedCells r s z) where
  same_flag : (e f : Entry) → RelatedEntry r e f → constant_in (first s e.value) ≡ constant_in (first z f.value)
  same_flag e f h = constant_alike r (first s e.value) (first z f.value) (same_first r s z cells e.value f.value h.2)

  pub same_shown_raw : (e f : Entry) → RelatedEntry r e f → RelatedNamed r (shown_raw s e) (shown_raw z f)
  same_shown_raw e f h = (h.0, same_flag e f h, h.2)

  pub same_shown_flat : (e f : Entry) → RelatedEntry r e f → RelatedNamed r (shown_flat s e) (shown_flat z f)
  same_shown_flat e f h = (h.0, same_flag e f h, same_flat r s z e.value f.value one cells h.2)

  pub same_flat_values : (es fs : List Entry) → RelatedEntries r es fs → AllZip (Related r) (flat_values s es) (flat_values z fs)
  same_flat_values es fs h = same_map (RelatedEntry r) (Related r) (λ e. flat s e.value) (λ e. flat z e.value) (λ e f k. same_flat r s z e.value f.value one cells k.2) es fs h

  pub same_names_text : (es fs : List Entry) → RelatedEntries r es fs → names_text s es ≡ names_text z fs
  same_names_text es fs h = same_lines_of r (map (shown_raw s) (reverse es)) (map (shown_raw z) (reverse fs))
      (same_map (RelatedEntry r) (RelatedNamed r) (shown_raw s) (shown_raw z) same_shown_raw (reverse es) (reverse fs) (zip_reverse (RelatedEntry r) es fs h))

  same_line : (i : ℕ) (e f : Entry) → RelatedEntry r e f → entry_line s i e ≡ entry_line z i f
  same_line i e f h =
      ap₂ (λ b n. line i b n (printed s [] e.value Debug)) (same_flag e f h) h.0
      ∙ ap (λ t. line i (constant_in (first z f.value)) f.name (t Debug)) (same_printed r s z e.value f.value one cells h.2)

  same_lines : (i : ℕ) (es fs : List Entry) → RelatedEntries r es fs → lines_from s i es ≡ lines_from z i fs
  same_lines i [] [] h = refl
  same_lines i (e ∷ es) (f ∷ fs) h = ap₂ ◌++◌ (same_line i e f h.0) (same_lines (suc i) es fs h.1)
  same_lines i [] (f ∷ fs) h = absurd h
  same_lines i (e ∷ es) [] h = absurd h

  pub same_text : (es fs : List Entry) → RelatedEntries r es fs → scope_text s es ≡ scope_text z fs
  same_text es fs h = same_lines 1 es fs h

  same_entry_bytes : (e f : Entry) → RelatedEntry r e f → entry_bytes s e ≡ entry_bytes z f
  same_entry_bytes e f h =
      ap (option_map (plain_entry_bytes e)) (same_plain r s z e.value f.value one cells h.2)
      ∙ ap₂ (λ n bs. option_map (plain_entry_bytes (record { name = n; value = f.value; aliases = bs })) (plain z [] f.value)) h.0 h.1

  same_entries_bytes : (es fs : List Entry) → RelatedEntries r es fs → entries_bytes s es ≡ entries_bytes z fs
  same_entries_bytes [] [] h = refl
  same_entries_bytes (e ∷ es) (f ∷ fs) h = ap₂ both_bytes (same_entry_bytes e f h.0) (same_entries_bytes es fs h.1)
  same_entries_bytes [] (f ∷ fs) h = absurd h
  same_entries_bytes (e ∷ es) [] h = absurd h

  pub same_bytes : (es fs : List Entry) → RelatedEntries r es fs → scope_bytes s es ≡ scope_bytes z fs
  same_bytes es fs h = ap₂ (λ n o. both_bytes (Some (count_bytes n)) o) (zip_length (RelatedEntry r) es fs h) (same_entries_bytes es fs h)
