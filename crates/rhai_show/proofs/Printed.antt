-- The text of a value by its parts.
use Rattle.std.proofs.Common.{◌≡◌, ℕ, ℤ, Bool, true, false, Option, ◌++◌, [], ◌∷◌, List, map, Result, OnOk, Some, None, IfSome, codes, refl, sym, ap, ap₂, ◌∙◌, subst}
use Rattle.std.specs.Str.{chars}
use Rattle.rhai_value.specs.declared.value.access_mode.AccessMode.{AccessMode}
use Rattle.rhai_value.specs.declared.cells.store.Cell.{Cell}
use Rattle.rhai_value.specs.Rows.{Rows, trees_of, fields_of}
use Rattle.rhai_value.specs.Store.{at}
use Rattle.rhai_value.specs.Tree.{Tree, node, Leaf, leaf, branch, fields, holder, array, function, cell_of}
use Rattle.rhai_value.specs.Walk.{Visit, entered, barred, revisited, is_open, visit, visit_of, visit_map, opened, entry}
use Rattle.rhai_value.proofs.ForCallers.{walk_opens}
use Rattle.rhai_show.proofs.Commas.{joined-map, further-map}
use Rattle.rhai_show.proofs.Pushed.{added_as}
use Rattle.rhai_show.specs.declared.form.Form.{Form}
use Rattle.rhai_show.specs.declared.form.Form.TheVariants.{Debug}
use Rattle.rhai_show.specs.Leaves.{in_debug, leaf_printed}
use Rattle.rhai_show.specs.Text.{joined, further, item_form, content_form, field_printed, name_printed, holder_printed, printed_of, all_printed, fields_printed, printed}
use Rattle.rhai_show.specs.Listed.{row_printed}

-- the result for the cell of each holder
abbrev pub within : List Cell → List ℕ → ℕ → Visit (Form → List ℕ)
within s path c = visit_map (printed s (c ∷ path)) (visit s path c)

pub printed_opens : (s : List Cell) (path : List ℕ) (t : Tree) → printed s path t ≡ printed_of path (λ c. visit_map (printed s (c ∷ path)) (visit s path c)) t
unfolding printed
printed_opens s path t = walk_opens printed_of s path t

-- a value by its content
by_parts : (s : List Cell) (path : List ℕ) (t u : Tree) (form : Form) → t ≡ u → printed s path t form ≡ printed_of path (within s path) u form
by_parts s path t u form e = ap (λ x. printed s path x form) e ∙ ap (λ f. f form) (printed_opens s path u)

closed_text : (o : Visit Tree) (form : Form) (go : Tree → Form → List ℕ) → None ≡ opened o → codes "<shared>" ≡ holder_printed form (visit_map go o)
closed_text (entered t) form go e = cc
closed_text barred form go e = refl
closed_text revisited form go e = refl

open_text : (o : Visit Tree) (form : Form) (go : Tree → Form → List ℕ) (t : Tree) → Some t ≡ opened o → go t (content_form form) ++ codes " (shared)" ≡ holder_printed form (visit_map go o)
open_text (entered u) form go t e = let same : t ≡ u = cc in ap (λ x. go x (content_form form) ++ codes " (shared)") same
open_text barred form go t e = cc
open_text revisited form go t e = cc

-- a holder whose cell doesn't open, and one whose cell does
pub printed-closed : (s : List Cell) (path : List ℕ) (t : Tree) (form : Form) (c : ℕ) (g : ℤ) (m : AccessMode) → t ≡ node (holder c) g m → None ≡ entry s path t → codes "<shared>" ≡ printed s path t form
printed-closed s path t form c g m e none = closed_text (visit s path c) form _ (none ∙ ap (entry s path) e) ∙ sym (by_parts s path t (node (holder c) g m) form e)

pub printed-opened : (s : List Cell) (path next : List ℕ) (t u : Tree) (form : Form) (c : ℕ) (g : ℤ) (m : AccessMode) → t ≡ node (holder c) g m → Some u ≡ entry s path t → IfSome (cell_of t) (λ k. next ≡ k ∷ path)
    → printed s next u (content_form form) ++ codes " (shared)" ≡ printed s path t form
printed-opened s path next t u form c g m e some is =
    let opens : next ≡ c ∷ path = subst (λ x. IfSome (cell_of x) (λ k. next ≡ k ∷ path)) e is in
    ap (λ p. printed s p u (content_form form) ++ codes " (shared)") opens ∙ open_text (visit s path c) form _ u (some ∙ ap (entry s path) e) ∙ sym (by_parts s path t (node (holder c) g m) form e)

-- appends the text of a leaf, which is that of the value
pub added_leaf : {A E : Type 0} (r : Result A E) (new old : List ℕ) (s : List Cell) (path : List ℕ) (t : Tree) (form : Form) (l : Leaf) (g : ℤ) (m : AccessMode) → t ≡ node (leaf l) g m → OnOk r (new ≡ old ++ leaf_printed form l) → OnOk r (new ≡ old ++ printed s path t form)
added_leaf r new old s path t form l g m e h = added_as r new old (leaf_printed form l) (printed s path t form) (sym (by_parts s path t (node (leaf l) g m) form e)) h

pub leaf-added : (new old : List ℕ) (s : List Cell) (path : List ℕ) (t : Tree) (form : Form) (l : Leaf) (g : ℤ) (m : AccessMode) → t ≡ node (leaf l) g m → new ≡ old ++ leaf_printed form l → new ≡ old ++ printed s path t form
leaf-added new old s path t form l g m e h = h ∙ ap (λ x. old ++ x) (sym (by_parts s path t (node (leaf l) g m) form e))

-- the texts of children, and those of a map's fields
module _ (s : List Cell) (path : List ℕ) where
  each_printed : (xs : List Tree) → map (printed s path) xs ≡ all_printed path (within s path) (trees_of xs)
  each_printed [] = refl
  each_printed (x ∷ xs) = ap₂ (λ v vs. v ∷ vs) (printed_opens s path x) (each_printed xs)

  abbrev row_text : List ℕ × Tree → Form → List ℕ
  row_text r form = row_printed form (λ u. printed s path u form) r

  rows_printed : (rs : Rows) → map row_text rs ≡ fields_printed path (within s path) (fields_of rs)
  rows_printed [] = refl
  rows_printed (r ∷ rs) = ap₂ (λ v vs. (λ form. field_printed form (chars r.0) (v form)) ∷ vs) (printed_opens s path r.1) (rows_printed rs)

  -- arrays, maps and function pointers
  pub printed-array : (t : Tree) (form own : Form) (xs items : List Tree) (g : ℤ) (m : AccessMode) → t ≡ node (branch array (trees_of items)) g m → own ≡ item_form form → xs ≡ items
      → codes "[" ++ joined (λ u. printed s path u own) xs ++ codes "]" ≡ printed s path t form
  printed-array t form own xs items g m e same all =
      ap₂ (λ f ys. codes "[" ++ joined (λ u. printed s path u f) ys ++ codes "]") same all
      ∙ ap (λ x. codes "[" ++ x ++ codes "]") (sym (joined-map (λ v. v (item_form form)) (printed s path) items) ∙ ap (joined (λ v. v (item_form form))) (each_printed items))
      ∙ sym (by_parts s path t (node (branch array (trees_of items)) g m) form e)

  pub printed-map : (t : Tree) (form own : Form) (rs : Rows) (g : ℤ) (m : AccessMode) → t ≡ node (fields (fields_of rs)) g m → own ≡ item_form form
      → codes "#{" ++ joined (row_printed own (λ u. printed s path u own)) rs ++ codes "}" ≡ printed s path t form
  printed-map t form own rs g m e same =
      ap (λ f. codes "#{" ++ joined (row_printed f (λ u. printed s path u f)) rs ++ codes "}") same
      ∙ ap (λ x. codes "#{" ++ x ++ codes "}") (sym (joined-map (λ v. v (item_form form)) row_text rs) ∙ ap (joined (λ v. v (item_form form))) (rows_printed rs))
      ∙ sym (by_parts s path t (node (fields (fields_of rs)) g m) form e)

  pub printed-function : (t : Tree) (form : Form) (f : List ℕ) (items : List Tree) (g : ℤ) (m : AccessMode) → t ≡ node (branch (function f) (trees_of items)) g m
      → codes "Fn(" ++ name_printed form f ++ in_debug form (further (λ u. printed s path u Debug) items) [] ++ codes ")" ≡ printed s path t form
  printed-function t form f items g m e =
      ap (λ x. codes "Fn(" ++ name_printed form f ++ in_debug form x [] ++ codes ")") (sym (further-map (λ v. v Debug) (printed s path) items) ∙ ap (further (λ v. v Debug)) (each_printed items))
      ∙ sym (by_parts s path t (node (branch (function f) (trees_of items)) g m) form e)

-- the text of a value, kind by kind
module _ (s : List Cell) (path : List ℕ) (form : Form) (g : ℤ) (m : AccessMode) where
  pub leaf_text : (l : Leaf) → printed s path (node (leaf l) g m) form ≡ leaf_printed form l
  leaf_text l = by_parts s path (node (leaf l) g m) (node (leaf l) g m) form refl

  pub array_text : (items : List Tree) → printed s path (node (branch array (trees_of items)) g m) form ≡ codes "[" ++ joined (λ u. printed s path u (item_form form)) items ++ codes "]"
  array_text items = sym (printed-array s path (node (branch array (trees_of items)) g m) form (item_form form) items items g m refl refl refl)

  pub map_text : (rows : Rows) → printed s path (node (fields (fields_of rows)) g m) form ≡ codes "#{" ++ joined (row_printed (item_form form) (λ u. printed s path u (item_form form))) rows ++ codes "}"
  map_text rows = sym (printed-map s path (node (fields (fields_of rows)) g m) form (item_form form) rows g m refl refl)

  pub function_text : (name : List ℕ) (curry : List Tree) → printed s path (node (branch (function name) (trees_of curry)) g m) form ≡ codes "Fn(" ++ name_printed form name ++ in_debug form (further (λ u. printed s path u Debug) curry) [] ++ codes ")"
  function_text name curry = sym (printed-function s path (node (branch (function name) (trees_of curry)) g m) form name curry g m refl)

  holder_text : (c : ℕ) (o : Option Tree) (b : Bool) → at s c ≡ o → is_open c path ≡ b → printed s path (node (holder c) g m) form ≡ holder_printed form (visit_map (printed s (c ∷ path)) (visit_of o b))
  holder_text c o b some again =
      by_parts s path (node (holder c) g m) (node (holder c) g m) form refl
      ∙ ap₂ (λ x y. holder_printed form (visit_map (printed s (c ∷ path)) (visit_of x y))) some again

  pub opened_text : (c : ℕ) (u : Tree) → at s c ≡ Some u → is_open c path ≡ false → printed s path (node (holder c) g m) form ≡ printed s (c ∷ path) u (content_form form) ++ codes " (shared)"
  opened_text c u some fresh = holder_text c (Some u) false some fresh

  pub barred_text : (c : ℕ) → at s c ≡ None → printed s path (node (holder c) g m) form ≡ codes "<shared>"
  barred_text c none = holder_text c None (is_open c path) none refl

  pub revisited_text : (c : ℕ) (u : Tree) → at s c ≡ Some u → is_open c path ≡ true → printed s path (node (holder c) g m) form ≡ codes "<shared>"
  revisited_text c u some again = holder_text c (Some u) true some again
