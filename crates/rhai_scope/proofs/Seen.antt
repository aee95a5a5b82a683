-- Names that pass a filter, entry by entry from the last one on.
use Rattle.std.proofs.Common.{◌≡◌, ℕ, suc, ◌<◌, Bool, true, false, List, length, drop, get_or, Some, None, refl, sym, ap, ◌∙◌}
use Rattle.std.proofs.lemmas.Bool.{false≢true}
use Rattle.std.proofs.lemmas.Str.{encodes-chars}
use Rattle.std.specs.Str.{chars, encode_utf8_all, IsUtf8}
use Rattle.rhai_scope.specs.Entry.{Entry}
use Rattle.rhai_scope.specs.Lookup.{last_position}
use Rattle.rhai_scope.specs.NameFilter.{passes}
use Rattle.rhai_scope.specs.declared.name_filter.NameFilter.{NameFilter}
use Rattle.rhai_scope.proofs.Found.{found_here, not_here, other, same}

-- each name of these entries passes
abbrev pub NamesPass : NameFilter → List Entry → Type 0
NamesPass m es = (q : List ℕ) → IsUtf8 q → passes m q ≡ false → last_position (chars q) es ≡ None

module _ (es : List Entry) (i : ℕ) (e : Entry) (l : i < length es) (is : e ≡ get_or es i e) (text : List ℕ) (u : IsUtf8 text) (named : chars text ≡ e.name) where
  -- a name that doesn't pass is the last of its name
  pub is_last : (m : NameFilter) → NamesPass m (drop (suc i) es) → passes m text ≡ false → last_position (chars text) es ≡ Some i
  is_last m behind none = found_here (chars text) es i e l is (same e.name (chars text) (sym named)) (behind text u none)

  -- its name passes too
  pub one_more : (m n : NameFilter) → NamesPass m (drop (suc i) es) → passes n text ≡ true → ((q : List ℕ) → passes n q ≡ false → passes m q ≡ false) → NamesPass n (drop i es)
  one_more m n behind here kept = λ q v none.
      not_here (chars q) es i e l is
      (other e.name (chars q) (λ alike.
      let texts : text ≡ q = sym (encodes-chars text u) ∙ ap encode_utf8_all (named ∙ alike) ∙ encodes-chars q v in
      false≢true (sym none ∙ ap (passes n) (sym texts) ∙ here)))
      (behind q v (kept q none))

  -- a name of a hidden entry already passes
  pub hidden_passes : (m : NameFilter) → NamesPass m (drop (suc i) es) → (last_position (chars text) es ≡ Some i → ⊥) → passes m text ≡ true
  hidden_passes m behind hidden = at (passes m text) refl
    where
      at : (b : Bool) → passes m text ≡ b → passes m text ≡ true
      at true is_so = is_so
      at false none = absurd (hidden (is_last m behind none))
