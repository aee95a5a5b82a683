-- A look-up, an insertion and a removal in a list whose parts are less and greater than the key.
use Rattle.std.proofs.Common.{◌≡◌, List, [], ◌∷◌, ◌++◌, Some, None, Ordering, Equal, refl, ap, ◌∙◌}
use Rattle.std.specs.BTreeMap.{insert_entry, is_at}
use Rattle.std.specs.Map.{lookup, remove_entry, set_value}
use Rattle.rhai_value.specs.Lists.{AreBelow, AreAbove}

module _ {K X : Type 0} (R : K → K → Ordering) (k : K) where
  -- ---- the items less than the key have no effect

  pub lookup_right : (xs ys : List (K × X)) → AreBelow R k xs → lookup (is_at (R k)) (xs ++ ys) ≡ lookup (is_at (R k)) ys
  lookup_right [] ys h = refl
  lookup_right (e ∷ es) ys h = rw h.0 (lookup_right es ys h.1)

  pub insert_right : (xs ys : List (K × X)) (v : X) → AreBelow R k xs → insert_entry R (xs ++ ys) k v ≡ xs ++ insert_entry R ys k v
  insert_right [] ys v h = refl
  insert_right (e ∷ es) ys v h = rw h.0 (ap (λ l. e ∷ l) (insert_right es ys v h.1))

  pub remove_right : (xs ys : List (K × X)) → AreBelow R k xs → remove_entry (is_at (R k)) (xs ++ ys) ≡ xs ++ remove_entry (is_at (R k)) ys
  remove_right [] ys h = refl
  remove_right (e ∷ es) ys h = rw h.0 (ap (λ l. e ∷ l) (remove_right es ys h.1))

  pub set_right : (xs ys : List (K × X)) (w : X) → AreBelow R k xs → set_value (is_at (R k)) (xs ++ ys) w ≡ xs ++ set_value (is_at (R k)) ys w
  set_right [] ys w h = refl
  set_right (e ∷ es) ys w h = rw h.0 (ap (λ l. e ∷ l) (set_right es ys w h.1))

  -- ---- nor have the greater ones

  pub lookup_above : (ys : List (K × X)) → AreAbove R k ys → lookup (is_at (R k)) ys ≡ None
  lookup_above [] h = refl
  lookup_above (e ∷ es) h = rw h.0 (lookup_above es h.1)

  pub insert_above : (ys : List (K × X)) (v : X) → AreAbove R k ys → insert_entry R ys k v ≡ (k, v) ∷ ys
  insert_above [] v h = refl
  insert_above (e ∷ es) v h = rw h.0 refl

  pub remove_above : (ys : List (K × X)) → AreAbove R k ys → remove_entry (is_at (R k)) ys ≡ ys
  remove_above [] h = refl
  remove_above (e ∷ es) h = rw h.0 (ap (λ l. e ∷ l) (remove_above es h.1))

  -- ---- at an index

  pub lookup_hit : (xs ys : List (K × X)) (e : K × X) → AreBelow R k xs → R k e.0 ≡ Equal → lookup (is_at (R k)) (xs ++ e ∷ ys) ≡ Some e.1
  lookup_hit xs ys e h is = lookup_right xs (e ∷ ys) h ∙ rw is refl

  pub lookup_gap : (xs ys : List (K × X)) → AreBelow R k xs → AreAbove R k ys → lookup (is_at (R k)) (xs ++ ys) ≡ None
  lookup_gap xs ys h g = lookup_right xs ys h ∙ lookup_above ys g

  pub insert_hit : (xs ys : List (K × X)) (e : K × X) (v : X) → AreBelow R k xs → R k e.0 ≡ Equal → insert_entry R (xs ++ e ∷ ys) k v ≡ xs ++ (e.0, v) ∷ ys
  insert_hit xs ys e v h is = insert_right xs (e ∷ ys) v h ∙ rw is refl

  pub insert_gap : (xs ys : List (K × X)) (v : X) → AreBelow R k xs → AreAbove R k ys → insert_entry R (xs ++ ys) k v ≡ xs ++ (k, v) ∷ ys
  insert_gap xs ys v h g = insert_right xs ys v h ∙ ap (λ l. xs ++ l) (insert_above ys v g)

  pub remove_hit : (xs ys : List (K × X)) (e : K × X) → AreBelow R k xs → R k e.0 ≡ Equal → remove_entry (is_at (R k)) (xs ++ e ∷ ys) ≡ xs ++ ys
  remove_hit xs ys e h is = remove_right xs (e ∷ ys) h ∙ rw is refl

  pub set_hit : (xs ys : List (K × X)) (e : K × X) (w : X) → AreBelow R k xs → R k e.0 ≡ Equal → set_value (is_at (R k)) (xs ++ e ∷ ys) w ≡ xs ++ (e.0, w) ∷ ys
  set_hit xs ys e w h is = set_right xs (e ∷ ys) w h ∙ rw is refl
