-- The hash bytes of a value by its parts.
use Rattle.std.proofs.Common.{◌≡◌, ℕ, ℤ, suc, ◌++◌, ◌&&◌, Bool, true, false, [], ◌∷◌, List, length, Option, Some, None, IfSome, Result, OnOk, is_some, option_map, refl, sym, ap, ap₂, ◌∙◌, subst, append_assoc}
use Rattle.std.specs.List.{flat_map}
use Rattle.std.specs.Str.{chars}
use Rattle.rhai_value.specs.declared.value.access_mode.AccessMode.{AccessMode}
use Rattle.rhai_value.specs.declared.cells.store.Cell.{Cell}
use Rattle.rhai_value.specs.Rows.{Rows, trees_of, fields_of}
use Rattle.rhai_value.specs.Tree.{Tree, node, Leaf, leaf, Kind, branch, fields, holder, cell_of}
use Rattle.rhai_value.specs.Walk.{entry}
use Rattle.rhai_show.specs.Plain.{Plains, PlainFields, no_plains, plain_then, plain_branch, plain_map, no_plain_fields, plain_field_then, plain_more, plain_field_more, all_plain, fields_plain, plain}
use Rattle.rhai_show.specs.Clean.{are_plain, values_in}
use Rattle.rhai_show.specs.HashBytes.{count_bytes, name_bytes, leaf_bytes, kind_bytes, how_many, how_many_fields, all_bytes, fields_bytes, plain_bytes, some_bytes, hash_bytes}
use Rattle.rhai_show.specs.HashRows.{row_bytes}
use Rattle.rhai_show.proofs.Pushed.{added_as}
use Rattle.rhai_show.proofs.Plains.{plain_within, plain_opens, by_parts, plain-branch, plain-map, plain-opened}

pub first_of_both : (a b : Bool) → (a && b) ≡ true → a ≡ true
first_of_both true b e = refl
first_of_both false b e = cc

pub second_of_both : (a b : Bool) → (a && b) ≡ true → b ≡ true
second_of_both true b e = e
second_of_both false b e = cc

there : {A : Type 0} (o : Option A) → is_some o ≡ true → (a : A) × (o ≡ Some a)
there (Some a) e = (a, refl)
there None e = cc

module _ (s : List Cell) (path : List ℕ) where
  -- if all children are plain, their bytes are those of each
  all_there : (xs : List Tree) → are_plain s path (trees_of xs) ≡ true
      → (ps : Plains) × (all_plain path (plain_within s path) (trees_of xs) ≡ Some ps) × (how_many ps ≡ length xs) × (all_bytes ps ≡ flat_map (hash_bytes s path) xs)
  all_there [] e = (no_plains, refl, refl, refl)
  all_there (x ∷ xs) e =
      let p = there (plain s path x) (first_of_both _ _ e) in
      let h = all_there xs (second_of_both _ _ e) in
      (plain_then p.0 h.0, ap₂ plain_more (sym (plain_opens s path x) ∙ p.1) h.1, ap suc h.2, ap₂ (λ a b. a ++ b) (sym (ap some_bytes p.1)) h.3)

  rows_there : (rs : Rows) → are_plain s path (values_in (fields_of rs)) ≡ true
      → (fs : PlainFields) × (fields_plain path (plain_within s path) (fields_of rs) ≡ Some fs) × (how_many_fields fs ≡ length rs) × (fields_bytes fs ≡ flat_map (row_bytes (hash_bytes s path)) rs)
  rows_there [] e = (no_plain_fields, refl, refl, refl)
  rows_there (r ∷ rs) e =
      let p = there (plain s path r.1) (first_of_both _ _ e) in
      let h = rows_there rs (second_of_both _ _ e) in (
        plain_field_then (chars r.0) p.0 h.0,
        ap₂ (plain_field_more (chars r.0)) (sym (plain_opens s path r.1) ∙ p.1) h.1,
        ap suc h.2,
        ap₂ (λ a b. (name_bytes (chars r.0) ++ a) ++ b) (sym (ap some_bytes p.1)) h.3,
      )

  pub hashed-leaf : (t : Tree) (l : Leaf) (g : ℤ) (m : AccessMode) → t ≡ node (leaf l) g m → leaf_bytes l ≡ hash_bytes s path t
  hashed-leaf t l g m e = sym (ap some_bytes (by_parts s path t (node (leaf l) g m) e))

  pub hashed-branch : (t : Tree) (k : Kind) (xs : List Tree) (g : ℤ) (m : AccessMode) → t ≡ node (branch k (trees_of xs)) g m → is_some (plain s path t) ≡ true
      → kind_bytes k ++ (count_bytes (length xs) ++ flat_map (hash_bytes s path) xs) ≡ hash_bytes s path t
  hashed-branch t k xs g m e some =
      let h = all_there xs (sym (plain-branch s path t k (trees_of xs) g m e) ∙ some) in
      ap₂ (λ n bs. kind_bytes k ++ (count_bytes n ++ bs)) (sym h.2) (sym h.3)
      ∙ sym (ap some_bytes (by_parts s path t (node (branch k (trees_of xs)) g m) e ∙ ap (option_map (plain_branch k)) h.1))

  pub hashed-map : (t : Tree) (rs : Rows) (g : ℤ) (m : AccessMode) → t ≡ node (fields (fields_of rs)) g m → is_some (plain s path t) ≡ true
      → 7 ∷ count_bytes (length rs) ++ flat_map (row_bytes (hash_bytes s path)) rs ≡ hash_bytes s path t
  hashed-map t rs g m e some =
      let h = rows_there rs (sym (plain-map s path t (fields_of rs) g m e) ∙ some) in
      ap₂ (λ n bs. 7 ∷ count_bytes n ++ bs) (sym h.2) (sym h.3)
      ∙ sym (ap some_bytes (by_parts s path t (node (fields (fields_of rs)) g m) e ∙ ap (option_map plain_map) h.1))

-- appends the bytes of a leaf, which are those of the value
pub leaf_hashed : (new old : List ℕ) (s : List Cell) (path : List ℕ) (t : Tree) (l : Leaf) (g : ℤ) (m : AccessMode) → t ≡ node (leaf l) g m → new ≡ old ++ leaf_bytes l → new ≡ old ++ hash_bytes s path t
leaf_hashed new old s path t l g m e h = h ∙ ap (λ x. old ++ x) (hashed-leaf s path t l g m e)

pub added_hash : {A E : Type 0} (r : Result A E) (new old : List ℕ) (s : List Cell) (path : List ℕ) (t : Tree) (l : Leaf) (g : ℤ) (m : AccessMode) → t ≡ node (leaf l) g m → OnOk r (new ≡ old ++ leaf_bytes l) → OnOk r (new ≡ old ++ hash_bytes s path t)
added_hash r new old s path t l g m e h = added_as r new old (leaf_bytes l) (hash_bytes s path t) (hashed-leaf s path t l g m e) h

-- the bytes of a leaf are those of its plain value
pub leaf_made : (s : List Cell) (path : List ℕ) (t : Tree) (l : Leaf) (g : ℤ) (m : AccessMode) (new old : List ℕ) → t ≡ node (leaf l) g m → new ≡ old ++ leaf_bytes l
    → Some new ≡ option_map (λ p. old ++ plain_bytes p) (plain s path t)
leaf_made s path t l g m new old e is = ap Some is ∙ sym (ap (option_map (λ p. old ++ plain_bytes p)) (by_parts s path t (node (leaf l) g m) e))

-- a holder whose cell opens
module _ (s : List Cell) (path next : List ℕ) (t u : Tree) (c : ℕ) (g : ℤ) (m : AccessMode) (e : t ≡ node (holder c) g m) (some : Some u ≡ entry s path t) (is : IfSome (cell_of t) (λ k. next ≡ k ∷ path)) where
  pub plain-content : plain s next u ≡ plain s path t
  plain-content =
      let opens : next ≡ c ∷ path = subst (λ x. IfSome (cell_of x) (λ k. next ≡ k ∷ path)) e is in
      ap (λ p. plain s p u) opens ∙ sym (plain-opened s path t u c g m e some)

-- the concatenated bytes of items
module _ {A : Type 0} (f : A → List ℕ) where
  -- the bytes of one more are appended
  pub each_step : (xs ys : List A) (x : A) (out next : List ℕ) → ys ≡ x ∷ xs → next ≡ out ++ f x → next ++ flat_map f xs ≡ out ++ flat_map f ys
  each_step xs ys x out next e q = ap (λ t. t ++ flat_map f xs) q ∙ append_assoc out (f x) (flat_map f xs) ∙ ap (λ zs. out ++ flat_map f zs) (sym e)
