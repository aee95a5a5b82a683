-- The bytes written for a hashable value are in range.
use Rattle.std.proofs.Common.{◌≡◌, ◌↔◌, ℕ, ℤ, suc, List, [], ◌∷◌, length, Option, Some, None, IfSome, Result, Ok, Err, OnOk, option_map, refl, sym, ap, ◌∙◌, subst}
use Rattle.std.specs.List.{All}
use Rattle.std.specs.Str.{chars, IsUtf8}
use Rattle.std.proofs.lemmas.List.Elements.{All-head, All-tail, All-cons}
use Rattle.std.proofs.lemmas.Str.{encodes-chars, scalars-chars}
use Rattle.rhai_value.specs.declared.value.access_mode.AccessMode.{AccessMode}
use Rattle.rhai_value.specs.declared.cells.store.Cell.{Cell}
use Rattle.rhai_value.specs.Rows.{Rows, trees_of, fields_of}
use Rattle.rhai_value.specs.Tree.{Tree, node, Leaf, leaf, Kind, branch, fields}
use Rattle.rhai_show.specs.Plain.{Plain, Plains, PlainFields, plain_branch, plain_map, plain_more, plain_field_more, all_plain, fields_plain, plain}
use Rattle.rhai_show.specs.HashBytes.{how_many, how_many_fields, plain_bytes}
use Rattle.rhai_show.specs.InRange.{IsCount, IsName, IsLeaf, IsKind, IsInRange, AreInRange, FieldsInRange, IsPlainInRange, IsRowInRange, IsHashed}
use Rattle.rhai_show.proofs.Distinct.{distinct_bytes}
use Rattle.rhai_show.proofs.Plains.{plain_within, plain_opens, by_parts}

-- if a call succeeds
pub on_then : {A E : Type 0} (r : Result A E) {P Q : Type 0} → (P → Q) → OnOk r P → OnOk r Q
on_then (Ok x) f h = f h
on_then (Err e) f h = tt

-- a text with a bounded number of bytes is a name
pub a_name : (bs : List ℕ) → IsUtf8 bs → IsCount (length bs) → IsName (chars bs)
a_name bs u count = (scalars-chars bs u, subst (λ x. IsCount (length x)) (sym (encodes-chars bs u)) count)

module _ (s : List Cell) (path : List ℕ) where
  more_ranged : (o : Option Plain) (q : Option Plains) (n : ℕ) → IfSome o IsInRange → IfSome q (λ ps. (how_many ps ≡ n) × AreInRange ps) → IfSome (plain_more o q) (λ ps. (how_many ps ≡ suc n) × AreInRange ps)
  more_ranged None q n f g = tt
  more_ranged (Some p) None n f g = tt
  more_ranged (Some p) (Some ps) n f g = (ap suc g.0, (f, g.1))

  all_ranged : (xs : List Tree) → All (IsPlainInRange s path) xs → IfSome (all_plain path (plain_within s path) (trees_of xs)) (λ ps. (how_many ps ≡ length xs) × AreInRange ps)
  all_ranged [] h = (refl, tt)
  all_ranged (x ∷ xs) h =
      more_ranged _ _ (length xs) (subst (λ o. IfSome o IsInRange) (plain_opens s path x) (All-head (IsPlainInRange s path) x xs h)) (all_ranged xs (All-tail (IsPlainInRange s path) x xs h))

  field_ranged : (k : List ℕ) (o : Option Plain) (q : Option PlainFields) (n : ℕ) → IsName k → IfSome o IsInRange → IfSome q (λ fs. (how_many_fields fs ≡ n) × FieldsInRange fs)
      → IfSome (plain_field_more k o q) (λ fs. (how_many_fields fs ≡ suc n) × FieldsInRange fs)
  field_ranged k None q n name f g = tt
  field_ranged k (Some p) None n name f g = tt
  field_ranged k (Some p) (Some fs) n name f g = (ap suc g.0, (name, f, g.1))

  rows_ranged : (rs : Rows) → All (IsRowInRange s path) rs → IfSome (fields_plain path (plain_within s path) (fields_of rs)) (λ fs. (how_many_fields fs ≡ length rs) × FieldsInRange fs)
  rows_ranged [] h = (refl, tt)
  rows_ranged (r ∷ rs) h =
      let first = All-head (IsRowInRange s path) r rs h in
      field_ranged (chars r.0) _ _ (length rs) first.0 (subst (λ o. IfSome o IsInRange) (plain_opens s path r.1) first.1) (rows_ranged rs (All-tail (IsRowInRange s path) r rs h))

  branch_of : (k : Kind) (o : Option Plains) (n : ℕ) → IsKind k → IsCount n → IfSome o (λ ps. (how_many ps ≡ n) × AreInRange ps) → IfSome (option_map (plain_branch k) o) IsInRange
  branch_of k None n kind count h = tt
  branch_of k (Some ps) n kind count h = (kind, subst IsCount (sym h.0) count, h.1)

  map_of : (o : Option PlainFields) (n : ℕ) → IsCount n → IfSome o (λ fs. (how_many_fields fs ≡ n) × FieldsInRange fs) → IfSome (option_map plain_map o) IsInRange
  map_of None n count h = tt
  map_of (Some fs) n count h = (subst IsCount (sym h.0) count, h.1)

  -- a value by its parts
  pub leaf_ranged : (t : Tree) (l : Leaf) (g : ℤ) (m : AccessMode) → t ≡ node (leaf l) g m → IsLeaf l → IsPlainInRange s path t
  leaf_ranged t l g m e h = subst (λ o. IfSome o IsInRange) (sym (by_parts s path t (node (leaf l) g m) e)) h

  pub branch_ranged : (t : Tree) (k : Kind) (xs : List Tree) (g : ℤ) (m : AccessMode) → t ≡ node (branch k (trees_of xs)) g m → IsKind k → IsCount (length xs) × All (IsPlainInRange s path) xs → IsPlainInRange s path t
  branch_ranged t k xs g m e kind h =
      subst (λ o. IfSome o IsInRange) (sym (by_parts s path t (node (branch k (trees_of xs)) g m) e)) (branch_of k (all_plain path (plain_within s path) (trees_of xs)) (length xs) kind h.0 (all_ranged xs h.1))

  pub map_ranged : (t : Tree) (rs : Rows) (g : ℤ) (m : AccessMode) → t ≡ node (fields (fields_of rs)) g m → IsCount (length rs) × All (IsRowInRange s path) rs → IsPlainInRange s path t
  map_ranged t rs g m e h =
      subst (λ o. IfSome o IsInRange) (sym (by_parts s path t (node (fields (fields_of rs)) g m) e)) (map_of (fields_plain path (plain_within s path) (fields_of rs)) (length rs) h.0 (rows_ranged rs h.1))

-- one more is in range, so that all are if those after it are
pub one_more : {A : Type 0} (P : A → Type 0) (all left next : List A) (x : A) → left ≡ x ∷ next → P x → (All P left → All P all) → All P next → All P all
one_more P all left next x e p so_far rest = so_far (subst (All P) (sym e) (All-cons P x next p rest))

-- the bytes made for a value in range
pub is_hashed : (s : List Cell) (t : Tree) (o : Option (List ℕ)) → o ≡ option_map plain_bytes (plain s [] t) → IsPlainInRange s [] t → IfSome o (IsHashed s t)
is_hashed s t o e h = by (plain s [] t) refl e h
  where
    by : (q : Option Plain) → plain s [] t ≡ q → o ≡ option_map plain_bytes q → IfSome q IsInRange → IfSome o (IsHashed s t)
    by None is made range = subst (λ x. IfSome x (IsHashed s t)) (sym made) tt
    by (Some p) is made range = subst (λ x. IfSome x (IsHashed s t)) (sym made) (p, is, range, refl)

-- the hash bytes of two values are equal exactly if their plain values are
pub hashed_apart : (s z : List Cell) (t u : Tree) (a b : List ℕ) → IsHashed s t a → IsHashed z u b → (a ≡ b) ↔ (plain s [] t ≡ plain z [] u)
hashed_apart s z t u a b f g =
    let tell = distinct_bytes f.0 g.0 f.2 g.2 in (
      λ e. f.1 ∙ ap Some (tell.0 (sym f.3 ∙ e ∙ g.3)) ∙ sym g.1,
      λ e. let both : Some f.0 ≡ Some g.0 = sym f.1 ∙ e ∙ g.1 in let same : f.0 ≡ g.0 = cc in f.3 ∙ ap plain_bytes same ∙ sym g.3,
    )
