-- Hash bytes distinguish plain values, whatever follows them.
use Rattle.std.proofs.Common.{◌≡◌, ◌↔◌, ℕ, List, [], ◌∷◌, ◌++◌, refl, sym, ap, ap₂, ◌∙◌, append_assoc}
use Rattle.std.proofs.lemmas.List.{append-nil}
use Rattle.rhai_show.specs.Plain.{Plain, plain_leaf, plain_branch, plain_map, Plains, no_plains, plain_then, PlainFields, no_plain_fields, plain_field_then}
use Rattle.rhai_show.specs.HashBytes.{count_bytes, name_bytes, kind_bytes, how_many, how_many_fields, plain_bytes, all_bytes, fields_bytes}
use Rattle.rhai_show.specs.InRange.{IsInRange, AreInRange, FieldsInRange}
use Rattle.rhai_show.proofs.Heads.{Head, a_leaf, a_branch, a_map, read_head, leaf_read, kind_read, map_read, read_name, name_read}

-- the head of a value's bytes, and the bytes after it
abbrev head_of : Plain → Head
head_of (plain_leaf l) = a_leaf l
head_of (plain_branch k ps) = a_branch k (how_many ps)
head_of (plain_map fs) = a_map (how_many_fields fs)

abbrev rest_of : Plain → List ℕ
rest_of (plain_leaf l) = []
rest_of (plain_branch k ps) = all_bytes ps
rest_of (plain_map fs) = fields_bytes fs

plain_read : (p : Plain) (x : List ℕ) → IsInRange p → read_head (plain_bytes p ++ x) ≡ (head_of p, rest_of p ++ x)
plain_read (plain_leaf l) x fits = leaf_read l x fits
plain_read (plain_branch k ps) x fits =
    ap read_head (append_assoc (kind_bytes k) (count_bytes (how_many ps) ++ all_bytes ps) x ∙ ap (λ y. kind_bytes k ++ y) (append_assoc (count_bytes (how_many ps)) (all_bytes ps) x))
    ∙ kind_read k (how_many ps) (all_bytes ps ++ x) fits.0 fits.1
plain_read (plain_map fs) x fits =
    ap (λ y. read_head (7 ∷ y)) (append_assoc (count_bytes (how_many_fields fs)) (fields_bytes fs) x) ∙ map_read (how_many_fields fs) (fields_bytes fs ++ x) fits.0

-- the key first
in_front : (k : List ℕ) (p : Plain) (fs : PlainFields) (x : List ℕ) → fields_bytes (plain_field_then k p fs) ++ x ≡ name_bytes k ++ (plain_bytes p ++ (fields_bytes fs ++ x))
in_front k p fs x =
    append_assoc (name_bytes k ++ plain_bytes p) (fields_bytes fs) x ∙ append_assoc (name_bytes k) (plain_bytes p) (fields_bytes fs ++ x)

heads_same : (p q : Plain) (x y : List ℕ) → IsInRange p → IsInRange q → plain_bytes p ++ x ≡ plain_bytes q ++ y → ◌≡◌ {A = Head × List ℕ} (head_of p, rest_of p ++ x) (head_of q, rest_of q ++ y)
heads_same p q x y f g e = sym (plain_read p x f) ∙ ap read_head e ∙ plain_read q y g

mutual
  by_heads : (p q : Plain) (x y : List ℕ) → IsInRange p → IsInRange q → ◌≡◌ {A = Head × List ℕ} (head_of p, rest_of p ++ x) (head_of q, rest_of q ++ y) → (p ≡ q) × (x ≡ y)
  by_heads (plain_leaf l) (plain_leaf k) x y f g e = let same : a_leaf l ≡ a_leaf k = ap (λ z. z.0) e in (cc, ap (λ z. z.1) e)
  by_heads (plain_branch k ps) (plain_branch j qs) x y f g e =
      let same : a_branch k (how_many ps) ≡ a_branch j (how_many qs) = ap (λ z. z.0) e in
      let kind : k ≡ j = cc in
      let many : how_many ps ≡ how_many qs = cc in
      let h = all_distinct ps qs x y f.2 g.2 many (ap (λ z. z.1) e) in
      (ap₂ plain_branch kind h.0, h.1)
  by_heads (plain_map fs) (plain_map gs) x y f g e =
      let same : a_map (how_many_fields fs) ≡ a_map (how_many_fields gs) = ap (λ z. z.0) e in
      let many : how_many_fields fs ≡ how_many_fields gs = cc in
      let h = fields_distinct fs gs x y f.1 g.1 many (ap (λ z. z.1) e) in
      (ap plain_map h.0, h.1)
  by_heads (plain_leaf l) (plain_branch j qs) x y f g e = let same : a_leaf l ≡ a_branch j (how_many qs) = ap (λ z. z.0) e in cc
  by_heads (plain_leaf l) (plain_map gs) x y f g e = let same : a_leaf l ≡ a_map (how_many_fields gs) = ap (λ z. z.0) e in cc
  by_heads (plain_branch k ps) (plain_leaf l) x y f g e = let same : a_branch k (how_many ps) ≡ a_leaf l = ap (λ z. z.0) e in cc
  by_heads (plain_branch k ps) (plain_map gs) x y f g e = let same : a_branch k (how_many ps) ≡ a_map (how_many_fields gs) = ap (λ z. z.0) e in cc
  by_heads (plain_map fs) (plain_leaf l) x y f g e = let same : a_map (how_many_fields fs) ≡ a_leaf l = ap (λ z. z.0) e in cc
  by_heads (plain_map fs) (plain_branch j qs) x y f g e = let same : a_map (how_many_fields fs) ≡ a_branch j (how_many qs) = ap (λ z. z.0) e in cc

  all_distinct : (ps qs : Plains) (x y : List ℕ) → AreInRange ps → AreInRange qs → how_many ps ≡ how_many qs → all_bytes ps ++ x ≡ all_bytes qs ++ y → (ps ≡ qs) × (x ≡ y)
  all_distinct no_plains no_plains x y f g n e = (refl, e)
  all_distinct (plain_then p ps) (plain_then q qs) x y f g n e =
      let first = by_heads p q (all_bytes ps ++ x) (all_bytes qs ++ y) f.0 g.0 (heads_same p q (all_bytes ps ++ x) (all_bytes qs ++ y) f.0 g.0 (sym (append_assoc (plain_bytes p) (all_bytes ps) x) ∙ e ∙ append_assoc (plain_bytes q) (all_bytes qs) y)) in
      let many : how_many ps ≡ how_many qs = cc in
      let others = all_distinct ps qs x y f.1 g.1 many first.1 in
      (ap₂ plain_then first.0 others.0, others.1)
  all_distinct no_plains (plain_then q qs) x y f g n e = cc
  all_distinct (plain_then p ps) no_plains x y f g n e = cc

  fields_distinct : (fs gs : PlainFields) (x y : List ℕ) → FieldsInRange fs → FieldsInRange gs → how_many_fields fs ≡ how_many_fields gs → fields_bytes fs ++ x ≡ fields_bytes gs ++ y → (fs ≡ gs) × (x ≡ y)
  fields_distinct no_plain_fields no_plain_fields x y f g n e = (refl, e)
  fields_distinct (plain_field_then k p fs) (plain_field_then j q gs) x y f g n e =
      let key = sym (name_read k (plain_bytes p ++ (fields_bytes fs ++ x)) f.0) ∙ ap read_name (sym (in_front k p fs x) ∙ e ∙ in_front j q gs y) ∙ name_read j (plain_bytes q ++ (fields_bytes gs ++ y)) g.0 in
      let first = by_heads p q (fields_bytes fs ++ x) (fields_bytes gs ++ y) f.1 g.1 (heads_same p q (fields_bytes fs ++ x) (fields_bytes gs ++ y) f.1 g.1 (ap (λ z. z.1) key)) in
      let many : how_many_fields fs ≡ how_many_fields gs = cc in
      let others = fields_distinct fs gs x y f.2 g.2 many first.1 in
      (ap (λ a. plain_field_then a p fs) (ap (λ z. z.0) key) ∙ ap₂ (λ b c. plain_field_then j b c) first.0 others.0, others.1)
  fields_distinct no_plain_fields (plain_field_then j q gs) x y f g n e = cc
  fields_distinct (plain_field_then k p fs) no_plain_fields x y f g n e = cc

-- plain values have equal hash bytes exactly if they are equal
pub distinct_bytes : (p q : Plain) → IsInRange p → IsInRange q → (plain_bytes p ≡ plain_bytes q) ↔ (p ≡ q)
distinct_bytes p q f g =
    (λ e. (by_heads p q [] [] f g (heads_same p q [] [] f g (append-nil (plain_bytes p) ∙ e ∙ sym (append-nil (plain_bytes q))))).0, λ e. ap plain_bytes e)
