-- The hash bytes of the frames of a walk, the innermost first.
use Rattle.std.proofs.Common.{◌≡◌, ℕ, ◌++◌, Bool, true, List, [], ◌∷◌, refl, sym, ap, ◌∙◌, subst, append_assoc}
use Rattle.std.specs.List.{All, flat_map}
use Rattle.std.specs.Str.{chars}
use Rattle.std.proofs.lemmas.List.Elements.{All-nil, All-cons}
use Rattle.rhai_value.specs.declared.cells.store.Cell.{Cell}
use Rattle.rhai_value.specs.Rows.{Rows, trees_of, fields_of}
use Rattle.rhai_value.specs.Tree.{Tree}
use Rattle.rhai_show.specs.Clean.{are_plain, values_in}
use Rattle.rhai_show.specs.HashBytes.{name_bytes, hash_bytes}
use Rattle.rhai_show.specs.HashRests.{keyed_bytes, rest_bytes, IsKeyedInRange, IsKeyedPlain}
use Rattle.rhai_show.specs.HashRows.{row_bytes}
use Rattle.rhai_show.specs.InRange.{IsPlainInRange, IsRowInRange}
use Rattle.rhai_show.specs.Rests.{Keyed, items_keyed, rows_keyed, closed_by, HasOpen, Each, Level, path_left, HaveOpen}
use Rattle.rhai_show.proofs.Hashes.{first_of_both, second_of_both}

-- values with keys, or without
pub items_bytes : (f : Tree → List ℕ) (xs : List Tree) → rest_bytes f (items_keyed xs) ≡ flat_map f xs
items_bytes f [] = refl
items_bytes f (x ∷ xs) = ap (λ bs. f x ++ bs) (items_bytes f xs)

pub rows_bytes : (f : Tree → List ℕ) (rs : Rows) → rest_bytes f (rows_keyed rs) ≡ flat_map (row_bytes f) rs
rows_bytes f [] = refl
rows_bytes f (r ∷ rs) = ap (λ bs. (name_bytes (chars r.0) ++ f r.1) ++ bs) (rows_bytes f rs)

module _ (s : List Cell) (path : List ℕ) where
  pub items_plain : (xs : List Tree) → are_plain s path (trees_of xs) ≡ true → Each (IsKeyedPlain s path) (items_keyed xs)
  items_plain [] e = tt
  items_plain (x ∷ xs) e = (first_of_both _ _ e, items_plain xs (second_of_both _ _ e))

  pub rows_plain : (rs : Rows) → are_plain s path (values_in (fields_of rs)) ≡ true → Each (IsKeyedPlain s path) (rows_keyed rs)
  rows_plain [] e = tt
  rows_plain (r ∷ rs) e = (first_of_both _ _ e, rows_plain rs (second_of_both _ _ e))

  pub items_ranged : (xs : List Tree) → Each (IsKeyedInRange s path) (items_keyed xs) → All (IsPlainInRange s path) xs
  items_ranged [] h = All-nil (IsPlainInRange s path)
  items_ranged (x ∷ xs) h = All-cons (IsPlainInRange s path) x xs h.0.1 (items_ranged xs h.1)

  pub rows_ranged : (rs : Rows) → Each (IsKeyedInRange s path) (rows_keyed rs) → All (IsRowInRange s path) rs
  rows_ranged [] h = All-nil (IsRowInRange s path)
  rows_ranged (r ∷ rs) h = All-cons (IsRowInRange s path) r rs h.0 (rows_ranged rs h.1)

-- the bytes before children, and those of the children
pub begins : (old one two kind count rest whole : List ℕ) → one ≡ old ++ kind → two ≡ one ++ count → kind ++ (count ++ rest) ≡ whole → two ++ rest ≡ old ++ whole
begins old one two kind count rest whole e f g =
    ap (λ x. x ++ rest) (f ∙ ap (λ x. x ++ count) e) ∙ append_assoc (old ++ kind) count rest ∙ append_assoc old kind (count ++ rest) ∙ ap (λ x. old ++ x) g

abbrev pub bytes_left : List Cell → List ℕ → List Level → List ℕ
bytes_left s path [] = []
bytes_left s path (l ∷ ls) = rest_bytes (hash_bytes s path) l.1 ++ bytes_left s (closed_by l.0 path) ls

abbrev pub EachLeft : (List ℕ → Keyed → Type 0) → List ℕ → List Level → Type 0
EachLeft P path [] = Unit {0}
EachLeft P path (l ∷ ls) = Each (P path) l.1 × EachLeft P (closed_by l.0 path) ls

-- The bytes of a value are being appended: these are the bytes and the path once nothing remains,
-- and the value is in range if all remaining ones are.
pub record Hashing (s : List Cell) (whole first : List ℕ) (InRange : Type 0) (out path : List ℕ) (ls : List Level) : Type 0 where
  pub bytes : out ++ bytes_left s path ls ≡ whole
  pub path_after : path_left path ls ≡ first
  pub have_open : HaveOpen path ls
  pub plain : EachLeft (IsKeyedPlain s) path ls
  pub range : EachLeft (IsKeyedInRange s) path ls → InRange

module _ (s : List Cell) (whole first : List ℕ) (InRange : Type 0) (out path : List ℕ) (b : Bool) (c : Keyed) (cs : List Keyed) (ls : List Level) (h : Hashing s whole first InRange out path ((b, c ∷ cs) ∷ ls)) where
  one_less : (out ++ keyed_bytes (hash_bytes s path) c) ++ bytes_left s path ((b, cs) ∷ ls) ≡ whole
  one_less =
      let one = keyed_bytes (hash_bytes s path) c in
      append_assoc out one (bytes_left s path ((b, cs) ∷ ls))
      ∙ ap (λ x. out ++ x) (sym (append_assoc one (rest_bytes (hash_bytes s path) cs) (bytes_left s (closed_by b path) ls))) ∙ h.bytes

  -- a value is appended
  pub hash_on : (later next : List ℕ) → later ≡ out ++ keyed_bytes (hash_bytes s path) c → IsKeyedInRange s path c → next ≡ path → Hashing s whole first InRange later next ((b, cs) ∷ ls)
  hash_on later next e range same = subst (λ p. Hashing s whole first InRange later p ((b, cs) ∷ ls)) (sym same) (record {
    bytes = ap (λ x. x ++ bytes_left s path ((b, cs) ∷ ls)) e ∙ one_less;
    path_after = h.path_after;
    have_open = h.have_open;
    plain = (h.plain.0.1, h.plain.1);
    range = λ r. h.range ((range, r.0), r.1);
  })

  -- a value is entered
  pub hash_down : (later next : List ℕ) (d : Bool) (ks : List Keyed) → later ++ rest_bytes (hash_bytes s next) ks ≡ out ++ keyed_bytes (hash_bytes s path) c → closed_by d next ≡ path → HasOpen d next
      → Each (IsKeyedPlain s next) ks → (Each (IsKeyedInRange s next) ks → IsKeyedInRange s path c) → Hashing s whole first InRange later next ((d, ks) ∷ (b, cs) ∷ ls)
  hash_down later next d ks e back own plain range =
      let others = (b, cs) ∷ ls in
      record {
        bytes = ap (λ p. later ++ (rest_bytes (hash_bytes s next) ks ++ bytes_left s p others)) back
            ∙ sym (append_assoc later (rest_bytes (hash_bytes s next) ks) (bytes_left s path others)) ∙ ap (λ x. x ++ bytes_left s path others) e ∙ one_less;
        path_after = ap (λ p. path_left p others) back ∙ h.path_after;
        have_open = (own, subst (λ p. HaveOpen p others) (sym back) h.have_open);
        plain = (plain, subst (λ p. EachLeft (IsKeyedPlain s) p others) (sym back) (h.plain.0.1, h.plain.1));
        range = λ r. let left = subst (λ p. EachLeft (IsKeyedInRange s) p others) back r.1 in h.range ((range r.0, left.0), left.1);
      }

-- a value is finished
pub hash_up : (s : List Cell) (whole first : List ℕ) (InRange : Type 0) (out path next : List ℕ) (b : Bool) (ls : List Level) → Hashing s whole first InRange out path ((b, []) ∷ ls) → next ≡ closed_by b path
    → Hashing s whole first InRange out next ls
hash_up s whole first InRange out path next b ls h back = subst (λ p. Hashing s whole first InRange out p ls) (sym back) (record { bytes = h.bytes; path_after = h.path_after; have_open = h.have_open.1; plain = h.plain.1; range = λ r. h.range (tt, r) })
