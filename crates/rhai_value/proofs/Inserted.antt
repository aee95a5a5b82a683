-- Look-ups after an insertion.
use Rattle.std.proofs.Common.{◌≡◌, Bool, true, false, cond, List, [], ◌∷◌, Option, Some, Ordering, Less, Equal, Greater, refl, sym, ap, ◌∙◌}
use Rattle.std.proofs.lemmas.Cmp.{alike_right}
use Rattle.std.specs.BTreeMap.{insert_entry, is_at}
use Rattle.std.specs.Cmp.{IsTotalOrder}
use Rattle.std.specs.Map.{lookup}
use Rattle.std.specs.Ordering.{is_eq, match_ordering}

module _ {K X : Type 0} {R : K → K → Ordering} (o : IsTotalOrder R) (q k : K) (v : X) where
  -- a second value at the same key has no effect, and look-ups at two keys are independent
  twice : (b : Bool) (w : X) (rest : Option X) → cond b (Some v) rest ≡ cond b (Some v) (cond b (Some w) rest)
  twice true w rest = refl
  twice false w rest = refl

  apart : (j : K) (a b : Ordering) (w : X) (rest : Option X) → R q j ≡ a → R q k ≡ b → R k j ≡ Greater → cond (is_eq a) (Some w) (cond (is_eq b) (Some v) rest) ≡ cond (is_eq b) (Some v) (cond (is_eq a) (Some w) rest)
  apart j Equal Equal w rest p e g = let no : Equal ≡ Greater = sym p ∙ o.congr q k j e ∙ g in cc
  apart j Equal Less w rest p e g = refl
  apart j Equal Greater w rest p e g = refl
  apart j Less b w rest p e g = refl
  apart j Greater b w rest p e g = refl

  -- the value at its key, and the old value at each other key
  pub found_inserted : (es : List (K × X)) → lookup (is_at (R q)) (insert_entry R es k v) ≡ cond (is_eq (R q k)) (Some v) (lookup (is_at (R q)) es)
  found_inserted [] = refl
  found_inserted (e ∷ es) = by (R k e.0) refl (found_inserted es)
    where
      by : (r : Ordering) → R k e.0 ≡ r → lookup (is_at (R q)) (insert_entry R es k v) ≡ cond (is_eq (R q k)) (Some v) (lookup (is_at (R q)) es)
          → lookup (is_at (R q)) (match_ordering r ((k, v) ∷ e ∷ es) ((e.0, v) ∷ es) (e ∷ insert_entry R es k v)) ≡ cond (is_eq (R q k)) (Some v) (cond (is_eq (R q e.0)) (Some e.1) (lookup (is_at (R q)) es))
      by Less r again = refl
      by Equal r again = rw (alike_right o k e.0 q r) (twice (is_eq (R q e.0)) e.1 (lookup (is_at (R q)) es))
      by Greater r again = ap (cond (is_eq (R q e.0)) (Some e.1)) again ∙ apart e.0 (R q e.0) (R q k) e.1 (lookup (is_at (R q)) es) refl refl r
