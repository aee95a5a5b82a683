-- Two options that are alike, two lists that are related item by item, and the items of a list by index.
use Rattle.std.proofs.Common.{◌≡◌, ℕ, zero, suc, List, [], ◌∷◌, ◌++◌, length, slice_get, slice_set, take, drop, Option, Some, None, refl, ap}
use Rattle.std.proofs.lemmas.Option.{none-some}
use Rattle.std.specs.List.{AllZip}
use Rattle.rhai_value.specs.Relation.{Alike}

-- A relation that holds of None with None, and of each two related values, holds of options that are alike.
pub by_alike : {A B : Type 0} (R : A → B → Type 0) (P : Option A → Option B → Type 0) → P None None → ((a : A) (b : B) → R a b → P (Some a) (Some b)) → (o : Option A) (q : Option B) → Alike R o q → P o q
by_alike R P none some None None h = none
by_alike R P none some (Some a) (Some b) h = some a b h
by_alike R P none some _ _ h = absurd h

-- A relation that holds of two empty lists, and of two longer ones if it holds of the rests after
-- their first items, holds of lists that are related item by item.
pub by_zip : {A B : Type 0} (R : A → B → Type 0) (P : List A → List B → Type 0) → P [] []
    → ((x : A) (y : B) (xs : List A) (ys : List B) → R x y → AllZip R xs ys → P xs ys → P (x ∷ xs) (y ∷ ys)) → (xs : List A) (ys : List B) → AllZip R xs ys → P xs ys
by_zip R P none more [] [] h = none
by_zip R P none more (x ∷ xs) (y ∷ ys) h = more x y xs ys h.0 h.1 (by_zip R P none more xs ys h.1)
by_zip R P none more _ _ h = absurd h

module _ {A B : Type 0} (R : A → B → Type 0) where
  pub zip_get : (xs : List A) (ys : List B) (i : ℕ) → AllZip R xs ys → Alike R (slice_get xs i) (slice_get ys i)
  zip_get [] [] i h = tt
  zip_get (x ∷ xs) (y ∷ ys) zero h = h.0
  zip_get (x ∷ xs) (y ∷ ys) (suc i) h = zip_get xs ys i h.1
  zip_get _ _ i h = absurd h

  pub zip_append : (xs us : List A) (ys vs : List B) → AllZip R xs ys → AllZip R us vs → AllZip R (xs ++ us) (ys ++ vs)
  zip_append xs us ys vs h k = by_zip R (λ xs ys. AllZip R (xs ++ us) (ys ++ vs)) k (λ x y xs ys r z more. (r, more)) xs ys h

  pub zip_set : (xs : List A) (ys : List B) (i : ℕ) (a : A) (b : B) → AllZip R xs ys → R a b → AllZip R (slice_set xs i a) (slice_set ys i b)
  zip_set [] [] i a b h r = tt
  zip_set (x ∷ xs) (y ∷ ys) zero a b h r = (r, h.1)
  zip_set (x ∷ xs) (y ∷ ys) (suc i) a b h r = (h.0, zip_set xs ys i a b h.1 r)
  zip_set _ _ i a b h r = absurd h

  pub zip_take : (n : ℕ) (xs : List A) (ys : List B) → AllZip R xs ys → AllZip R (take n xs) (take n ys)
  zip_take zero xs ys h = tt
  zip_take (suc n) [] [] h = tt
  zip_take (suc n) (x ∷ xs) (y ∷ ys) h = (h.0, zip_take n xs ys h.1)
  zip_take (suc n) _ _ h = absurd h

  pub zip_drop : (n : ℕ) (xs : List A) (ys : List B) → AllZip R xs ys → AllZip R (drop n xs) (drop n ys)
  zip_drop zero xs ys h = h
  zip_drop (suc n) [] [] h = tt
  zip_drop (suc n) (x ∷ xs) (y ∷ ys) h = zip_drop n xs ys h.1
  zip_drop (suc n) _ _ h = absurd h

  pub zip_length : (xs : List A) (ys : List B) → AllZip R xs ys → length xs ≡ length ys
  zip_length = by_zip R (λ xs ys. length xs ≡ length ys) refl (λ x y xs ys r z more. ap suc more)

pub zip_weaker : {A B : Type 0} (R S : A → B → Type 0) → ((x : A) (y : B) → R x y → S x y) → (xs : List A) (ys : List B) → AllZip R xs ys → AllZip S xs ys
zip_weaker R S weaker = by_zip R (λ xs ys. AllZip S xs ys) tt (λ x y xs ys r z more. (weaker x y r, more))

module _ {A : Type 0} where
  pub get_append : (xs ys : List A) (i : ℕ) (x : A) → slice_get xs i ≡ Some x → slice_get (xs ++ ys) i ≡ Some x
  get_append [] ys i x e = absurd (none-some x e)
  get_append (a ∷ xs) ys zero x e = e
  get_append (a ∷ xs) ys (suc i) x e = get_append xs ys i x e

  pub get_last : (xs : List A) (y : A) → slice_get (xs ++ y ∷ []) (length xs) ≡ Some y
  get_last [] y = refl
  get_last (x ∷ xs) y = get_last xs y

  pub get_set_same : (xs : List A) (i : ℕ) (x y : A) → slice_get xs i ≡ Some x → slice_get (slice_set xs i y) i ≡ Some y
  get_set_same [] i x y e = absurd (none-some x e)
  get_set_same (a ∷ xs) zero x y e = refl
  get_set_same (a ∷ xs) (suc i) x y e = get_set_same xs i x y e

  pub get_set_other : (xs : List A) (i j : ℕ) (y : A) → (j ≡ i → ⊥) → slice_get (slice_set xs i y) j ≡ slice_get xs j
  get_set_other [] i j y e = refl
  get_set_other (a ∷ xs) zero zero y e = absurd (e refl)
  get_set_other (a ∷ xs) zero (suc j) y e = refl
  get_set_other (a ∷ xs) (suc i) zero y e = refl
  get_set_other (a ∷ xs) (suc i) (suc j) y e = get_set_other xs i j y (λ f. e (ap suc f))
