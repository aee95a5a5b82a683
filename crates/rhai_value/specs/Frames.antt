-- A work list of frames, each waiting for the next.
use Rattle.std.specs.Prelude.{◌≡◌, ℕ, ◌+◌, ◌*◌, List, [], ◌∷◌, ◌++◌}
use Rattle.std.proofs.Common.{refl, ap, arith}

-- the result of the outermost frame, given the result of the child for which the innermost waits
abbrev pub unwound : {S F D : Type 0} → (S → F → D → S × D) → List F → S × D → S × D
unwound after [] r = r
unwound after (f ∷ fs) r = after (unwound after fs r).0 f (unwound after fs r).1

pub unwound_last : {S F D : Type 0} (after : S → F → D → S × D) (fs : List F) (f : F) (r : S × D) → unwound after (fs ++ f ∷ []) r ≡ unwound after fs (after r.0 f r.1)
unwound_last after [] f r = refl
unwound_last after (g ∷ fs) f r = ap (λ x. after x.0 g x.1) (unwound_last after fs f r)

-- a bound on the remaining parts of all frames
abbrev pub sizes : {F : Type 0} → (F → ℕ) → List F → ℕ
sizes size [] = 0
sizes size (f ∷ fs) = 2 * size f + 1 + sizes size fs

pub sizes_last : {F : Type 0} (size : F → ℕ) (fs : List F) (f : F) → sizes size (fs ++ f ∷ []) ≡ sizes size fs + (2 * size f + 1)
sizes_last size [] f = omega arith
sizes_last size (g ∷ fs) f = omega (arith, sizes_last size fs f)

-- each frame satisfies P
abbrev pub AreAll : {F : Type 0} → (F → Type 0) → List F → Type 0
AreAll P [] = Unit {0}
AreAll P (f ∷ fs) = P f × AreAll P fs

pub all_last : {F : Type 0} (P : F → Type 0) (fs : List F) (f : F) → AreAll P fs → P f → AreAll P (fs ++ f ∷ [])
all_last P [] f all one = (one, tt)
all_last P (g ∷ fs) f all one = (all.0, all_last P fs f all.1 one)

pub last_of_all : {F : Type 0} (P : F → Type 0) (fs : List F) (f : F) → AreAll P (fs ++ f ∷ []) → AreAll P fs × P f
last_of_all P [] f all = (tt, all.0)
last_of_all P (g ∷ fs) f all = let later = last_of_all P fs f all.1 in ((all.0, later.0), later.1)
