-- A property that holds of each row of a line whose condition holds is one of the picked row.
use Rattle.std.proofs.Common.{◌≡◌, Bool, true, false, [], ◌∷◌, Some, if◌then◌else◌, refl, subst}
use Rattle.std.specs.Option.{option_or}
use Rattle.std.proofs.lemmas.Option.{same_Some}
use Rattle.rhai_ops.specs.declared.builtin.FnBuiltin.{FnBuiltin}
use Rattle.rhai_ops.specs.Table.{pick, Line}

abbrev pub LineAll : (FnBuiltin → Type 0) → Line → Type 0
LineAll P [] = Unit {0}
LineAll P ((b, r) ∷ rest) = (b ≡ true → P r) × LineAll P rest

pub pick_all : (P : FnBuiltin → Type 0) (l : Line) (r : FnBuiltin) → LineAll P l → pick l ≡ Some r → P r
pick_all P [] r h e = cc
pick_all P ((true, q) ∷ rest) r h e = let same : q ≡ r = same_Some q r e in subst P same (h.0 refl)
pick_all P ((false, q) ∷ rest) r h e = pick_all P rest r h.1 e

-- two rows, and those after them
pub pick_behind : (p q : Bool) (a b : FnBuiltin) (l : Line) → pick ((p, a) ∷ (q, b) ∷ l) ≡ option_or (pick ((p, a) ∷ (q, b) ∷ [])) (pick l)
pick_behind true q a b l = refl
pick_behind false true a b l = refl
pick_behind false false a b l = refl

pub if_all : (P : FnBuiltin → Type 0) (b : Bool) (k l : Line) → (b ≡ true → LineAll P k) → (b ≡ false → LineAll P l) → LineAll P (if b then k else l)
if_all P true k l h q = h refl
if_all P false k l h q = q refl
