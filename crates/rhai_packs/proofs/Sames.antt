-- Values that are equal as plain values.
use Rattle.std.proofs.Common.{◌≡◌, ◌↔◌, ◌&&◌, ℕ, Bool, true, false, List, [], Option, Some, None, is_some, IfSome, IsTrue, nat_eq, option_map, refl, sym, ◌∙◌}
use Rattle.std.specs.Cmp.Lexicographic.{bytes_decides, pointwise}
use Rattle.rhai_value.specs.declared.cells.store.Cell.{Cell}
use Rattle.rhai_value.specs.Tree.{Tree}
use Rattle.rhai_show.specs.Plain.{plain}
use Rattle.rhai_show.specs.HashBytes.{plain_bytes}
use Rattle.rhai_show.specs.InRange.{IsHashed}
use Rattle.rhai_packs.specs.Same.{AreSame}

pub same_where_plain : (s : List Cell) (x y : Tree) (bs : List ℕ) → IsHashed s y bs → plain s [] x ≡ plain s [] y → AreSame s x y
unfolding AreSame
same_where_plain s x y bs h e = (h.0, e ∙ h.1, h.1)

pub plain_where_same : (s : List Cell) (x y : Tree) → AreSame s x y → plain s [] x ≡ plain s [] y
unfolding AreSame
plain_where_same s x y a = a.1 ∙ sym a.2

pub same_as_nothing : (s : List Cell) (x y : Tree) → plain s [] y ≡ None → AreSame s x y → ⊥
unfolding AreSame
same_as_nothing s x y n a = cc

pub nothing_same : (s : List Cell) (x y : Tree) → plain s [] x ≡ None → AreSame s x y → ⊥
unfolding AreSame
nothing_same s x y n a = cc

-- equal bytes mean equal values
pub bytes_tell : (s : List Cell) (x y : Tree) (a b : List ℕ) (r : Bool) → r ≡ pointwise nat_eq a b → ((a ≡ b) ↔ (plain s [] x ≡ plain s [] y)) → IsHashed s y b → IsTrue r ↔ AreSame s x y
bytes_tell s x y a b r e tells h =
    let decides = bytes_decides a b in
    (λ t. same_where_plain s x y b h (tells.0 (decides.0 (sym e ∙ t))), λ same. e ∙ decides.1 (tells.1 (plain_where_same s x y same)))

pub told : (s : List Cell) (x : Tree) (o : Option (List ℕ)) (a : List ℕ) → o ≡ Some a → IfSome o (IsHashed s x) → IsHashed s x a
told s x (Some b) a e h = let same : a ≡ b = cc in rw same h
told s x None a e h = absurd (cc)

none_mapped : {A B : Type 0} (f : A → B) (o : Option A) → option_map f o ≡ None → o ≡ None
none_mapped f None e = refl
none_mapped f (Some a) e = cc

pub nothing_plain : (s : List Cell) (x : Tree) (o : Option (List ℕ)) → o ≡ option_map plain_bytes (plain s [] x) → o ≡ None → plain s [] x ≡ None
nothing_plain s x o e n = none_mapped plain_bytes (plain s [] x) (sym e ∙ n)

-- a value without bytes equals none that has some
pub nothing_told : (s : List Cell) (x y : Tree) → plain s [] x ≡ None → IsTrue false ↔ AreSame s x y
nothing_told s x y n = (λ t. absurd (cc), λ same. absurd (nothing_same s x y n same))

-- the result of comparing two values
both_there : {P : Type 0} (o q : Option P) (b : Bool) → IsTrue b ↔ (o ≡ q) → true ≡ (is_some o && is_some q) → IsTrue b ↔ ((p : P) × (o ≡ Some p) × (q ≡ Some p))
both_there (Some p) (Some q) b h w = (λ t. (p, refl, sym (h.0 t)), λ k. h.1 (k.1 ∙ sym k.2))
both_there (Some p) None b h w = cc
both_there None q b h w = cc

one_missing : {P : Type 0} (o q : Option P) → false ≡ (is_some o && is_some q) → IsTrue false ↔ ((p : P) × (o ≡ Some p) × (q ≡ Some p))
one_missing (Some p) (Some q) w = cc
one_missing (Some p) None w = (λ t. absurd (cc), λ k. absurd (let e = k.2 in cc))
one_missing None q w = (λ t. absurd (cc), λ k. absurd (let e = k.1 in cc))

pub told_same : (s : List Cell) (x y : Tree) (b : Bool) → IsTrue b ↔ (plain s [] x ≡ plain s [] y) → true ≡ (is_some (plain s [] x) && is_some (plain s [] y)) → IsTrue b ↔ AreSame s x y
unfolding AreSame
told_same s x y b h w = both_there (plain s [] x) (plain s [] y) b h w

pub told_other : (s : List Cell) (x y : Tree) → false ≡ (is_some (plain s [] x) && is_some (plain s [] y)) → IsTrue false ↔ AreSame s x y
unfolding AreSame
told_other s x y w = one_missing (plain s [] x) (plain s [] y) w
