-- Walks over cells: what bounds them, and their equations.
use Rattle.std.proofs.Common.{◌≡◌, ℕ, zero, suc, ◌+◌, ◌<◌, ◌≤◌, Bool, true, false, cond, nat_eq, ◌||◌, List, [], ◌∷◌, length, Option, Some, None, IfSome, refl, sym, ap, ◌∙◌, arith, inl, inr, eq-eqb, zero-add}
use mathlib.Core.Path.{fun_ext}
use Rattle.std.proofs.lemmas.Option.{same_Some}
use Rattle.std.proofs.lemmas.Bool.{cases_eq}
use Rattle.rhai_value.specs.declared.cells.store.Cell.{Cell}
use Rattle.rhai_value.specs.Tree.{Tree, node, leaf, branch, fields, holder, cell_of}
use Rattle.rhai_value.specs.Store.{at}
use Rattle.rhai_value.specs.Walk.{Visit, entered, barred, revisited, is_open, visit, visit_of, visit_map, opened, entry, unentered, walk_in, walk}

-- the number of the first n cells that aren't open
abbrev pub unopened : List ℕ → ℕ → ℕ
unopened path zero = 0
unopened path (suc n) = cond (is_open n path) 0 1 + unopened path n

unopened_le : (path : List ℕ) (n : ℕ) → unopened path n ≤ n
unopened_le path zero = omega arith
unopened_le path (suc n) = elim (is_open n path) as (λ b. cond b 0 1 + unopened path n ≤ suc n) [ true ↦ omega (arith, unopened_le path n) | false ↦ omega (arith, unopened_le path n) ]

fewer_or : (b d : Bool) → cond (b || d) 0 1 ≤ cond d 0 1
fewer_or true true = omega arith
fewer_or true false = omega arith
fewer_or false true = omega arith
fewer_or false false = omega arith

unopened_less : (path : List ℕ) (c n : ℕ) → unopened (c ∷ path) n ≤ unopened path n
unopened_less path c zero = omega arith
unopened_less path c (suc n) = omega (arith, unopened_less path c n, fewer_or (nat_eq n c) (is_open n path))

opened_now : (b d : Bool) (x y : ℕ) → b ≡ true → d ≡ false → x ≤ y → cond b 0 1 + x < cond d 0 1 + y
opened_now true false x y e f l = omega arith
opened_now true true x y e f l = cc
opened_now false d x y e f l = cc

pub unopened_falls : (path : List ℕ) (c n : ℕ) → c < n → is_open c path ≡ false → unopened (c ∷ path) n < unopened path n
unopened_falls path c zero l e = absurd (omega arith)
unopened_falls path c (suc n) l e =
    elim (cases_eq n c) [
      | inl same ↦
          let first : (nat_eq n c || is_open n path) ≡ true = ap (λ b. b || is_open n path) (eq-eqb n c same) in
          let second : is_open n path ≡ false = ap (λ m. is_open m path) same ∙ e in
          opened_now (nat_eq n c || is_open n path) (is_open n path) _ _ first second (unopened_less path c n)
      | inr apart ↦
          let less : c < n = omega arith in
          omega (arith, unopened_falls path c n less e, fewer_or (nat_eq n c) (is_open n path))
    ]

-- a cell with a readable value is in the store
pub at_within : (s : List Cell) (c : ℕ) (t : Tree) → at s c ≡ Some t → c < length s
at_within [] c t e = cc
at_within (x ∷ s) zero t e = omega arith
at_within (x ∷ s) (suc c) t e = omega (arith, at_within s c t e)

visited : (o : Option Tree) (b : Bool) (t : Tree) → visit_of o b ≡ entered t → (o ≡ Some t) × (b ≡ false)
visited None b t e = cc
visited (Some u) true t e = cc
visited (Some u) false t e = (cc, refl)

-- a cell that opens wasn't open
pub opens : (s : List Cell) (path : List ℕ) (c : ℕ) (t : Tree) → visit s path c ≡ entered t → (at s c ≡ Some t) × (is_open c path ≡ false)
opens s path c t e = visited (at s c) (is_open c path) t e

same_map : {A : Type 0} (o : Visit Tree) (f g : Tree → A) → ((x : Tree) → o ≡ entered x → f x ≡ g x) → visit_map f o ≡ visit_map g o
same_map (entered x) f g h = ap entered (h x refl)
same_map barred f g h = refl
same_map revisited f g h = refl

none_map : {A : Type 0} (o : Visit Tree) (f : Tree → A) → ((x : Tree) → o ≡ entered x → ⊥) → unentered o ≡ visit_map f o
none_map (entered x) f h = absurd (h x refl)
none_map barred f h = refl
none_map revisited f h = refl

-- if the bound suffices, one more changes nothing
more_room : {A : Type 0} (shape : List ℕ → (ℕ → Visit A) → Tree → A) (n : ℕ) (s : List Cell) (path : List ℕ) (t : Tree) → unopened path (length s) ≤ n → walk_in shape n s path t ≡ walk_in shape (suc n) s path t
more_room shape zero s path t h =
    ap (λ f. shape path f t) (fun_ext (λ c. none_map (visit s path c) (walk_in shape zero s (c ∷ path)) (λ x e.
    let o = opens s path c x e in
    omega (arith, unopened_falls path c (length s) (at_within s c x o.0) o.1))))
more_room shape (suc n) s path t h =
    ap (λ f. shape path f t) (fun_ext (λ c. same_map (visit s path c) (walk_in shape n s (c ∷ path)) (walk_in shape (suc n) s (c ∷ path)) (λ x e.
    let o = opens s path c x e in
    more_room shape n s (c ∷ path) x (omega (arith, unopened_falls path c (length s) (at_within s c x o.0) o.1)))))

pub more_room_by : {A : Type 0} (shape : List ℕ → (ℕ → Visit A) → Tree → A) (k n : ℕ) (s : List Cell) (path : List ℕ) (t : Tree) → length s ≤ n → walk_in shape n s path t ≡ walk_in shape (k + n) s path t
more_room_by shape zero n s path t h = ap (λ m. walk_in shape m s path t) (sym (zero-add n))
more_room_by shape (suc k) n s path t h =
    let e : suc (k + n) ≡ suc k + n = omega arith in
    more_room_by shape k n s path t h ∙ more_room shape (k + n) s path t (omega (arith, unopened_le path (length s))) ∙ ap (λ m. walk_in shape m s path t) e

-- a walk by its parts
pub walk_opens : {A : Type 0} (shape : List ℕ → (ℕ → Visit A) → Tree → A) (s : List Cell) (path : List ℕ) (t : Tree) → walk shape s path t ≡ shape path (λ c. visit_map (walk shape s (c ∷ path)) (visit s path c)) t
walk_opens shape s path t = more_room shape (length s) s path t (unopened_le path (length s))

opened_entered : (o : Visit Tree) (t : Tree) → Some t ≡ opened o → o ≡ entered t
opened_entered (entered u) t e = ap entered (same_Some u t (sym e))
opened_entered barred t e = cc
opened_entered revisited t e = cc

-- opening a cell leaves one fewer that aren't open
pub unopened-entry : (s : List Cell) (path next : List ℕ) (v t : Tree) → Some t ≡ entry s path v → IfSome (cell_of v) (λ c. next ≡ c ∷ path) → unopened next (length s) < unopened path (length s)
unopened-entry s path next (node (leaf l) g m) t e is = cc
unopened-entry s path next (node (branch k ts) g m) t e is = cc
unopened-entry s path next (node (fields fs) g m) t e is = cc
unopened-entry s path next (node (holder c) g m) t e is =
    let o = opens s path c t (opened_entered (visit s path c) t e) in
    rw is (unopened_falls path c (length s) (at_within s c t o.0) o.1)
