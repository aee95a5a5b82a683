-- One entry more.
use Rattle.std.proofs.Common.{◌≡◌, ℕ, List, [], ◌∷◌, ◌++◌, Bool, true, false, is_some, if◌then◌else◌, map, refl, sym, ap, ◌∙◌, append_assoc}
use Rattle.std.specs.BTreeMap.{insert_entry, is_at}
use Rattle.std.specs.Map.{keys_of, lookup, values_of}
use Rattle.rhai_value.specs.Rows.{Rows, bytes_cmp}
use Rattle.rhai_value.specs.Tree.{Tree}
use Rattle.rhai_packs.specs.Entries.{mixed, filled}

pub mixed_more : (rs es : Rows) (e : List ℕ × Tree) → mixed rs (es ++ e ∷ []) ≡ insert_entry bytes_cmp (mixed rs es) e.0 e.1
mixed_more rs [] e = refl
mixed_more rs (d ∷ es) e = mixed_more (insert_entry bytes_cmp rs d.0 d.1) es e

pub filled_more : (rs es : Rows) (e : List ℕ × Tree) → filled rs (es ++ e ∷ []) ≡ (if is_some (lookup (is_at (bytes_cmp e.0)) (filled rs es)) then filled rs es else insert_entry bytes_cmp (filled rs es) e.0 e.1)
filled_more rs [] e = refl
filled_more rs (d ∷ es) e = filled_more (if is_some (lookup (is_at (bytes_cmp d.0)) rs) then rs else insert_entry bytes_cmp rs d.0 d.1) es e

-- the next entry is done
pub one_more : {A : Type 0} (all done it left : List A) (e : A) → all ≡ done ++ it → it ≡ e ∷ left → all ≡ (done ++ e ∷ []) ++ left
one_more all done it left e a s = a ∙ ap (λ r. done ++ r) s ∙ sym (append_assoc done (e ∷ []) left)

pub keys_more : {A : Type 0} (f : List ℕ → A) (es : Rows) (e : List ℕ × Tree) → map f (keys_of (es ++ e ∷ [])) ≡ map f (keys_of es) ++ f e.0 ∷ []
keys_more f [] e = refl
keys_more f (d ∷ es) e = ap (λ r. f d.0 ∷ r) (keys_more f es e)

pub values_more : {A : Type 0} (f : Tree → A) (es : Rows) (e : List ℕ × Tree) → map f (values_of (es ++ e ∷ [])) ≡ map f (values_of es) ++ f e.1 ∷ []
values_more f [] e = refl
values_more f (d ∷ es) e = ap (λ r. f d.1 ∷ r) (values_more f es e)

abbrev is_there : Rows → List ℕ → Bool
is_there rs k = is_some (lookup (is_at (bytes_cmp k)) rs)

-- an existing key is unchanged, and an absent one is set
pub filled_there : (rs es : Rows) (e : List ℕ × Tree) (qs : Rows) → qs ≡ filled rs es → is_there qs e.0 ≡ true → qs ≡ filled rs (es ++ e ∷ [])
filled_there rs es e qs made there = made ∙ sym (filled_more rs es e ∙ ap (λ b. if b then filled rs es else insert_entry bytes_cmp (filled rs es) e.0 e.1) (ap (λ r. is_there r e.0) (sym made) ∙ there))

pub filled_new : (rs es : Rows) (e : List ℕ × Tree) (qs us : Rows) → qs ≡ filled rs es → is_there qs e.0 ≡ false → us ≡ insert_entry bytes_cmp qs e.0 e.1 → us ≡ filled rs (es ++ e ∷ [])
filled_new rs es e qs us made there set = set ∙ ap (λ r. insert_entry bytes_cmp r e.0 e.1) made ∙ sym (filled_more rs es e ∙ ap (λ b. if b then filled rs es else insert_entry bytes_cmp (filled rs es) e.0 e.1) (ap (λ r. is_there r e.0) (sym made) ∙ there))
