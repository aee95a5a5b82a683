-- Entries that are equal up to a renaming of cells, and the effect of the scope's calls on them.
use Rattle.std.proofs.Common.{◌≡◌, ℕ, zero, suc, ◌-◌, Bool, nat_eq, if◌then◌else◌, List, [], ◌∷◌, length, map, take, drop, slice_get, Option, Some, None, option_map, option_and_then, refl, ap, ap₂, ◌∙◌, subst}
use Rattle.std.specs.Prelude.{remove}
use Rattle.std.specs.Cmp.Lexicographic.{pointwise}
use Rattle.std.specs.List.{AllZip, zip}
use Rattle.rhai_value.specs.declared.value.access_mode.AccessMode.{AccessMode}
use Rattle.rhai_value.specs.declared.value.access_mode.AccessMode.TheVariants.{ReadWrite}
use Rattle.rhai_value.specs.declared.value.type_id.TypeId.{TypeId}
use Rattle.rhai_value.specs.Relation.{Renaming, Related, Alike}
use Rattle.rhai_value.specs.Tree.{Tree, mode_of, is_constant, copy, paint}
use Rattle.rhai_value.proofs.ForCallers.{same_copy, same_mode, same_paint, zip_append, zip_drop, zip_get, zip_length, zip_take}
use Rattle.rhai_variant.proofs.ForCallers.{same_written_as}
use Rattle.rhai_scope.specs.Alias.{with_alias, aliased}
use Rattle.rhai_scope.specs.Entry.{Entry, new_entry, pushed, popped, is_constant_entry, with_value, copied_value, copied_entry}
use Rattle.rhai_scope.specs.Extended.{flagged_mode, extended, extended_flagged, flagged_values}
use Rattle.rhai_scope.specs.Lookup.{later_or_here, last_position, last_entry, value_named, aliases_named, value_at, unless_constant, writable_position, changed_at, changed_if, changed_named, with_value_at, unless_later, visible}
use Rattle.rhai_scope.specs.Relation.{RelatedEntry, RelatedEntries, RelatedPair, RelatedNamed, RespectEntries}
use Rattle.rhai_scope.specs.Typed.{set_or_pushed, removed_at, written_entry}

alike_map : {A B C D : Type 0} (R : A → B → Type 0) (S : C → D → Type 0) (f : A → C) (g : B → D) → ((x : A) (y : B) → R x y → S (f x) (g y)) → (o : Option A) (p : Option B) → Alike R o p → Alike S (option_map f o) (option_map g p)
alike_map R S f g k None None h = tt
alike_map R S f g k (Some x) (Some y) h = k x y h
alike_map R S f g k None (Some y) h = absurd h
alike_map R S f g k (Some x) None h = absurd h

alike_same : {A B C : Type 0} (R : A → B → Type 0) (f : A → Option C) (g : B → Option C) → ((x : A) (y : B) → R x y → f x ≡ g y) → (o : Option A) (p : Option B) → Alike R o p → option_and_then f o ≡ option_and_then g p
alike_same R f g k None None h = refl
alike_same R f g k (Some x) (Some y) h = k x y h
alike_same R f g k None (Some y) h = absurd h
alike_same R f g k (Some x) None h = absurd h

map_same : {A B C : Type 0} (R : A → B → Type 0) (f : A → C) (g : B → C) → ((x : A) (y : B) → R x y → f x ≡ g y) → (o : Option A) (p : Option B) → Alike R o p → option_map f o ≡ option_map g p
map_same R f g k None None h = refl
map_same R f g k (Some x) (Some y) h = ap Some (k x y h)
map_same R f g k None (Some y) h = absurd h
map_same R f g k (Some x) None h = absurd h

pub same_map : {A B C D : Type 0} (R : A → B → Type 0) (S : C → D → Type 0) (f : A → C) (g : B → D) → ((x : A) (y : B) → R x y → S (f x) (g y)) → (xs : List A) (ys : List B) → AllZip R xs ys → AllZip S (map f xs) (map g ys)
same_map R S f g k [] [] h = tt
same_map R S f g k (x ∷ xs) (y ∷ ys) h = (k x y h.0, same_map R S f g k xs ys h.1)
same_map R S f g k [] (y ∷ ys) h = absurd h
same_map R S f g k (x ∷ xs) [] h = absurd h

module _ (r : Renaming) where
  -- ---- look-ups

  pub same_position : (name : List ℕ) (es fs : List Entry) → RelatedEntries r es fs → last_position name es ≡ last_position name fs
  same_position name [] [] h = refl
  same_position name (e ∷ es) (f ∷ fs) h = ap₂ later_or_here (same_position name es fs h.1) (ap (λ n. pointwise nat_eq n name) h.0.0)
  same_position name [] (f ∷ fs) h = absurd h
  same_position name (e ∷ es) [] h = absurd h

  pub same_at : (es fs : List Entry) (o : Option ℕ) → RelatedEntries r es fs → Alike (RelatedEntry r) (option_and_then (slice_get es) o) (option_and_then (slice_get fs) o)
  same_at es fs None h = tt
  same_at es fs (Some i) h = zip_get (RelatedEntry r) es fs i h

  pub same_last_entry : (name : List ℕ) (es fs : List Entry) → RelatedEntries r es fs → Alike (RelatedEntry r) (last_entry name es) (last_entry name fs)
  same_last_entry name es fs h = subst (λ o. Alike (RelatedEntry r) (last_entry name es) (option_and_then (slice_get fs) o)) (same_position name es fs h) (same_at es fs (last_position name es) h)

  same_value_at : (es fs : List Entry) (o : Option ℕ) → RelatedEntries r es fs → Alike (Related r) (value_at es o) (value_at fs o)
  same_value_at es fs o h = alike_map (RelatedEntry r) (Related r) (λ e. e.value) (λ e. e.value) (λ x y k. k.2) (option_and_then (slice_get es) o) (option_and_then (slice_get fs) o) (same_at es fs o h)

  pub same_named : (name : List ℕ) (es fs : List Entry) → RelatedEntries r es fs → Alike (Related r) (value_named name es) (value_named name fs)
  same_named name es fs h = alike_map (RelatedEntry r) (Related r) (λ e. e.value) (λ e. e.value) (λ x y k. k.2) (last_entry name es) (last_entry name fs) (same_last_entry name es fs h)

  pub same_aliases_named : (name : List ℕ) (es fs : List Entry) → RelatedEntries r es fs → aliases_named name es ≡ aliases_named name fs
  same_aliases_named name es fs h = map_same (RelatedEntry r) (λ e. e.aliases) (λ e. e.aliases) (λ e f k. k.1) (last_entry name es) (last_entry name fs) (same_last_entry name es fs h)

  pub same_constant : (e f : Entry) → RelatedEntry r e f → is_constant_entry e ≡ is_constant_entry f
  same_constant e f h = ap is_constant (same_mode r e.value f.value h.2)

  pub same_constant_named : (name : List ℕ) (es fs : List Entry) → RelatedEntries r es fs → option_map is_constant_entry (last_entry name es) ≡ option_map is_constant_entry (last_entry name fs)
  same_constant_named name es fs h = map_same (RelatedEntry r) is_constant_entry is_constant_entry same_constant (last_entry name es) (last_entry name fs) (same_last_entry name es fs h)

  same_writable_at : (es fs : List Entry) (o : Option ℕ) → RelatedEntries r es fs
      → option_and_then (λ k. option_and_then (unless_constant k) (slice_get es k)) o ≡ option_and_then (λ k. option_and_then (unless_constant k) (slice_get fs k)) o
  same_writable_at es fs None h = refl
  same_writable_at es fs (Some k) h =
      alike_same (RelatedEntry r) (unless_constant k) (unless_constant k) (λ e f j. ap (λ b. if b then None else Some k) (same_constant e f j)) (slice_get es k) (slice_get fs k) (zip_get (RelatedEntry r) es fs k h)

  pub same_writable : (name : List ℕ) (es fs : List Entry) → RelatedEntries r es fs → writable_position name es ≡ writable_position name fs
  same_writable name es fs h =
      same_writable_at es fs (last_position name es) h ∙ ap (λ o. option_and_then (λ k. option_and_then (unless_constant k) (slice_get fs k)) o) (same_position name es fs h)

  -- ---- entries added and removed

  pub same_pushed : (m : AccessMode) (name : List ℕ) (t u : Tree) (es fs : List Entry) → Related r t u → RelatedEntries r es fs → RelatedEntries r (pushed m name t es) (pushed m name u fs)
  same_pushed m name t u es fs k h = zip_append (RelatedEntry r) es (new_entry name (paint m t) ∷ []) fs (new_entry name (paint m u) ∷ []) h ((refl, refl, same_paint r m t u k), tt)

  pub same_taken : (n : ℕ) (es fs : List Entry) → RelatedEntries r es fs → RelatedEntries r (take n es) (take n fs)
  same_taken n es fs h = zip_take (RelatedEntry r) n es fs h

  pub same_popped : (es fs : List Entry) → RelatedEntries r es fs → RelatedEntries r (popped es) (popped fs)
  same_popped es fs h = subst (λ n. RelatedEntries r (popped es) (take (n - 1) fs)) (zip_length (RelatedEntry r) es fs h) (same_taken (length es - 1) es fs h)

  same_removed : (i : ℕ) (es fs : List Entry) → RelatedEntries r es fs → RelatedEntries r (remove es i) (remove fs i)
  same_removed i es fs h = zip_append (RelatedEntry r) (take i es) (drop (suc i) es) (take i fs) (drop (suc i) fs) (zip_take (RelatedEntry r) i es fs h) (zip_drop (RelatedEntry r) (suc i) es fs h)

  pub same_removed_at : (o : Option ℕ) (es fs : List Entry) → RelatedEntries r es fs → RelatedEntries r (removed_at o es) (removed_at o fs)
  same_removed_at None es fs h = h
  same_removed_at (Some i) es fs h = same_removed i es fs h

  -- ---- entries changed

  same_changed_at : (f g : Entry → Entry) (i : ℕ) (es fs : List Entry) → RespectEntries r f g → RelatedEntries r es fs → RelatedEntries r (changed_at f es i) (changed_at g fs i)
  same_changed_at f g i [] [] k h = tt
  same_changed_at f g zero (x ∷ es) (y ∷ fs) k h = (k x y h.0, h.1)
  same_changed_at f g (suc i) (x ∷ es) (y ∷ fs) k h = (h.0, same_changed_at f g i es fs k h.1)
  same_changed_at f g i [] (y ∷ fs) k h = absurd h
  same_changed_at f g i (x ∷ es) [] k h = absurd h

  pub same_changed_if : (f g : Entry → Entry) (o : Option ℕ) (es fs : List Entry) → RespectEntries r f g → RelatedEntries r es fs → RelatedEntries r (changed_if f es o) (changed_if g fs o)
  same_changed_if f g None es fs k h = h
  same_changed_if f g (Some i) es fs k h = same_changed_at f g i es fs k h

  pub same_changed_named : (f g : Entry → Entry) (name : List ℕ) (es fs : List Entry) → RespectEntries r f g → RelatedEntries r es fs → RelatedEntries r (changed_named f name es) (changed_named g name fs)
  same_changed_named f g name es fs k h = subst (λ o. RelatedEntries r (changed_named f name es) (changed_if g fs o)) (same_position name es fs h) (same_changed_if f g (last_position name es) es fs k h)

  pub same_with_value : (t u : Tree) → Related r t u → RespectEntries r (with_value t) (with_value u)
  same_with_value t u k e f h = (h.0, h.1, k)

  pub same_with_value_at : (o : Option ℕ) (t u : Tree) (es fs : List Entry) → Related r t u → RelatedEntries r es fs → RelatedEntries r (with_value_at es o t) (with_value_at fs o u)
  same_with_value_at o t u es fs k h = same_changed_if (with_value t) (with_value u) o es fs (same_with_value t u k) h

  pub same_aliased : (a : List ℕ) → RespectEntries r (aliased a) (aliased a)
  same_aliased a e f h = (h.0, ap (with_alias a) h.1, h.2)

  pub same_written_entry : (k : TypeId) (v w : Tree) → Related r v w → RespectEntries r (written_entry k v) (written_entry k w)
  same_written_entry k v w j e f h = (h.0, h.1, same_written_as r k v w j e.value f.value h.2)

  pub same_set_or_pushed : (o : Option ℕ) (name : List ℕ) (t u : Tree) (es fs : List Entry) → Related r t u → RelatedEntries r es fs → RelatedEntries r (set_or_pushed o name t es) (set_or_pushed o name u fs)
  same_set_or_pushed None name t u es fs k h = same_pushed ReadWrite name t u es fs k h
  same_set_or_pushed (Some i) name t u es fs k h = same_changed_at (with_value t) (with_value u) i es fs (same_with_value t u k) h

  -- ---- copies and extensions

  same_copied_value : (t u : Tree) → Related r t u → Related r (copied_value t) (copied_value u)
  same_copied_value t u h = subst (λ m. Related r (copied_value t) (paint m (copy u))) (same_mode r t u h) (same_paint r (mode_of t) (copy t) (copy u) (same_copy r t u h))

  pub same_copied : RespectEntries r copied_entry copied_entry
  same_copied e f h = (h.0, h.1, same_copied_value e.value f.value h.2)

  pub same_copies : (es fs : List Entry) → RelatedEntries r es fs → RelatedEntries r (map copied_entry es) (map copied_entry fs)
  same_copies es fs h = same_map (RelatedEntry r) (RelatedEntry r) copied_entry copied_entry same_copied es fs h

  same_unless : (o : Option ℕ) (e f : Entry) → RelatedEntry r e f → RelatedEntries r (unless_later o e) (unless_later o f)
  same_unless None e f h = (h, tt)
  same_unless (Some k) e f h = tt

  pub same_visible : (es fs : List Entry) → RelatedEntries r es fs → RelatedEntries r (visible es) (visible fs)
  same_visible [] [] h = tt
  same_visible (e ∷ es) (f ∷ fs) h =
      let place = same_position e.name es fs h.1 ∙ ap (λ n. last_position n fs) h.0.0 in
      zip_append (RelatedEntry r) (visible es) (unless_later (last_position e.name es) e) (visible fs) (unless_later (last_position f.name fs) f) (same_visible es fs h.1)
      (subst (λ o. RelatedEntries r (unless_later (last_position e.name es) e) (unless_later o f)) place (same_unless (last_position e.name es) e f h.0))
  same_visible [] (f ∷ fs) h = absurd h
  same_visible (e ∷ es) [] h = absurd h

  pub same_extended : (es fs : List Entry) (xs ys : List (List ℕ × Tree)) → RelatedEntries r es fs → AllZip (RelatedPair r) xs ys → RelatedEntries r (extended es xs) (extended fs ys)
  same_extended es fs xs ys h k =
      zip_append (RelatedEntry r) es (map (λ x. new_entry x.0 (paint ReadWrite x.1)) xs) fs (map (λ x. new_entry x.0 (paint ReadWrite x.1)) ys) h
      (same_map (RelatedPair r) (RelatedEntry r) (λ x. new_entry x.0 (paint ReadWrite x.1)) (λ x. new_entry x.0 (paint ReadWrite x.1)) (λ x y j. (j.0, refl, same_paint r ReadWrite x.1 y.1 j.1)) xs ys k)

  pub same_extended_flagged : (es fs : List Entry) (xs ys : List (List ℕ × Bool × Tree)) → RelatedEntries r es fs → AllZip (RelatedNamed r) xs ys → RelatedEntries r (extended_flagged es xs) (extended_flagged fs ys)
  same_extended_flagged es fs xs ys h k =
      zip_append (RelatedEntry r) es (map (λ x. new_entry x.0 (paint (flagged_mode x.1) x.2)) xs) fs (map (λ x. new_entry x.0 (paint (flagged_mode x.1) x.2)) ys) h
      (same_map (RelatedNamed r) (RelatedEntry r) (λ x. new_entry x.0 (paint (flagged_mode x.1) x.2)) (λ x. new_entry x.0 (paint (flagged_mode x.1) x.2))
      (λ x y j. (j.0, refl, subst (λ m. Related r (paint (flagged_mode x.1) x.2) (paint m y.2)) (ap flagged_mode j.1) (same_paint r (flagged_mode x.1) x.2 y.2 j.2))) xs ys k)

  -- ---- values with their names

  pub same_zip : {A : Type 0} (ns : List A) (ts us : List Tree) → AllZip (Related r) ts us → AllZip (λ x y. (x.0 ≡ y.0) × Related r x.1 y.1) (zip ns ts) (zip ns us)
  same_zip [] ts us h = tt
  same_zip (n ∷ ns) [] [] h = tt
  same_zip (n ∷ ns) (t ∷ ts) (u ∷ us) h = ((refl, h.0), same_zip ns ts us h.1)
  same_zip (n ∷ ns) [] (u ∷ us) h = absurd h
  same_zip (n ∷ ns) (t ∷ ts) [] h = absurd h

  pub same_extended_values : (ns : List (List ℕ)) (ts us : List Tree) (es fs : List Entry) → AllZip (Related r) ts us → RelatedEntries r es fs → RelatedEntries r (extended es (zip ns ts)) (extended fs (zip ns us))
  same_extended_values ns ts us es fs k h = same_extended es fs (zip ns ts) (zip ns us) h (same_zip ns ts us k)

  pub same_flagged_values : (ns : List (List ℕ × Bool)) (ts us : List Tree) (es fs : List Entry) → AllZip (Related r) ts us → RelatedEntries r es fs
      → RelatedEntries r (extended_flagged es (flagged_values ns ts)) (extended_flagged fs (flagged_values ns us))
  same_flagged_values ns ts us es fs k h =
      same_extended_flagged es fs (flagged_values ns ts) (flagged_values ns us) h
      (same_map (λ x y. (x.0 ≡ y.0) × Related r x.1 y.1) (RelatedNamed r) (λ p. (p.0.0, p.0.1, p.1)) (λ p. (p.0.0, p.0.1, p.1)) (λ x y j. (ap (λ n. n.0) j.0, ap (λ n. n.1) j.0, j.1)) (zip ns ts) (zip ns us) (same_zip ns ts us k))
