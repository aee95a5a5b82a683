-- The entry that a name means.
use Rattle.std.proofs.Common.{◌≡◌, ℕ, zero, suc, ◌<◌, Bool, true, false, nat_eq, if◌then◌else◌, List, [], ◌∷◌, ◌++◌, length, map, drop, get_or, slice_get, Option, Some, None, option_map, option_and_then, is_some, refl, sym, ap, ap₂, ◌∙◌, subst, arith}
use Rattle.std.proofs.lemmas.Option.{slice_get_read}
use Rattle.std.specs.Prelude.{◌≢◌}
use Rattle.std.specs.List.{AllByRecursion}
use Rattle.std.specs.Cmp.Lexicographic.{pointwise, bytes_decides}
use Rattle.rhai_scope.specs.Entry.{Entry, copied_entry}
use Rattle.rhai_scope.specs.Lookup.{later_or_here, last_position, last_entry, unless_later, visible}

other_false : (xs ys : List ℕ) (b : Bool) → pointwise nat_eq xs ys ≡ b → (xs ≢ ys) → b ≡ false
other_false xs ys true e h = absurd (h ((bytes_decides xs ys).0 e))
other_false xs ys false e h = refl

-- another name
pub other : (xs ys : List ℕ) → (xs ≢ ys) → pointwise nat_eq xs ys ≡ false
other xs ys h = other_false xs ys (pointwise nat_eq xs ys) refl h

-- this name
pub same : (xs ys : List ℕ) → xs ≡ ys → pointwise nat_eq xs ys ≡ true
same xs ys h = (bytes_decides xs ys).1 h

pub missing : (name : List ℕ) (es : List Entry) → AllByRecursion (λ (e : Entry). e.name ≢ name) es → last_position name es ≡ None
missing name [] h = refl
missing name (e ∷ es) h = ap₂ later_or_here (missing name es h.1) (other e.name name h.0)

pub found : (name : List ℕ) (before after : List Entry) (e : Entry) → e.name ≡ name → AllByRecursion (λ (x : Entry). x.name ≢ name) after → last_position name (before ++ e ∷ after) ≡ Some (length before)
found name [] after e s h = ap₂ later_or_here (missing name after h) (same e.name name s)
found name (x ∷ before) after e s h = ap (λ o. later_or_here o (pointwise nat_eq x.name name)) (found name before after e s h)

get_behind : {A : Type 0} (xs ys : List A) (x : A) → slice_get (xs ++ x ∷ ys) (length xs) ≡ Some x
get_behind [] ys x = refl
get_behind (y ∷ xs) ys x = get_behind xs ys x

pub found_entry : (name : List ℕ) (before after : List Entry) (e : Entry) → e.name ≡ name → AllByRecursion (λ (x : Entry). x.name ≢ name) after → last_entry name (before ++ e ∷ after) ≡ Some e
found_entry name before after e s h = ap (option_and_then (slice_get (before ++ e ∷ after))) (found name before after e s h) ∙ get_behind before after e

-- ---- the last entry of a name, case by case

abbrev pub here : List ℕ → Entry → Option Entry
here name e = if pointwise nat_eq e.name name then Some e else None

abbrev pub or : Option Entry → Option Entry → Option Entry
or None o = o
or (Some e) o = Some e

abbrev pub last_of : List ℕ → List Entry → Option Entry
last_of name [] = None
last_of name (e ∷ es) = or (last_of name es) (here name e)

entry_step : (es : List Entry) (e : Entry) (o : Option ℕ) (l : Option Entry) (b : Bool) → option_and_then (slice_get es) o ≡ l → is_some o ≡ is_some l
    → option_and_then (slice_get (e ∷ es)) (later_or_here o b) ≡ or l (if b then Some e else None)
entry_step es e (Some k) (Some x) b h i = h
entry_step es e (Some k) None b h i = cc
entry_step es e None (Some x) b h i = cc
entry_step es e None None true h i = refl
entry_step es e None None false h i = refl

some_step : (e : Entry) (o : Option ℕ) (l : Option Entry) (b : Bool) → is_some o ≡ is_some l → is_some (later_or_here o b) ≡ is_some (or l (if b then Some e else None))
some_step e (Some k) (Some x) b h = refl
some_step e (Some k) None b h = cc
some_step e None (Some x) b h = cc
some_step e None None true h = refl
some_step e None None false h = refl

pub also_some : (name : List ℕ) (es : List Entry) → is_some (last_position name es) ≡ is_some (last_of name es)
also_some name [] = refl
also_some name (e ∷ es) = some_step e (last_position name es) (last_of name es) (pointwise nat_eq e.name name) (also_some name es)

pub last_is : (name : List ℕ) (es : List Entry) → last_entry name es ≡ last_of name es
last_is name [] = refl
last_is name (e ∷ es) = entry_step es e (last_position name es) (last_of name es) (pointwise nat_eq e.name name) (last_is name es) (also_some name es)

or_none : (o : Option Entry) → or o None ≡ o
or_none None = refl
or_none (Some e) = refl

or_assoc : (a b c : Option Entry) → or (or a b) c ≡ or a (or b c)
or_assoc None b c = refl
or_assoc (Some e) b c = refl

pub append_last : (name : List ℕ) (xs ys : List Entry) → last_of name (xs ++ ys) ≡ or (last_of name ys) (last_of name xs)
append_last name [] ys = sym (or_none (last_of name ys))
append_last name (x ∷ xs) ys = ap (λ o. or o (here name x)) (append_last name xs ys) ∙ or_assoc (last_of name ys) (last_of name xs) (here name x)

-- the entry itself, if it has the name and no later one does
abbrev pub kept_here : Option ℕ → Entry → Bool → Option Entry
kept_here None e b = if b then Some e else None
kept_here (Some k) e b = None

kept_last : (name : List ℕ) (o : Option ℕ) (e : Entry) → last_of name (unless_later o e) ≡ kept_here o e (pointwise nat_eq e.name name)
kept_last name None e = refl
kept_last name (Some k) e = refl

swapped : (o : Option ℕ) (e : Entry) (b : Bool) (l : Option Entry) → (b ≡ true → is_some o ≡ is_some l) → or (kept_here o e b) l ≡ or l (if b then Some e else None)
swapped None e true None h = refl
swapped None e true (Some x) h = let k = h refl in cc
swapped None e false l h = sym (or_none l)
swapped (Some k) e true None h = let k = h refl in cc
swapped (Some k) e true (Some x) h = refl
swapped (Some k) e false l h = sym (or_none l)

pub visible_last : (name : List ℕ) (es : List Entry) → last_of name (visible es) ≡ last_of name es
visible_last name [] = refl
visible_last name (e ∷ es) =
    append_last name (visible es) (unless_later (last_position e.name es) e)
    ∙ (ap₂ or (kept_last name (last_position e.name es) e) (visible_last name es)
    ∙ swapped (last_position e.name es) e (pointwise nat_eq e.name name) (last_of name es) (λ b. also_some e.name es ∙ ap (λ n. is_some (last_of n es)) ((bytes_decides e.name name).0 b)))

copied_or : (l : Option Entry) (b : Bool) (e : Entry) → or (option_map copied_entry l) (if b then Some (copied_entry e) else None) ≡ option_map copied_entry (or l (if b then Some e else None))
copied_or None true e = refl
copied_or None false e = refl
copied_or (Some x) b e = refl

pub copied_last : (name : List ℕ) (es : List Entry) → last_of name (map copied_entry es) ≡ option_map copied_entry (last_of name es)
copied_last name [] = refl
copied_last name (e ∷ es) = ap (λ o. or o (if pointwise nat_eq e.name name then Some (copied_entry e) else None)) (copied_last name es) ∙ copied_or (last_of name es) (pointwise nat_eq e.name name) e

-- a name means the same in the copy of the visible entries
pub visible_means : (name : List ℕ) (es : List Entry) → last_entry name (map copied_entry (visible es)) ≡ option_map copied_entry (last_entry name es)
visible_means name es =
    last_is name (map copied_entry (visible es)) ∙ (copied_last name (visible es) ∙ ap (option_map copied_entry) (visible_last name es ∙ sym (last_is name es)))

-- ---- an entry that is found is in the list, and has the name

within_step : (o : Option ℕ) (here : Bool) (n i : ℕ) → ((k : ℕ) → o ≡ Some k → k < n) → later_or_here o here ≡ Some i → i < suc n
within_step (Some k) here n i before e = let same : suc k ≡ i = cc in omega (arith, before k refl)
within_step None true n i before e = let same : 0 ≡ i = cc in omega arith
within_step None false n i before e = cc

pub position_within : (name : List ℕ) (es : List Entry) (i : ℕ) → last_position name es ≡ Some i → i < length es
position_within name [] i e = cc
position_within name (x ∷ es) i e = within_step (last_position name es) (pointwise nat_eq x.name name) (length es) i (λ k. position_within name es k) e

abbrev name_at : List Entry → ℕ → Option (List ℕ)
name_at es i = option_map (λ e. e.name) (slice_get es i)

named_step : (name : List ℕ) (e : Entry) (es : List Entry) (o : Option ℕ) (here : Bool) (i : ℕ) → ((k : ℕ) → o ≡ Some k → name_at es k ≡ Some name) → pointwise nat_eq e.name name ≡ here → later_or_here o here ≡ Some i
    → name_at (e ∷ es) i ≡ Some name
named_step name e es (Some k) here i before h is = let same : suc k ≡ i = cc in subst (λ j. name_at (e ∷ es) j ≡ Some name) same (before k refl)
named_step name e es None true i before h is = let same : 0 ≡ i = cc in subst (λ j. name_at (e ∷ es) j ≡ Some name) same (ap Some ((bytes_decides e.name name).0 h))
named_step name e es None false i before h is = cc

named_at : (name : List ℕ) (es : List Entry) (i : ℕ) → last_position name es ≡ Some i → name_at es i ≡ Some name
named_at name [] i is = cc
named_at name (e ∷ es) i is = named_step name e es (last_position name es) (pointwise nat_eq e.name name) i (λ k. named_at name es k) refl is

pub found_name : (name : List ℕ) (es : List Entry) (i : ℕ) (e : Entry) → last_position name es ≡ Some i → e ≡ get_or es i e → e.name ≡ name
found_name name es i e is read =
    let there : slice_get es i ≡ Some e = slice_get_read es (length es) i e refl (position_within name es i is) read in
    let names : Some e.name ≡ Some name = sym (ap (option_map (λ (x : Entry). x.name)) there) ∙ named_at name es i is in
    cc

-- ---- a linear search from the last entry on

pub found_here : (name : List ℕ) (es : List Entry) (i : ℕ) (e : Entry) → i < length es → e ≡ get_or es i e → pointwise nat_eq e.name name ≡ true → last_position name (drop (suc i) es) ≡ None → last_position name es ≡ Some i
found_here name [] i e l is same none = absurd (omega (arith, l))
found_here name (x ∷ es) zero e l is same none = ap₂ later_or_here none (ap (λ y. pointwise nat_eq y.name name) (sym is) ∙ same)
found_here name (x ∷ es) (suc i) e l is same none = ap (λ o. later_or_here o (pointwise nat_eq x.name name)) (found_here name es i e (omega (arith, l)) is same none)

pub not_here : (name : List ℕ) (es : List Entry) (i : ℕ) (e : Entry) → i < length es → e ≡ get_or es i e → pointwise nat_eq e.name name ≡ false → last_position name (drop (suc i) es) ≡ None → last_position name (drop i es) ≡ None
not_here name [] i e l is other none = absurd (omega (arith, l))
not_here name (x ∷ es) zero e l is other none = ap₂ later_or_here none (ap (λ y. pointwise nat_eq y.name name) (sym is) ∙ other)
not_here name (x ∷ es) (suc i) e l is other none = not_here name es i e (omega (arith, l)) is other none
