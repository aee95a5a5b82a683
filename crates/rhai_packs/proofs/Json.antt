-- Writing the JSON text of maps.
use Rattle.std.proofs.Common.{◌≡◌, ◌++◌, ◌∷◌, [], ℕ, List, ℤ, Bool, true, false, Option, Some, None, IfSome, is_some, drop, reverse, codes, refl, sym, ap, ◌∙◌, subst, append_assoc}
use Rattle.std.proofs.lemmas.List.{reverse-append}
use Rattle.std.specs.Str.{chars}
use Rattle.std.specs.List.{flat_map}
use Rattle.rhai_text.specs.Quote.{quoted_text}
use Rattle.rhai_value.specs.declared.cells.store.Cell.{Cell}
use Rattle.rhai_value.specs.End.{end, held_in}
use Rattle.rhai_value.specs.Walk.{entry}
use Rattle.rhai_value.specs.Rows.{Rows, fields_of}
use Rattle.rhai_value.specs.Tree.{Tree, cell_of, leaf, node, unit}
use Rattle.rhai_value.specs.declared.value.access_mode.AccessMode.{AccessMode}
use Rattle.rhai_show.specs.Text.{printed}
use Rattle.rhai_show.specs.declared.form.Form.TheVariants.{Debug}
use Rattle.rhai_show.specs.Rests.{HasOpen, closed_by}
use Rattle.rhai_packs.specs.Json.{AreMembers, IsJson, Writes, comma_unless, inner, inner_of, is_printed, member, member_then, no_members, of_map, of_none, of_other, of_unit, object, rest_text}
use Rattle.rhai_packs.specs.declared.maps.json.Object.{Object}

-- Whatever the rest of the maps that are being written is, the text with it is as wanted.
abbrev pub Writing : List Cell → (List ℕ → Type 0) → List ℕ → List ℕ → List Object → Type 0
Writing s Wanted out path [] = Wanted out
Writing s Wanted out path (o ∷ os) =
    HasOpen o.is_held path × ((members : List (List ℕ)) → AreMembers s path (fields_of o.entries) members → Writing s Wanted (out ++ rest_text o.is_first members) (closed_by o.is_held path) os)

-- the text with the rest of a map behind another
abbrev pub Whole : List Cell → Rows → List ℕ → List ℕ → Type 0
Whole s rs old text = (members : List (List ℕ)) × AreMembers s [] (fields_of rs) members × (text ≡ old ++ rest_text true members)

regrouped : (a b c d e f : List ℕ) → a ++ (b ++ (c ++ d ++ e ++ f)) ≡ ((a ++ (b ++ (c ++ d))) ++ e) ++ f
regrouped [] [] [] [] e f = refl
regrouped [] [] [] (x ∷ d) e f = ap (λ r. x ∷ r) (regrouped [] [] [] d e f)
regrouped [] [] (x ∷ c) d e f = ap (λ r. x ∷ r) (regrouped [] [] c d e f)
regrouped [] (x ∷ b) c d e f = ap (λ r. x ∷ r) (regrouped [] b c d e f)
regrouped (x ∷ a) b c d e f = ap (λ r. x ∷ r) (regrouped a b c d e f)

rest_more : (is_first : Bool) (m : List ℕ) (ms : List (List ℕ)) → rest_text is_first (m ∷ ms) ≡ comma_unless is_first ++ (m ++ rest_text false ms)
rest_more true m ms = append_assoc m (flat_map (λ x. codes "," ++ x) ms) (codes "}")
rest_more false m ms = ap (λ r. r ++ codes "}") (append_assoc (codes ",") m (flat_map (λ x. codes "," ++ x) ms)) ∙ append_assoc (codes ",") (m ++ flat_map (λ x. codes "," ++ x) ms) (codes "}")
    ∙ ap (λ r. codes "," ++ r) (append_assoc m (flat_map (λ x. codes "," ++ x) ms) (codes "}"))

module _ (s : List Cell) (Wanted : List ℕ → Type 0) (out path : List ℕ) (o next : Object) (os : List Object) (key : List ℕ) (t : Tree) (taken : o.entries ≡ (key, t) ∷ next.entries) (later : next.is_first ≡ false) (same : next.is_held ≡ o.is_held) (writing : Writing s Wanted out path (o ∷ os)) where
  -- a member was written
  pub member_written : (value new : List ℕ) → IsJson s (inner s path t) value → new ≡ (out ++ (comma_unless o.is_first ++ (quoted_text (chars key) ++ codes ":"))) ++ value → Writing s Wanted new path (next ∷ os)
  member_written value new json e = (
    subst (λ b. HasOpen b path) (sym same) writing.0,
    λ members are.
        let all = writing.1 (member (chars key) value ∷ members) (subst (λ rs. AreMembers s path (fields_of rs) (member (chars key) value ∷ members)) (sym taken) (member_then json are)) in
        let text : out ++ rest_text o.is_first (member (chars key) value ∷ members) ≡ new ++ rest_text next.is_first members =
        ap (λ r. out ++ r) (rest_more o.is_first (member (chars key) value) members)
        ∙ regrouped out (comma_unless o.is_first) (quoted_text (chars key)) (codes ":") value (rest_text false members)
        ∙ ap (λ r. r ++ rest_text false members) (sym e)
        ∙ ap (λ b. new ++ rest_text b members) (sym later) in
        subst (λ r. Writing s Wanted r (closed_by next.is_held path) os) text (subst (λ b. Writing s Wanted (out ++ rest_text o.is_first (member (chars key) value ∷ members)) (closed_by b path) os) (sym same) all),
  )

  -- what stands before a map was written
  pub map_opened : (inside : Object) (now new mid : List ℕ) → mid ≡ out ++ (comma_unless o.is_first ++ (quoted_text (chars key) ++ codes ":")) → Writes s (inner s path t) path now mid new (Some inside) → Writing s Wanted new now (inside ∷ next ∷ os)
  map_opened inside now new mid e w = (
    w.2,
    λ members are.
        let value = object members in
        let json = subst (λ i. IsJson s i value) (sym w.0.2) (of_map are) in
        let text : mid ++ value ≡ new ++ rest_text inside.is_first members =
        sym (append_assoc mid (codes "{") (rest_text true members)) ∙ ap (λ r. r ++ rest_text true members) (sym w.4) ∙ ap (λ b. new ++ rest_text b members) (sym w.1) in
        subst (λ p. Writing s Wanted (new ++ rest_text inside.is_first members) p (next ∷ os)) (sym w.3)
        (subst (λ r. Writing s Wanted r path (next ∷ os)) text (member_written value (mid ++ value) json (ap (λ r. r ++ value) e))),
  )

-- a value was written
pub other_written : (s : List Cell) (path now old new : List ℕ) (t : Tree) (held : Bool) → is_printed t ≡ true → now ≡ closed_by held path → new ≡ old ++ printed s [] t Debug → Writes s (Some (path, t)) (closed_by held path) now old new None
other_written s path now old new t held other closed text = (closed, (printed s [] t Debug, of_other other, text))

pub unit_written : (s : List Cell) (path now old new : List ℕ) (t : Tree) (held : Bool) (o : Option Object) → (g : ℤ) × (m : AccessMode) × (t ≡ node (leaf unit) g m) → now ≡ closed_by held path → (o ≡ None) × (new ≡ old ++ codes "null") → Writes s (Some (path, t)) (closed_by held path) now old new o
unit_written s path now old new t held o is closed null =
    subst (Writes s (Some (path, t)) (closed_by held path) now old new) (sym null.0) (closed, (codes "null", subst (λ u. IsJson s (Some (path, u)) (codes "null")) (sym is.2) of_unit, null.1))

null_written : (s : List Cell) (i : Option (List ℕ × Tree)) (path now old new : List ℕ) (o : Option Object) → i ≡ None → now ≡ path → (o ≡ None) × (new ≡ old ++ codes "null") → Writes s i path now old new o
null_written s i path now old new o none same null =
    subst (Writes s i path now old new) (sym null.0) (same, (codes "null", subst (λ j. IsJson s j (codes "null")) (sym none) of_none, null.1))

shut : (c : Option ℕ) (e h : Option Tree) (path : List ℕ) (t : Tree) → is_some c ≡ true → e ≡ None → inner_of c e h path t ≡ None
shut None e h path t some none = cc
shut (Some c) None h path t some none = refl
shut (Some c) (Some x) h path t some none = cc

unread : (c : Option ℕ) (e h : Option Tree) (path : List ℕ) (t : Tree) → is_some c ≡ true → h ≡ None → inner_of c e h path t ≡ None
unread None e h path t some none = cc
unread (Some c) None h path t some none = refl
unread (Some c) (Some x) None path t some none = refl
unread (Some c) (Some x) (Some y) path t some none = cc

module _ (s : List Cell) (path : List ℕ) (t : Tree) (now old new : List ℕ) (o : Option Object) (holder : is_some (cell_of t) ≡ true) where
  -- a holder that doesn't open, and one whose chain can't be read
  pub shut_written : entry s path t ≡ None → now ≡ path → (o ≡ None) × (new ≡ old ++ codes "null") → Writes s (inner s path t) path now old new o
  shut_written e = null_written s (inner s path t) path now old new o (shut (cell_of t) (entry s path t) (held_in (end s [] t)) path t holder e)

  pub unread_written : held_in (end s [] t) ≡ None → now ≡ path → (o ≡ None) × (new ≡ old ++ codes "null") → Writes s (inner s path t) path now old new o
  unread_written h = null_written s (inner s path t) path now old new o (unread (cell_of t) (entry s path t) (held_in (end s [] t)) path t holder h)

-- the cell opened last is closed
pub closed_again : (c : Option ℕ) (now path : List ℕ) → is_some c ≡ true → IfSome c (λ n. now ≡ n ∷ path) → drop 1 now ≡ path
closed_again None now path some opened = cc
closed_again (Some n) now path some opened = ap (drop 1) opened

-- the last map put aside is the first of those around
pub put_aside : (os all : List Object) (o : Object) → all ≡ os ++ o ∷ [] → reverse all ≡ o ∷ reverse os
put_aside os all o e = ap reverse e ∙ reverse-append os (o ∷ [])

rest_none : (is_first : Bool) → rest_text is_first [] ≡ codes "}"
rest_none true = refl
rest_none false = refl

-- a map without further entries ends
pub object_ended : (s : List Cell) (Wanted : List ℕ → Type 0) (out path new : List ℕ) (o : Object) (os : List Object) → o.entries ≡ [] → Writing s Wanted out path (o ∷ os) → new ≡ out ++ codes "}" → Writing s Wanted new (closed_by o.is_held path) os
object_ended s Wanted out path new o os done writing e =
    subst (λ r. Writing s Wanted r (closed_by o.is_held path) os) (ap (λ r. out ++ r) (rest_none o.is_first) ∙ sym e)
    (writing.1 [] (subst (λ rs. AreMembers s path (fields_of rs) []) (sym done) no_members))
