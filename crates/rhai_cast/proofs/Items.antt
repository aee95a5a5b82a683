-- Items read one after another, and their sources.
use Rattle.std.proofs.Common.{◌≡◌, ℕ, Bool, true, false, ◌||◌, List, [], ◌∷◌, ◌++◌, length, map, Option, Some, None, option_map, is_some, refl, sym, ap, ◌∙◌}
use Rattle.std.proofs.lemmas.List.{append_assoc, map-append}
use Rattle.std.specs.Option.{option_or}
use Rattle.rhai_value.specs.declared.cells.store.Cell.{Cell}
use Rattle.rhai_value.specs.declared.value.type_id.TypeId.{TypeId}
use Rattle.rhai_value.specs.declared.value.type_id.TypeId.TheVariants as id
use Rattle.rhai_value.specs.End.{End, held, stuck, closed, end, held_part, end_type, flattened, array_moved}
use Rattle.rhai_value.specs.Parts.{array_of, blob_of}
use Rattle.rhai_value.specs.Tree.{Tree, node, leaf, branch, fields, holder, array, function, Trees, no_trees, tree_then, cell_of, copy_trees}
use Rattle.rhai_value.specs.Rows.{trees_of}
use Rattle.rhai_value.specs.Types.{is_type, tree_type}
use Rattle.rhai_variant.specs.Reads.{read}
use Rattle.rhai_cast.specs.Arrays.{with_front, read_all, unread_or, first_unread, byte_tree, bytes_at, typed_items, typed_array}
use Rattle.rhai_cast.proofs.FlatValues.{opens}

pub empty : {A : Type 0} (xs : List A) → length xs ≡ 0 → xs ≡ []
empty [] h = refl
empty (x ∷ xs) h = cc

-- ---- one more item

joined : {A : Type 0} (tree : A → Tree) (xs : List A) (x : A) (o : Option (List Tree)) → option_map (λ ys. map tree (xs ++ x ∷ []) ++ ys) o ≡ option_map (λ ys. map tree xs ++ ys) (with_front (Some (tree x)) o)
joined tree xs x None = refl
joined tree xs x (Some ys) = ap Some (ap (λ zs. zs ++ ys) (map-append tree xs (x ∷ [])) ∙ append_assoc (map tree xs) (tree x ∷ []) ys)

pub read_more : {A : Type 0} (tree : A → Tree) (k : TypeId) (s : List Cell) (xs : List A) (x : A) (t : Tree) (ts : Trees) → Some (tree x) ≡ read k (flattened s t)
    → option_map (λ ys. map tree (xs ++ x ∷ []) ++ ys) (read_all k s ts) ≡ option_map (λ ys. map tree xs ++ ys) (read_all k s (tree_then t ts))
read_more tree k s xs x t ts is = joined tree xs x (read_all k s ts) ∙ ap (λ o. option_map (λ ys. map tree xs ++ ys) (with_front o (read_all k s ts))) is

pub unread_more : (k : TypeId) (s : List Cell) (x : Tree) (t : Tree) (ts : Trees) → Some x ≡ read k (flattened s t) → first_unread k s ts ≡ first_unread k s (tree_then t ts)
unread_more k s x t ts is = ap (λ o. unread_or o t (first_unread k s ts)) is

-- ---- an item that can't be read

pub none_read : (k : TypeId) (s : List Cell) (t : Tree) (ts : Trees) → None ≡ read k (flattened s t) → read_all k s (tree_then t ts) ≡ None
none_read k s t ts is = sym (ap (λ o. with_front o (read_all k s ts)) is)

pub unread_here : (k : TypeId) (s : List Cell) (t : Tree) (ts : Trees) → None ≡ read k (flattened s t) → first_unread k s (tree_then t ts) ≡ tree_type t
unread_here k s t ts is = sym (ap (λ o. unread_or o t (first_unread k s ts)) is)

pub mapped_none : {A B : Type 0} (f : A → B) (o : Option A) → o ≡ None → option_map f o ≡ None
mapped_none f o e = ap (option_map f) e

-- ---- the sources of an array and a blob

pub own_end_type : (s : List Cell) (t : Tree) → is_some (cell_of t) ≡ false → end_type (end s [] t) ≡ tree_type t
own_end_type s (node (leaf l) g m) h = ap end_type (opens s (node (leaf l) g m))
own_end_type s (node (branch k ts) g m) h = ap end_type (opens s (node (branch k ts) g m))
own_end_type s (node (fields fs) g m) h = ap end_type (opens s (node (fields fs) g m))
own_end_type s (node (holder c) g m) h = cc

pub no_array : (s : List Cell) (t : Tree) → held_part array_of (end s [] t) ≡ None → array_moved s t ≡ None
no_array s (node (leaf l) g m) h = ap (option_map copy_trees) h
no_array s (node (branch array ts) g m) h = let e : Some ts ≡ None = sym (ap (held_part array_of) (opens s (node (branch array ts) g m))) ∙ h in cc
no_array s (node (branch (function f) ts) g m) h = ap (option_map copy_trees) h
no_array s (node (fields fs) g m) h = ap (option_map copy_trees) h
no_array s (node (holder c) g m) h = ap (option_map copy_trees) h

either : (o p : Option Trees) → is_some p ≡ true → is_some (option_or o (option_map copy_trees p)) ≡ true
either None None h = cc
either None (Some p) h = refl
either (Some x) p h = refl

pub array_source : (s : List Cell) (t : Tree) → is_some (held_part array_of (end s [] t)) ≡ true → is_some (array_moved s t) ≡ true
array_source s t h = either (array_of t) (held_part array_of (end s [] t)) h

blob_alone : (v : Tree) (bs : List ℕ) → blob_of v ≡ Some bs → array_of v ≡ None
blob_alone (node (leaf l) g m) bs h = refl
blob_alone (node (branch k ts) g m) bs h = cc
blob_alone (node (fields fs) g m) bs h = cc
blob_alone (node (holder c) g m) bs h = cc

blob_held : (e : End) (bs : List ℕ) → held_part blob_of e ≡ Some bs → held_part array_of e ≡ None
blob_held (held site v) bs h = blob_alone v bs h
blob_held (stuck v) bs h = cc
blob_held closed bs h = cc

-- bytes come from a blob, and the type is that of a byte
blob_there : (o : Option (List ℕ)) (xs : List Tree) → Some xs ≡ option_map (map byte_tree) o → (bs : List ℕ) × (o ≡ Some bs)
blob_there None xs h = cc
blob_there (Some bs) xs h = (bs, refl)

pub bytes_type : (k : TypeId) (e : End) (xs : List Tree) → Some xs ≡ bytes_at k e → is_type k id.U8 ≡ true
bytes_type id.U8 e xs h = refl
bytes_type k e xs h = cc

bytes_held : (k : TypeId) (e : End) (xs : List Tree) → Some xs ≡ bytes_at k e → held_part array_of e ≡ None
bytes_held id.U8 e xs h = let b = blob_there (held_part blob_of e) xs h in blob_held e b.0 b.1
bytes_held k e xs h = cc

pub typed_bytes : (k : TypeId) (s : List Cell) (t : Tree) (xs : List Tree) → Some xs ≡ bytes_at k (end s [] t) → typed_array k s t ≡ Some xs
typed_bytes k s t xs h = ap (λ o. typed_items k s o (end s [] t)) (no_array s t (bytes_held k (end s [] t) xs h)) ∙ sym h

pub or_true : (a b : Bool) → b ≡ true → a || b ≡ true
or_true true b h = refl
or_true false b h = h

-- ---- values without an array to make

pub no_items : (xs : List Tree) → trees_of xs ≡ no_trees → length xs ≡ 0
no_items [] h = refl
no_items (x ∷ xs) h = cc

pub own_moved : (s : List Cell) (t : Tree) (ts : Trees) → array_of t ≡ Some ts → array_moved s t ≡ Some ts
own_moved s t ts h = ap (λ o. option_or o (option_map copy_trees (held_part array_of (end s [] t)))) h

pub no_bytes : (bs : List ℕ) → map byte_tree bs ≡ [] → bs ≡ []
no_bytes [] h = refl
no_bytes (b ∷ bs) h = cc

pub bytes_apart : (k : TypeId) (s : List Cell) (t : Tree) (xs : List Tree) (ts : Trees) → Some xs ≡ bytes_at k (end s [] t) → array_of t ≡ Some ts → ⊥
bytes_apart k s t xs ts h is = let no : Some ts ≡ None = sym (own_moved s t ts is) ∙ no_array s t (bytes_held k (end s [] t) xs h) in absurd (cc)
