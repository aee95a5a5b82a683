-- Rows and outcomes of values that are equal up to a renaming of cells.
use Rattle.std.proofs.Common.{◌≡◌, ℕ, ℤ, Bool, true, false, List, [], ◌∷◌, ◌++◌, length, Option, Some, None, refl, sym, ap, ap₂, ◌∙◌, option_and_then, option_map}
use Rattle.std.specs.Prelude.{Ok, Err, if◌then◌else◌}
use Rattle.std.specs.Char.{encode_utf8}
use Rattle.std.specs.Str.{encode_utf8_all}
use Rattle.rhai_text.specs.declared.error.SizeKind.TheVariants as size
use Rattle.rhai_text.specs.declared.limits.Limits.{Limits}
use Rattle.rhai_text.specs.declared.token.Token.{Token}
use Rattle.rhai_value.specs.declared.value.access_mode.AccessMode.{AccessMode}
use Rattle.rhai_value.specs.declared.cells.store.Cell.{Cell}
use Rattle.rhai_value.specs.declared.value.type_id.TypeId.{TypeId}
use Rattle.rhai_value.specs.Tree.{Tree, Trees, Kind, node, branch, array, function, Leaf, fresh, text, blob}
use Rattle.rhai_value.specs.Parts.{leaf_part, leaf_int, leaf_char, leaf_blob, leaf_host, host_of, typed_host_of}
use Rattle.rhai_value.specs.Types.{host_at}
use Rattle.rhai_value.specs.End.{End, held, stuck, closed, end, end_type, held_part, flat}
use Rattle.rhai_value.specs.Relation.{Renaming, Related, AllRelated, IsOneToOne, RelatedCells}
use Rattle.rhai_value.proofs.ForCallers.{by_trees, same_copy, same_end, same_end_type, same_flat, same_held_leaf}
use Rattle.rhai_ops.specs.declared.builtin.FnBuiltin.{FnBuiltin}
use Rattle.rhai_ops.specs.declared.builtin.FnBuiltin.TheVariants as row
use Rattle.rhai_ops.specs.Numbers.{Number, number}
use Rattle.rhai_ops.specs.AssignTable.{assign_line, assign_row}
use Rattle.rhai_ops.specs.Table.{operand_kind, row_of, rows_of_kinds, type_line, pick}
use Rattle.rhai_ops.specs.Outcome.{Outcome, answers, too_large, both, number_answer, bool_answer, is_allowed, limited_text, limited_blob, RelatedOutcomes}
use Rattle.rhai_value.specs.Bytes.{low_byte}
use Rattle.rhai_ops.specs.Results.{blob_and_char, part, joined_blobs, joined_texts, joined_to_char, blob_and_text, pushed, joined_items, outcome, range_type}
use Rattle.rhai_ops.proofs.SameItems.{both_alike, pushed_related, joined_related, same_items, same_moved}

pub same_kind : (r : Renaming) (t u : Tree) → Related r t u → operand_kind t ≡ operand_kind u
same_kind r = by_trees r (λ t u. operand_kind t ≡ operand_kind u) (λ l g m. refl) same_branch (λ fs hs g m h. refl) (λ c d g m p. refl)
  where
    same_branch : (k : Kind) (ts us : Trees) (g : ℤ) (m : AccessMode) → AllRelated r ts us → operand_kind (node (branch k ts) g m) ≡ operand_kind (node (branch k us) g m)
    same_branch array ts us g m h = refl
    same_branch (function f) ts us g m h = refl

-- outcomes without cells
leaf_self : (r : Renaming) (l : Leaf) → RelatedOutcomes r (answers (fresh l)) (answers (fresh l))
leaf_self r l = (refl, refl, refl)

number_self : (r : Renaming) (o : Option Number) → RelatedOutcomes r (number_answer o) (number_answer o)
number_self r (Some (Ok n)) = (refl, refl, refl)
number_self r (Some (Err f)) = refl
number_self r None = tt

bool_self : (r : Renaming) (o : Option Bool) → RelatedOutcomes r (bool_answer o) (bool_answer o)
bool_self r (Some b) = (refl, refl, refl)
bool_self r None = tt

text_self : (r : Renaming) (l : Limits) (t : List ℕ) → RelatedOutcomes r (limited_text l t) (limited_text l t)
text_self r l t = elim (is_allowed l.text (length (encode_utf8_all t))) as (λ b. RelatedOutcomes r (if b then answers (fresh (text t)) else too_large size.Text) (if b then answers (fresh (text t)) else too_large size.Text)) [ true ↦ (refl, refl, refl) | false ↦ refl ]

blob_self : (r : Renaming) (l : Limits) (bs : List ℕ) → RelatedOutcomes r (limited_blob l bs) (limited_blob l bs)
blob_self r l bs = elim (is_allowed l.items (length bs)) as (λ b. RelatedOutcomes r (if b then answers (fresh (blob bs)) else too_large size.Items) (if b then answers (fresh (blob bs)) else too_large size.Items)) [ true ↦ (refl, refl, refl) | false ↦ refl ]

both_self : {A B : Type 0} (r : Renaming) (f g : A → B → Outcome) → ((a : A) (b : B) → RelatedOutcomes r (f a b) (g a b)) → (o : Option A) (p : Option B) → RelatedOutcomes r (both f o p) (both g o p)
both_self r f g same (Some a) (Some b) = same a b
both_self r f g same (Some a) None = tt
both_self r f g same None (Some b) = tt
both_self r f g same None None = tt

joined_same : (r : Renaming) (l : Limits) (t u v w : Tree) → Related r t u → Related r v w → (a b : List ℕ) → RelatedOutcomes r (joined_blobs l t v a b) (joined_blobs l u w a b)
joined_same r l t u v w h q [] [] = h
joined_same r l t u v w h q (a ∷ cs) [] = h
joined_same r l t u v w h q [] (b ∷ bs) = q
joined_same r l t u v w h q (a ∷ cs) (b ∷ bs) = blob_self r l ((a ∷ cs) ++ (b ∷ bs))

texts_self : (r : Renaming) (l : Limits) (v w : List ℕ) → RelatedOutcomes r (joined_texts l v w) (joined_texts l v w)
texts_self r l v [] = (refl, refl, refl)
texts_self r l [] (d ∷ w) = (refl, refl, refl)
texts_self r l (c ∷ v) (d ∷ w) = text_self r l ((c ∷ v) ++ (d ∷ w))

char_self : (r : Renaming) (l : Limits) (c : ℕ) (w : List ℕ) → RelatedOutcomes r (joined_to_char l c w) (joined_to_char l c w)
char_self r l c [] = (refl, refl, refl)
char_self r l c (d ∷ w) = text_self r l (c ∷ d ∷ w)

blob_and_text_self : (r : Renaming) (l : Limits) (v w : List ℕ) → RelatedOutcomes r (blob_and_text l v w) (blob_and_text l v w)
blob_and_text_self r l v [] = (refl, refl, refl)
blob_and_text_self r l v (d ∷ w) = blob_self r l (v ++ encode_utf8_all (d ∷ w))

-- a value of one of the host's types, as a host value
typed_held : (k : TypeId) (e : End) → held_part (typed_host_of k) e ≡ option_and_then (host_at k) (held_part host_of e)
typed_held k (held site t) = refl
typed_held k (stuck t) = refl
typed_held k closed = refl

module _ (r : Renaming) (s z : List Cell) (one : IsOneToOne r) (cells : RelatedCells r s z) where
  same_leaf : {A : Type 0} (of : Leaf → Option A) (t u : Tree) → Related r t u → part (leaf_part of) s t ≡ part (leaf_part of) z u
  same_leaf of t u h = same_held_leaf r of (end s [] t) (end z [] u) (same_end r s z t u one cells h)

  same_typed : (k : TypeId) (t u : Tree) → Related r t u → part (typed_host_of k) s t ≡ part (typed_host_of k) z u
  same_typed k t u h = typed_held k (end s [] t) ∙ ap (option_and_then (host_at k)) (same_leaf leaf_host t u h) ∙ sym (typed_held k (end z [] u))

  same_type : (t u : Tree) → Related r t u → end_type (end s [] t) ≡ end_type (end z [] u)
  same_type t u h = same_end_type r (end s [] t) (end z [] u) (same_end r s z t u one cells h)

  pub same_row : (k : Token) (t u v w : Tree) → Related r t u → Related r v w → row_of k s t v ≡ row_of k z u w
  same_row k t u v w h q =
      ap₂ (λ line types. pick (line types)) (ap₂ (rows_of_kinds k) (same_kind r t u h) (same_kind r v w q)) (ap₂ (type_line k) (same_type t u h) (same_type v w q))

  module _ (t u v w : Tree) (h : Related r t u) (q : Related r v w) where
    -- functions of two leaves that both hold
    by_both : {A B : Type 0} (x : Leaf → Option A) (y : Leaf → Option B) (f : A → B → Outcome) → ((a : A) (b : B) → RelatedOutcomes r (f a b) (f a b)) → RelatedOutcomes r (both f (part (leaf_part x) s t) (part (leaf_part y) s v)) (both f (part (leaf_part x) z u) (part (leaf_part y) z w))
    by_both x y f same = rw (same_leaf x t u h, same_leaf y v w q) (both_self r f f same (part (leaf_part x) z u) (part (leaf_part y) z w))

    blob_and_char_same : (l : Limits) → RelatedOutcomes r (blob_and_char.comes_to l s t v) (blob_and_char.comes_to l z u w)
    blob_and_char_same l = rw (same_leaf leaf_blob t u h, same_leaf leaf_char v w q) (both_self r _ _ (λ a b. blob_self r l (a ++ b)) (part (leaf_part leaf_blob) z u) (option_map encode_utf8 (part (leaf_part leaf_char) z w)))

    pub same_assign_row : (k : Token) → assign_row k t v ≡ assign_row k u w
    same_assign_row k = ap₂ (λ a b. pick (assign_line k a b)) (same_kind r t u h) (same_kind r v w q)

    pub same_outcome : (b : FnBuiltin) (l : Limits) → RelatedOutcomes r (outcome b l s t v) (outcome b l z u w)
    same_outcome (row.Int k) l = by_both leaf_int leaf_int _ (λ m n. number_self r (number k m n))
    same_outcome row.BlobJoin l =
        rw (same_leaf leaf_blob t u h, same_leaf leaf_blob v w q) (both_self r _ _ (joined_same r l (flat s t) (flat z u) (flat s v) (flat z w) (same_flat r s z t u one cells h) (same_flat r s z v w one cells q)) (part (leaf_part leaf_blob) z u) (part (leaf_part leaf_blob) z w))
    same_outcome row.BlobChar l = blob_and_char_same l
    same_outcome (row.RangeEqual i n) l =
        rw (same_typed (range_type i) t u h, same_typed (range_type i) v w q) (both_self r _ _ (λ a b. bool_self r _) (part (typed_host_of (range_type i)) z u) (part (typed_host_of (range_type i)) z w))
    same_outcome row.ArrayAppend l =
        both_alike r (AllRelated r) (AllRelated r) (joined_items l) (joined_items l) (joined_related r l) _ _ _ _ (same_items r s z one cells t u h) (same_moved r s z one cells v w q)
    same_outcome row.ArrayPush l =
        both_alike r (AllRelated r) (Related r) (pushed l) (pushed l) (pushed_related r l) _ _ _ _ (same_items r s z one cells t u h) q
    same_outcome row.BlobPush l =
        rw (same_leaf leaf_blob t u h, same_leaf leaf_int v w q) (both_self r _ _ (λ a b. blob_self r l (a ++ b)) (part (leaf_part leaf_blob) z u) (option_map (λ n. low_byte n ∷ []) (part (leaf_part leaf_int) z w)))
    same_outcome row.BlobCharAssign l = blob_and_char_same l
    same_outcome b l = search (by_both, leaf_self, number_self, bool_self, text_self, blob_self, texts_self, char_self, blob_and_text_self, same_copy, refl)
