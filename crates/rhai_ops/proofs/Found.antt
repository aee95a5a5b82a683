-- A row that suits its operands gives an error, or a value that isn't a constant.
use Rattle.std.proofs.Common.{◌≡◌, ℕ, ℤ, Bool, true, false, cond, ◌||◌, nat_eq, List, [], ◌∷◌, ◌++◌, length, Option, Some, None, IsSome, is_some, option_and_then, option_map, Ok, Err, refl, sym, ap, ◌∙◌}
use Rattle.std.specs.Char.{encode_utf8}
use Rattle.std.specs.Option.{option_or}
use Rattle.std.specs.Str.{encode_utf8_all}
use Rattle.rhai_text.specs.Text.{minus, minus_char}
use Rattle.rhai_text.specs.declared.error.SizeKind.TheVariants as size
use Rattle.rhai_text.specs.declared.limits.Limits.{Limits}
use Rattle.rhai_text.specs.declared.token.Token.{Token}
use Rattle.rhai_value.specs.declared.value.access_mode.AccessMode.TheVariants.{ReadWrite}
use Rattle.rhai_value.specs.declared.value.host.Host.{Host}
use Rattle.rhai_value.specs.declared.value.host.Host.TheVariants.{ExclusiveRange, InclusiveRange}
use Rattle.rhai_value.specs.declared.cells.store.Cell.{Cell}
use Rattle.rhai_value.specs.Bytes.{low_byte}
use Rattle.rhai_value.specs.Tree.{Tree, Trees, node, leaf, branch, fields, holder, array, made, fresh, text, blob, copy, copy_trees, mode_of}
use Rattle.rhai_value.specs.Parts.{array_of, char_of, int_of, host_of, typed_host_of}
use Rattle.rhai_value.specs.Types.{host_at, host_type, is_type}
use Rattle.rhai_value.specs.End.{End, held, stuck, closed, end, first, flat, held_part}
use Rattle.rhai_ops.specs.declared.builtin.FnBuiltin.{FnBuiltin}
use Rattle.rhai_ops.specs.declared.builtin.FnBuiltin.TheVariants as row
use Rattle.rhai_ops.specs.AssignTable.{assign_row}
use Rattle.rhai_ops.specs.Numbers.{Number, number, both_bits, compared}
use Rattle.rhai_ops.specs.Outcome.{Outcome, answers, too_large, both, number_answer, bool_answer, is_allowed, limited_text, limited_blob, IsSuited}
use Rattle.rhai_ops.specs.Results.{part, Holds, Suits, outcome, same_range, range_type, unless, count, then_items, limited_array, joined_blobs, joined_texts, joined_to_char, blob_and_text, joined_items}
use Rattle.rhai_ops.specs.Table.{row_of}
use Rattle.rhai_ops.specs.Tokens.{is_number, is_bits, is_cmp, without_assign}
use Rattle.rhai_ops.proofs.Questions.{some_number, some_bits, some_order}
use Rattle.rhai_ops.proofs.Suited.{row_suits, assigned_suits, place_suits}

-- ---- outcomes

number_suited : (o : Option Number) → is_some o ≡ true → IsSuited (number_answer o)
number_suited (Some (Ok n)) e = refl
number_suited (Some (Err f)) e = tt
number_suited None e = cc

bool_suited : (o : Option Bool) → is_some o ≡ true → IsSuited (bool_answer o)
bool_suited (Some b) e = refl
bool_suited None e = cc

-- a value, if it isn't too large
limited_suited : (k : size.the_data) (t : Tree) → mode_of t ≡ ReadWrite → (b : Bool) → IsSuited (cond b (answers t) (too_large k))
limited_suited k t w true = w
limited_suited k t w false = tt

text_suited : (l : Limits) (t : List ℕ) → IsSuited (limited_text l t)
text_suited l t = limited_suited size.Text (fresh (text t)) refl (is_allowed l.text (length (encode_utf8_all t)))

blob_suited : (l : Limits) (bs : List ℕ) → IsSuited (limited_blob l bs)
blob_suited l bs = limited_suited size.Items (fresh (blob bs)) refl (is_allowed l.items (length bs))

array_suited : (l : Limits) (ts : Trees) → IsSuited (limited_array l ts)
array_suited l ts = limited_suited size.Items (made (branch array ts)) refl (is_allowed l.items (count ts))

copy_writable : (t : Tree) → mode_of (copy t) ≡ ReadWrite
copy_writable (node (leaf l) g m) = refl
copy_writable (node (branch k ts) g m) = refl
copy_writable (node (fields fs) g m) = refl
copy_writable (node (holder c) g m) = refl

blobs_suited : (l : Limits) (x y : Tree) → mode_of x ≡ ReadWrite → mode_of y ≡ ReadWrite → (v w : List ℕ) → IsSuited (joined_blobs l x y v w)
blobs_suited l x y h k v [] = h
blobs_suited l x y h k [] (b ∷ w) = k
blobs_suited l x y h k (a ∷ v) (b ∷ w) = blob_suited l ((a ∷ v) ++ (b ∷ w))

texts_suited : (l : Limits) (v w : List ℕ) → IsSuited (joined_texts l v w)
texts_suited l v [] = refl
texts_suited l [] (d ∷ w) = refl
texts_suited l (c ∷ v) (d ∷ w) = text_suited l ((c ∷ v) ++ (d ∷ w))

char_suited : (l : Limits) (c : ℕ) (w : List ℕ) → IsSuited (joined_to_char l c w)
char_suited l c [] = refl
char_suited l c (d ∷ w) = text_suited l (c ∷ d ∷ w)

blob_and_text_suited : (l : Limits) (v w : List ℕ) → IsSuited (blob_and_text l v w)
blob_and_text_suited l v [] = refl
blob_and_text_suited l v (d ∷ w) = blob_suited l (v ++ encode_utf8_all (d ∷ w))

items_suited : (l : Limits) (ts us : Trees) → IsSuited (joined_items l ts us)
items_suited l ts us = by (nat_eq (count ts) 0 || nat_eq (count us) 0)
  where
    by : (b : Bool) → IsSuited (cond b (answers (made (branch array (then_items ts us)))) (limited_array l (then_items ts us)))
    by true = refl
    by false = array_suited l (then_items ts us)

-- two ranges of one kind compare
of_kind : (i : Bool) (e : End) (h : Host) → held_part (typed_host_of (range_type i)) e ≡ Some h → is_type (range_type i) (host_type h) ≡ true
of_kind i (held site t) h e = of_host (host_of t) e
  where
    at : (b : Bool) (g : Host) → is_type (range_type i) (host_type g) ≡ b → cond b (Some g) None ≡ Some h → is_type (range_type i) (host_type h) ≡ true
    at true g k q = let same : g ≡ h = cc in rw (← same) k
    at false g k q = cc

    of_host : (o : Option Host) → option_and_then (host_at (range_type i)) o ≡ Some h → is_type (range_type i) (host_type h) ≡ true
    of_host None q = cc
    of_host (Some g) q = at (is_type (range_type i) (host_type g)) g refl q
of_kind i (stuck t) h e = cc
of_kind i closed h e = cc

ranges_compare : (i : Bool) (a b : Host) → is_type (range_type i) (host_type a) ≡ true → is_type (range_type i) (host_type b) ≡ true → is_some (same_range a b) ≡ true
ranges_compare false (ExclusiveRange a) (ExclusiveRange b) h k = refl
ranges_compare true (InclusiveRange a) (InclusiveRange b) h k = refl
ranges_compare i a b h k = cc

moved : (o p : Option Trees) → is_some p ≡ true → is_some (option_or o (option_map copy_trees p)) ≡ true
moved (Some ts) p h = refl
moved None (Some ts) h = refl
moved None None h = cc

mapped : {A B : Type 0} (f : A → B) (o : Option A) → is_some o ≡ true → is_some (option_map f o) ≡ true
mapped f (Some a) e = refl
mapped f None e = cc

-- ---- rows

both_suited : {A B : Type 0} (f : A → B → Outcome) (o : Option A) (p : Option B) → ((a : A) (b : B) → o ≡ Some a → p ≡ Some b → IsSuited (f a b)) → IsSome o → IsSome p → IsSuited (both f o p)
both_suited f (Some a) (Some b) each h k = each a b refl refl
both_suited f (Some a) None each h k = cc
both_suited f None p each h k = cc

module _ (l : Limits) (s : List Cell) (x y : Tree) where
  pub row_answers : (b : FnBuiltin) → Suits b s x y → IsSuited (outcome b l s x y)
  row_answers (row.Int t) h = both_suited _ _ _ (λ m n p q. number_suited (number t m n) (some_number t m n h.0)) h.1.0 h.1.1
  row_answers (row.IntCompare t) h = both_suited _ _ _ (λ m n p q. bool_suited (compared t _) (some_order t _ h.0)) h.1.0 h.1.1
  row_answers (row.IntRange i) h = both_suited _ _ _ (λ m n p q. refl) h.0 h.1
  row_answers (row.BoolCompare t) h = both_suited _ _ _ (λ m n p q. bool_suited (compared t _) (some_order t _ h.0)) h.1.0 h.1.1
  row_answers (row.Bool t) h = both_suited _ _ _ (λ m n p q. bool_suited (both_bits t m n) (some_bits t m n h.0)) h.1.0 h.1.1
  row_answers row.TextJoin h = both_suited _ _ _ (λ v w p q. text_suited l (v ++ w)) h.0 h.1
  row_answers row.TextMinus h = both_suited _ _ _ (λ v w p q. refl) h.0 h.1
  row_answers (row.TextCompare t) h = both_suited _ _ _ (λ m n p q. bool_suited (compared t _) (some_order t _ h.0)) h.1.0 h.1.1
  row_answers row.CharJoin h = both_suited _ _ _ (λ c d p q. text_suited l (c ∷ d ∷ [])) h.0 h.1
  row_answers (row.CharCompare t) h = both_suited _ _ _ (λ m n p q. bool_suited (compared t _) (some_order t _ h.0)) h.1.0 h.1.1
  row_answers row.BlobJoin h = both_suited _ _ _ (λ v w p q. blobs_suited l (flat s x) (flat s y) (copy_writable _) (copy_writable _) v w) h.0 h.1
  row_answers (row.BlobEqual n) h = both_suited _ _ _ (λ v w p q. refl) h.0 h.1
  row_answers row.ConstTrue h = refl
  row_answers row.ConstFalse h = refl
  row_answers (row.RangeFrom i) h = both_suited _ _ _ (λ m n p q. refl) h.0 h.1
  row_answers (row.RangeTo i) h = both_suited _ _ _ (λ m n p q. refl) h.0 h.1
  row_answers row.CharText h = both_suited _ _ _ (λ c w p q. text_suited l (c ∷ w)) h.0 h.1
  row_answers (row.CharTextCompare t) h = both_suited _ _ _ (λ m n p q. bool_suited (compared t _) (some_order t _ h.0)) h.1.0 h.1.1
  row_answers row.TextChar h = both_suited _ _ _ (λ v d p q. text_suited l (v ++ (d ∷ []))) h.0 h.1
  row_answers row.TextMinusChar h = both_suited _ _ _ (λ v d p q. refl) h.0 h.1
  row_answers (row.TextCharCompare t) h = both_suited _ _ _ (λ m n p q. bool_suited (compared t _) (some_order t _ h.0)) h.1.0 h.1.1
  row_answers row.FirstCopy h = copy_writable x
  row_answers row.SecondCopy h = copy_writable y
  row_answers row.BlobChar h = both_suited _ _ _ (λ v w p q. blob_suited l (v ++ w)) h.0 (mapped encode_utf8 (part char_of s y) h.1)
  row_answers (row.RangeEqual i n) h = both_suited _ _ _ (λ a b p q.
      bool_suited _ (mapped (unless n) (same_range a b) (ranges_compare i a b (of_kind i (end s [] x) a p) (of_kind i (end s [] y) b q)))) h.0 h.1
  row_answers (row.IntAssign t) h = both_suited _ _ _ (λ m n p q. number_suited (number (without_assign t) m n) (some_number (without_assign t) m n h.1.0)) h.1.1.0 h.1.1.1
  row_answers (row.BoolAssign t) h = both_suited _ _ _ (λ m n p q. bool_suited (both_bits (without_assign t) m n) (some_bits (without_assign t) m n h.1.0)) h.1.1.0 h.1.1.1
  row_answers row.CharJoinAssign h = both_suited _ _ _ (λ c d p q. refl) h.0 h.1
  row_answers row.TextJoinAssign h = both_suited _ _ _ (λ v w p q. texts_suited l v w) h.0 h.1
  row_answers row.TextMinusAssign h = both_suited _ _ _ (λ v w p q. refl) h.0 h.1
  row_answers row.ArrayAppend h = both_suited _ _ _ (λ ts us p q. items_suited l ts us) h.0 (moved (array_of y) (part array_of s y) h.1)
  row_answers row.BlobAppend h = both_suited _ _ _ (λ v w p q. blob_suited l (v ++ w)) h.0 h.1
  row_answers row.TextCharAssign h = both_suited _ _ _ (λ v d p q. text_suited l (v ++ (d ∷ []))) h.0 h.1
  row_answers row.TextMinusCharAssign h = both_suited _ _ _ (λ v d p q. refl) h.0 h.1
  row_answers row.CharTextAssign h = both_suited _ _ _ (λ c w p q. char_suited l c w) h.0 h.1
  row_answers row.ArrayPush h = both_suited _ _ _ (λ ts u p q. array_suited l _) h.0 refl
  row_answers row.BlobPush h = both_suited _ _ _ (λ v w p q. blob_suited l (v ++ w)) h.0 (mapped (λ n. low_byte n ∷ []) (part int_of s y) h.1)
  row_answers row.BlobCharAssign h = both_suited _ _ _ (λ v w p q. blob_suited l (v ++ w)) h.0 (mapped encode_utf8 (part char_of s y) h.1)
  row_answers row.BlobTextAssign h = both_suited _ _ _ (λ v w p q. blob_and_text_suited l v w) h.0 h.1

  pub found_answers : (t : Token) (b : FnBuiltin) → row_of t s x y ≡ Some b → IsSuited (outcome b l s x y)
  found_answers t b e = row_answers b (row_suits t s x y b e)

  pub assigned_answers : (t : Token) (b : FnBuiltin) → assign_row t x y ≡ Some b → IsSuited (outcome b l s x y)
  assigned_answers t b e = row_answers b (assigned_suits t s x y b e)

  pub place_answers : (t : Token) (v : Tree) (b : FnBuiltin) → first s x ≡ Some v → assign_row t v y ≡ Some b → IsSuited (outcome b l s x y)
  place_answers t v b f e = row_answers b (place_suits t s x v y b f e)
