-- The rule of each row: its operands, its outcome, and whether it may allocate; one line per row.
use Rattle.std.specs.Prelude.{ℕ, ℤ, pos, suc, ◌-◌, ◌^◌, Bool, true, false, not, ◌&&◌, ◌||◌, List, [], ◌∷◌, ◌++◌, Option, Some, None, option_map, nat_eq, IsTrue, IsSome, if◌then◌else◌}
use Rattle.std.specs.Cmp.Lexicographic.{slice_cmp, pointwise}
use Rattle.std.specs.Ordering.{bool_cmp, int_cmp, int_eq, nat_cmp}
use Rattle.std.specs.Char.{encode_utf8}
use Rattle.rhai_value.specs.Bytes.{low_byte}
use Rattle.std.specs.Str.{encode_utf8_all}
use Rattle.std.specs.declared.cmp.Ordering.{Ordering}
use Rattle.rhai_text.specs.Text.{minus, minus_char}
use Rattle.rhai_text.specs.declared.error.SizeKind.TheVariants as size
use Rattle.rhai_text.specs.declared.limits.Limits.{Limits}
use Rattle.rhai_value.specs.declared.value.host.Host.{Host}
use Rattle.rhai_value.specs.declared.value.host.Host.TheVariants.{ExclusiveRange, InclusiveRange}
use Rattle.rhai_value.specs.declared.cells.store.Cell.{Cell}
use Rattle.rhai_value.specs.declared.value.type_id.TypeId.{TypeId}
use Rattle.rhai_value.specs.declared.value.type_id.TypeId.TheVariants as id
use Rattle.rhai_value.specs.Tree.{Tree, Trees, no_trees, tree_then, branch, array, made, fresh, bool, char, text, blob, host, copy, TakesNoMemory}
use Rattle.rhai_value.specs.Parts.{unit_of, bool_of, int_of, char_of, text_of, blob_of, array_of, typed_host_of}
use Rattle.rhai_value.specs.End.{end, held_part, flat, array_moved}
use Rattle.rhai_ops.specs.declared.builtin.FnBuiltin.{FnBuiltin}
use Rattle.rhai_ops.specs.declared.builtin.FnBuiltin.TheVariants as row
use Rattle.rhai_text.specs.declared.token.Token.{Token}
use Rattle.rhai_ops.specs.Tokens.{is_number, is_bits, is_cmp, is_assignment, without_assign}
use Rattle.rhai_ops.specs.Numbers.{number, both_bits, compared}
use Rattle.rhai_ops.specs.Outcome.{Outcome, Effect, operator, assignment, Second, stays, taken, answers, too_large, of_both, both, number_answer, bool_answer, is_allowed, limited_text, limited_blob}

-- the held part
abbrev pub part : {A : Type 0} → (Tree → Option A) → List Cell → Tree → Option A
part of s t = held_part of (end s [] t)

-- texts are ordered by their characters
abbrev pub text_order : List ℕ → List ℕ → Ordering
text_order v w = slice_cmp nat_cmp v w

-- an equality, or its negation
abbrev pub unless : Bool → Bool → Bool
unless negated b = if negated then not b else b

-- the greatest integer
abbrev pub int_max : ℤ
int_max = pos (2 ^ 63 - 1)

-- the range between two integers, exclusive or inclusive
abbrev pub range : Bool → ℤ → ℤ → Host
range false a b = ExclusiveRange (record { start = a; end = b })
range true a b = InclusiveRange (record { start = a; end = b })

abbrev pub range_type : Bool → TypeId
range_type false = id.ExclusiveRange
range_type true = id.InclusiveRange

-- whether two ranges of one kind have the same ends
abbrev pub same_range : Host → Host → Option Bool
same_range (ExclusiveRange a) (ExclusiveRange b) = Some (int_eq a.start b.start && int_eq a.end b.end)
same_range (InclusiveRange a) (InclusiveRange b) = Some (int_eq a.start b.start && int_eq a.end b.end)
same_range _ _ = None

-- two blobs as one: if one is empty, the result is the other, flat; otherwise the limit is tested
abbrev pub joined_blobs : Limits → Tree → Tree → List ℕ → List ℕ → Outcome
joined_blobs l x y v [] = answers x
joined_blobs l x y [] (b ∷ w) = answers y
joined_blobs l x y (a ∷ v) (b ∷ w) = limited_blob l ((a ∷ v) ++ (b ∷ w))

-- a text appended to a text; if one is empty no limit is tested
abbrev pub joined_texts : Limits → List ℕ → List ℕ → Outcome
joined_texts l v [] = answers (fresh (text v))
joined_texts l [] (d ∷ w) = answers (fresh (text (d ∷ w)))
joined_texts l (c ∷ v) (d ∷ w) = limited_text l ((c ∷ v) ++ (d ∷ w))

-- a text appended to a character; if it is empty the result is the character, and no limit is tested
abbrev pub joined_to_char : Limits → ℕ → List ℕ → Outcome
joined_to_char l c [] = answers (fresh (char c))
joined_to_char l c (d ∷ w) = limited_text l (c ∷ d ∷ w)

-- bytes appended to a blob
abbrev pub appended : Limits → List ℕ → List ℕ → Outcome
appended l v w = limited_blob l (v ++ w)

-- the bytes of a text appended to a blob; if it is empty no limit is tested
abbrev pub blob_and_text : Limits → List ℕ → List ℕ → Outcome
blob_and_text l v [] = answers (fresh (blob v))
blob_and_text l v (d ∷ w) = appended l v (encode_utf8_all (d ∷ w))

-- the number of items, and items appended to items
abbrev pub count : Trees → ℕ
count no_trees = 0
count (tree_then t ts) = suc (count ts)

abbrev pub then_items : Trees → Trees → Trees
then_items no_trees us = us
then_items (tree_then t ts) us = tree_then t (then_items ts us)

-- an array whose items the limit allows
abbrev pub limited_array : Limits → Trees → Outcome
limited_array l ts = if is_allowed l.items (count ts) then answers (made (branch array ts)) else too_large size.Items

-- an item appended to others; and items appended to items, where for none no limit is tested
abbrev pub pushed : Limits → Trees → Tree → Outcome
pushed l ts u = limited_array l (then_items ts (tree_then u no_trees))

abbrev pub joined_items : Limits → Trees → Trees → Outcome
joined_items l ts us = if nat_eq (count ts) 0 || nat_eq (count us) 0 then answers (made (branch array (then_items ts us))) else limited_array l (then_items ts us)

-- the held value has such a part
abbrev pub Holds : {A : Type 0} → (Tree → Option A) → List Cell → Tree → Type 0
Holds of s t = IsSome (part of s t)

-- A row's rule: what it requires of its operator and its operands, its outcome on them, the order
-- by which it compares them, when it may allocate, whether it reads the limits, and whether it
-- returns or writes. Both operands are read before anything is written.
pub record Rule : Type 1 where
  pub asks : List Cell → Tree → Tree → Type 0
  pub comes_to : Limits → List Cell → Tree → Tree → Outcome
  pub order : List Cell → Tree → Tree → Option Ordering
  pub wants : Tree → Tree → Type 0
  pub looks : Bool
  pub effect : Effect

-- for any two operands; compares nothing, never allocates, reads no limit, and writes nothing
abbrev pub of_any : (Tree → Tree → Outcome) → Rule
of_any f = record { asks = λ s x y. Unit {0}; comes_to = λ l s x y. f x y; order = λ s x y. None; wants = λ x y. ⊥; looks = false; effect = operator }

-- the same for a first operand that holds such a part, and a second one that satisfies a condition,
-- from which this is read
abbrev pub of_read : {A B : Type 0} → (Tree → Option A) → (List Cell → Tree → Type 0) → (List Cell → Tree → Option B) → (Limits → A → B → Outcome) → Rule
of_read first asked second f = record {
  asks = λ s x y. Holds first s x × asked s y;
  comes_to = λ l s x y. both (f l) (part first s x) (second s y);
  order = λ s x y. None;
  wants = λ x y. ⊥;
  looks = false;
  effect = operator;
}

-- the same for two operands that hold such parts
abbrev pub of_parts : {A B : Type 0} → (Tree → Option A) → (Tree → Option B) → (Limits → A → B → Outcome) → Rule
of_parts first second f = of_read first (Holds second) (part second) f

-- a rule for some operators only; one that makes a text, a blob or an array, and may allocate for
-- it; the same, reading a limit
abbrev pub only_if : Bool → Rule → Rule
only_if b r = record r { asks = λ s x y. IsTrue b × r.asks s x y }

abbrev pub making : Rule → Rule
making r = record r { wants = λ x y. Unit {0} }

abbrev pub limited : Rule → Rule
limited r = record r { wants = λ x y. Unit {0}; looks = true }

-- a rule of an assignment, which writes its outcome, and leaves the second operand unchanged or replaces it by unit
abbrev pub writing : Second → Rule → Rule
writing second r = record r { effect = assignment second }

-- a comparison, by the order of such parts
abbrev pub comparing : {A B : Type 0} → Token → (Tree → Option A) → (Tree → Option B) → (A → B → Ordering) → Rule
comparing t first second order =
    record (only_if (is_cmp t) (of_parts first second (λ l a b. bool_answer (compared t (order a b))))) { order = λ s x y. of_both order (part first s x) (part second s y) }

-- two blobs as one
abbrev pub blob_join : Rule
blob_join = record (limited (of_parts blob_of blob_of appended)) { comes_to = λ l s x y. both (joined_blobs l (flat s x) (flat s y)) (part blob_of s x) (part blob_of s y) }

-- common to an operator and its assignment
abbrev pub of_ints : Token → Rule
of_ints t = only_if (is_number t) (of_parts int_of int_of (λ l m n. number_answer (number t m n)))

abbrev pub of_bools : Token → Rule
of_bools t = only_if (is_bits t) (of_parts bool_of bool_of (λ l a b. bool_answer (both_bits t a b)))

abbrev pub text_minus : Rule
text_minus = making (of_parts text_of text_of (λ l v w. answers (fresh (text (minus v w)))))

abbrev pub text_and_char : Rule
text_and_char = limited (of_parts text_of char_of (λ l v d. limited_text l (v ++ (d ∷ []))))

abbrev pub text_minus_char : Rule
text_minus_char = making (of_parts text_of char_of (λ l v d. answers (fresh (text (minus_char v d)))))

abbrev pub blob_and_char : Rule
blob_and_char = limited (of_read blob_of (Holds char_of) (λ s y. option_map encode_utf8 (part char_of s y)) appended)

-- each row's rule
abbrev pub rule : FnBuiltin → Rule
rule (row.Int t) = of_ints t
rule (row.IntCompare t) = comparing t int_of int_of int_cmp
rule (row.IntRange i) = of_parts int_of int_of (λ l m n. answers (fresh (host (range i m n))))
rule (row.BoolCompare t) = comparing t bool_of bool_of bool_cmp
rule (row.Bool t) = of_bools t
rule row.TextJoin = limited (of_parts text_of text_of (λ l v w. limited_text l (v ++ w)))
rule row.TextMinus = text_minus
rule (row.TextCompare t) = comparing t text_of text_of text_order
rule row.CharJoin = limited (of_parts char_of char_of (λ l c d. limited_text l (c ∷ d ∷ [])))
rule (row.CharCompare t) = comparing t char_of char_of nat_cmp
rule row.BlobJoin = blob_join
rule (row.BlobEqual n) = of_parts blob_of blob_of (λ l v w. bool_answer (Some (unless n (pointwise nat_eq v w))))
rule row.ConstTrue = of_any (λ x y. answers (fresh (bool true)))
rule row.ConstFalse = of_any (λ x y. answers (fresh (bool false)))
rule (row.RangeFrom i) = of_parts int_of unit_of (λ l m u. answers (fresh (host (range i m int_max))))
rule (row.RangeTo i) = of_parts unit_of int_of (λ l u n. answers (fresh (host (range i (pos 0) n))))
rule row.CharText = limited (of_parts char_of text_of (λ l c w. limited_text l (c ∷ w)))
rule (row.CharTextCompare t) = comparing t char_of text_of (λ c w. text_order (c ∷ []) w)
rule row.TextChar = text_and_char
rule row.TextMinusChar = text_minus_char
rule (row.TextCharCompare t) = comparing t text_of char_of (λ v d. text_order v (d ∷ []))
rule row.FirstCopy = record (of_any (λ x y. answers (copy x))) { wants = λ x y. TakesNoMemory x → ⊥ }
rule row.SecondCopy = record (of_any (λ x y. answers (copy y))) { wants = λ x y. TakesNoMemory y → ⊥ }
rule row.BlobChar = blob_and_char
rule (row.RangeEqual i n) = of_parts (typed_host_of (range_type i)) (typed_host_of (range_type i)) (λ l a b. bool_answer (option_map (unless n) (same_range a b)))
rule (row.IntAssign t) = writing stays (only_if (is_assignment t) (of_ints (without_assign t)))
rule (row.BoolAssign t) = writing stays (only_if (is_assignment t) (of_bools (without_assign t)))
rule row.CharJoinAssign = writing stays (making (of_parts char_of char_of (λ l c d. answers (fresh (text (c ∷ d ∷ []))))))
rule row.TextJoinAssign = writing stays (limited (of_parts text_of text_of joined_texts))
rule row.TextMinusAssign = writing stays text_minus
rule row.ArrayAppend = writing taken (limited (of_read array_of (Holds array_of) array_moved joined_items))
rule row.BlobAppend = writing taken (limited (of_parts blob_of blob_of appended))
rule row.TextCharAssign = writing stays text_and_char
rule row.TextMinusCharAssign = writing stays text_minus_char
rule row.CharTextAssign = writing stays (limited (of_parts char_of text_of joined_to_char))
rule row.ArrayPush = writing taken (limited (of_read array_of (λ s y. Unit {0}) (λ s y. Some y) pushed))
rule row.BlobPush = writing stays (limited (of_read blob_of (Holds int_of) (λ s y. option_map (λ n. low_byte n ∷ []) (part int_of s y)) appended))
rule row.BlobCharAssign = writing stays blob_and_char
rule row.BlobTextAssign = writing stays (limited (of_parts blob_of text_of blob_and_text))

-- the outcome of a row on x and y in the store s, with the limits l
abbrev pub outcome : FnBuiltin → Limits → List Cell → Tree → Tree → Outcome
outcome b l s x y = (rule b).comes_to l s x y

-- what a row requires of its operator and of its operands
abbrev pub Suits : FnBuiltin → List Cell → Tree → Tree → Type 0
Suits b s x y = (rule b).asks s x y

-- whether a row makes a text, a blob, an array or a copy, and may allocate for it
abbrev pub MayWant : FnBuiltin → Tree → Tree → Type 0
MayWant b x y = (rule b).wants x y

-- whether a row reads the limits
abbrev pub is_limited : FnBuiltin → Bool
is_limited b = (rule b).looks
