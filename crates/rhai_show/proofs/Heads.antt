-- The head of hash bytes can be read from them: a leaf, or the kind and number of children.
use Rattle.std.proofs.Common.{◌≡◌, ℕ, ◌+◌, ◌*◌, ◌/◌, ◌%◌, ◌<◌, ◌^◌, ℤ, true, false, cond, nat_eq, List, [], ◌∷◌, ◌++◌, length, take, drop, refl, ap, ap₂, ◌∙◌, append_assoc, arith}
use native.Mathlib.Nat as nat
use Rattle.std.specs.Prelude.{FitsSigned}
use Rattle.std.specs.Int.{w8, w16, w32, w64, w128, to_le_bytes, from_le_bytes, cast_signed, cast_unsigned}
use Rattle.std.specs.Str.{chars, encode_utf8_all}
use Rattle.std.proofs.Math.Facts.{Fits-lt-pow, Fits-of_z}
use Rattle.std.proofs.lemmas.Int.{to_z-of_z}
use Rattle.std.proofs.lemmas.List.{take_at, drop_at}
use Rattle.std.proofs.lemmas.Nat.{from_le_bytes-to_le_bytes_2, from_le_bytes-to_le_bytes_4, from_le_bytes-to_le_bytes_8}
use Rattle.std.proofs.lemmas.Str.{chars-encodes}
use Rattle.rhai_value.specs.declared.value.host.Host.{Host}
use Rattle.rhai_value.specs.declared.value.host.Host.TheVariants as host_kind
use Rattle.rhai_value.specs.Tree.{Leaf, unit, bool, int, char, text, blob, host, Kind, array, function}
use Rattle.rhai_show.specs.HashBytes.{count_bytes, int_bytes, sized, name_bytes, host_bytes, leaf_bytes, kind_bytes}
use Rattle.rhai_show.specs.InRange.{IsCount, IsName, IsHost, IsLeaf, IsKind}

-- a leaf, or a kind of children and their number
pub data Head : Type 0 where
  a_leaf : Leaf → Head
  a_branch : Kind → ℕ → Head
  a_map : ℕ → Head

byte_and_rest : (n p : ℕ) → n / p ≡ n / p % 256 + n / (p * 256) * 256
byte_and_rest n p = omega (arith, nat.div-div-eq-div-mul n p 256)

joined_8 : (a b c d e f g h n p q r s t u v w : ℕ) → n ≡ a + p * 256 → p ≡ b + q * 256 → q ≡ c + r * 256 → r ≡ d + s * 256
    → s ≡ e + t * 256 → t ≡ f + u * 256 → u ≡ g + v * 256 → v ≡ h + w * 256
    → a + b * 256 + c * 65536 + d * 16777216 + e * 4294967296 + f * 1099511627776 + g * 281474976710656 + h * 72057594037927936 + w * 18446744073709551616 ≡ n
joined_8 a b c d e f g h n p q r s t u v w at_0 at_1 at_2 at_3 at_4 at_5 at_6 at_7 = omega arith

-- a number is read back from its sixteen bytes
from_le_bytes-to_le_bytes_16 : (n : ℕ) → n < 2 ^ 128 → from_le_bytes w128 (to_le_bytes w128 n) ≡ n
from_le_bytes-to_le_bytes_16 n fits =
    let first : n ≡ n % 256 + n / 256 * 256 = omega arith in
    let low = joined_8 _ _ _ _ _ _ _ _ n _ _ _ _ _ _ _ (n / 256 ^ 8) first (byte_and_rest n 256) (byte_and_rest n (256 ^ 2)) (byte_and_rest n (256 ^ 3)) (byte_and_rest n (256 ^ 4)) (byte_and_rest n (256 ^ 5)) (byte_and_rest n (256 ^ 6)) (byte_and_rest n (256 ^ 7)) in
    let last : n / 256 ^ 15 ≡ n / 256 ^ 15 % 256 + 0 * 256 = omega arith in
    let high = joined_8 _ _ _ _ _ _ _ _ (n / 256 ^ 8) _ _ _ _ _ _ _ 0 (byte_and_rest n (256 ^ 8)) (byte_and_rest n (256 ^ 9)) (byte_and_rest n (256 ^ 10)) (byte_and_rest n (256 ^ 11)) (byte_and_rest n (256 ^ 12)) (byte_and_rest n (256 ^ 13)) (byte_and_rest n (256 ^ 14)) last in
    omega (arith, low, high)

abbrev pub first_byte : List ℕ → ℕ
first_byte [] = 0
first_byte (b ∷ bs) = b

-- reading a count, an int, sized bytes, and a name, and the bytes after them
abbrev pub read_count : List ℕ → ℕ
read_count bs = from_le_bytes w64 bs

abbrev pub read_int : List ℕ → ℤ
read_int bs = cast_signed w64 (from_le_bytes w64 bs)

abbrev pub read_sized : List ℕ → List ℕ × List ℕ
read_sized bs = (take (read_count bs) (drop 8 bs), drop (read_count bs) (drop 8 bs))

abbrev pub read_name : List ℕ → List ℕ × List ℕ
read_name bs = (chars (read_sized bs).0, (read_sized bs).1)

count_read : (n : ℕ) (x : List ℕ) → IsCount n → read_count (count_bytes n ++ x) ≡ n
unfolding count_bytes
count_read n x fits = from_le_bytes-to_le_bytes_8 n fits

count_past : (n : ℕ) (x : List ℕ) → drop 8 (count_bytes n ++ x) ≡ x
unfolding count_bytes
count_past n x = refl

int_read : (n : ℤ) (x : List ℕ) → FitsSigned w64 n → read_int (int_bytes n ++ x) ≡ n
unfolding int_bytes
int_read n x fits = ap (cast_signed w64) (from_le_bytes-to_le_bytes_8 (cast_unsigned w64 n) (Fits-lt-pow (Fits-of_z fits))) ∙ to_z-of_z w64 n fits

int_past : (n : ℤ) (x : List ℕ) → drop 8 (int_bytes n ++ x) ≡ x
unfolding int_bytes
int_past n x = refl

sized_read : (bs x : List ℕ) → IsCount (length bs) → read_sized (sized bs ++ x) ≡ (bs, x)
sized_read bs x fits =
    let n = ap read_count (append_assoc (count_bytes (length bs)) bs x) ∙ count_read (length bs) (bs ++ x) fits in
    let rest = ap (drop 8) (append_assoc (count_bytes (length bs)) bs x) ∙ count_past (length bs) (bs ++ x) in
    ap₂ (λ k ys. (take k ys, drop k ys)) n rest ∙ ap₂ (λ a b. (a, b)) (take_at bs x (length bs) refl) (drop_at bs x (length bs) refl)

pub name_read : (cs x : List ℕ) → IsName cs → read_name (name_bytes cs ++ x) ≡ (cs, x)
name_read cs x fits = ap (λ y. (chars y.0, y.1)) (sized_read (encode_utf8_all cs) x fits.1) ∙ ap (λ k. (k, x)) (chars-encodes cs fits.0)

abbrev pub read_range : List ℕ → (ℤ × ℤ) × List ℕ
read_range bs = ((read_int bs, read_int (drop 8 bs)), drop 8 (drop 8 bs))

abbrev pub read_host : ℕ → List ℕ → Host × List ℕ
read_host k bs =
    cond (nat_eq k 0) (host_kind.U8 (first_byte bs), drop 1 bs)
    (cond (nat_eq k 1) (host_kind.U16 (from_le_bytes w16 bs), drop 2 bs)
    (cond (nat_eq k 2) (host_kind.U32 (from_le_bytes w32 bs), drop 4 bs)
    (cond (nat_eq k 3) (host_kind.U64 (from_le_bytes w64 bs), drop 8 bs)
    (cond (nat_eq k 4) (host_kind.U128 (from_le_bytes w128 bs), drop 16 bs)
    (cond (nat_eq k 5) (host_kind.I8 (cast_signed w8 (first_byte bs)), drop 1 bs)
    (cond (nat_eq k 6) (host_kind.I16 (cast_signed w16 (from_le_bytes w16 bs)), drop 2 bs)
    (cond (nat_eq k 7) (host_kind.I32 (cast_signed w32 (from_le_bytes w32 bs)), drop 4 bs)
    (cond (nat_eq k 8) (host_kind.I128 (cast_signed w128 (from_le_bytes w128 bs)), drop 16 bs)
    (cond (nat_eq k 9) (host_kind.ExclusiveRange (record { start = (read_range bs).0.0; end = (read_range bs).0.1 }), (read_range bs).1)
    (host_kind.InclusiveRange (record { start = (read_range bs).0.0; end = (read_range bs).0.1 }), (read_range bs).1))))))))))

range_read : (a b : ℤ) (x : List ℕ) → FitsSigned w64 a → FitsSigned w64 b → read_range ((int_bytes a ++ int_bytes b) ++ x) ≡ ((a, b), x)
range_read a b x f g =
    ap read_range (append_assoc (int_bytes a) (int_bytes b) x)
    ∙ ap₂ (λ z ys. ((z, read_int ys), drop 8 ys)) (int_read a (int_bytes b ++ x) f) (int_past a (int_bytes b ++ x))
    ∙ ap₂ (λ z ys. ((a, z), ys)) (int_read b x g) (int_past b x)

host_read : (h : Host) (x : List ℕ) → IsHost h → read_host (first_byte (host_bytes h ++ x)) (drop 1 (host_bytes h ++ x)) ≡ (h, x)
host_read (host_kind.U8 n) x fits = refl
host_read (host_kind.U16 n) x fits = ap (λ k. (host_kind.U16 k, x)) (from_le_bytes-to_le_bytes_2 n fits)
host_read (host_kind.U32 n) x fits = ap (λ k. (host_kind.U32 k, x)) (from_le_bytes-to_le_bytes_4 n fits)
host_read (host_kind.U64 n) x fits = ap (λ k. (host_kind.U64 k, x)) (from_le_bytes-to_le_bytes_8 n fits)
host_read (host_kind.U128 n) x fits = ap (λ k. (host_kind.U128 k, x)) (from_le_bytes-to_le_bytes_16 n fits)
host_read (host_kind.I8 n) x fits = ap (λ z. (host_kind.I8 z, x)) (to_z-of_z w8 n fits)
host_read (host_kind.I16 n) x fits = ap (λ z. (host_kind.I16 z, x)) (ap (cast_signed w16) (from_le_bytes-to_le_bytes_2 (cast_unsigned w16 n) (Fits-lt-pow (Fits-of_z fits))) ∙ to_z-of_z w16 n fits)
host_read (host_kind.I32 n) x fits = ap (λ z. (host_kind.I32 z, x)) (ap (cast_signed w32) (from_le_bytes-to_le_bytes_4 (cast_unsigned w32 n) (Fits-lt-pow (Fits-of_z fits))) ∙ to_z-of_z w32 n fits)
host_read (host_kind.I128 n) x fits = ap (λ z. (host_kind.I128 z, x)) (ap (cast_signed w128) (from_le_bytes-to_le_bytes_16 (cast_unsigned w128 n) (Fits-lt-pow (Fits-of_z fits))) ∙ to_z-of_z w128 n fits)
host_read (host_kind.ExclusiveRange r) x fits = ap (λ y. (host_kind.ExclusiveRange (record { start = y.0.0; end = y.0.1 }), y.1)) (range_read r.start r.end x fits.0 fits.1)
host_read (host_kind.InclusiveRange r) x fits = ap (λ y. (host_kind.InclusiveRange (record { start = y.0.0; end = y.0.1 }), y.1)) (range_read r.start r.end x fits.0 fits.1)

abbrev pub read_by : ℕ → List ℕ → Head × List ℕ
read_by k bs =
    cond (nat_eq k 0) (a_leaf unit, bs)
    (cond (nat_eq k 1) (a_leaf (bool (nat_eq (first_byte bs) 1)), drop 1 bs)
    (cond (nat_eq k 2) (a_leaf (text (read_name bs).0), (read_name bs).1)
    (cond (nat_eq k 3) (a_leaf (char (from_le_bytes w32 bs)), drop 4 bs)
    (cond (nat_eq k 4) (a_leaf (int (read_int bs)), drop 8 bs)
    (cond (nat_eq k 5) (a_branch array (read_count bs), drop 8 bs)
    (cond (nat_eq k 6) (a_leaf (blob (read_sized bs).0), (read_sized bs).1)
    (cond (nat_eq k 7) (a_map (read_count bs), drop 8 bs)
    (cond (nat_eq k 8) (a_branch (function (read_name bs).0) (read_count (read_name bs).1), drop 8 (read_name bs).1)
    (a_leaf (host (read_host (first_byte bs) (drop 1 bs)).0), (read_host (first_byte bs) (drop 1 bs)).1)))))))))

-- the head, and the bytes after it
abbrev pub read_head : List ℕ → Head × List ℕ
read_head bs = read_by (first_byte bs) (drop 1 bs)

pub leaf_read : (l : Leaf) (x : List ℕ) → IsLeaf l → read_head (leaf_bytes l ++ x) ≡ (a_leaf l, x)
leaf_read unit x fits = refl
leaf_read (bool true) x fits = refl
leaf_read (bool false) x fits = refl
leaf_read (text cs) x fits = ap (λ y. (a_leaf (text y.0), y.1)) (name_read cs x fits)
leaf_read (char c) x fits = ap (λ n. (a_leaf (char n), x)) (from_le_bytes-to_le_bytes_4 c fits)
leaf_read (int n) x fits = ap₂ (λ z y. (a_leaf (int z), y)) (int_read n x fits) (int_past n x)
leaf_read (blob bs) x fits = ap (λ y. (a_leaf (blob y.0), y.1)) (sized_read bs x fits)
leaf_read (host h) x fits = ap (λ y. (a_leaf (host y.0), y.1)) (host_read h x fits)

pub kind_read : (k : Kind) (n : ℕ) (x : List ℕ) → IsKind k → IsCount n → read_head (kind_bytes k ++ (count_bytes n ++ x)) ≡ (a_branch k n, x)
kind_read array n x named fits = ap₂ (λ m y. (a_branch array m, y)) (count_read n x fits) (count_past n x)
kind_read (function f) n x named fits =
    ap (λ y. (a_branch (function y.0) (read_count y.1), drop 8 y.1)) (name_read f (count_bytes n ++ x) named)
    ∙ ap₂ (λ m y. (a_branch (function f) m, y)) (count_read n x fits) (count_past n x)

pub map_read : (n : ℕ) (x : List ℕ) → IsCount n → read_head (7 ∷ (count_bytes n ++ x)) ≡ (a_map n, x)
map_read n x fits = ap₂ (λ m y. (a_map m, y)) (count_read n x fits) (count_past n x)
