-- Texts have the same order by their bytes as by their characters.
use Rattle.std.proofs.Common.{◌≡◌, ℕ, ◌+◌, ◌/◌, ◌<◌, ◌≤◌, List, [], ◌∷◌, ◌++◌, refl, sym, ◌∙◌, ap, subst, inl, inr, arith}
use Rattle.std.proofs.lemmas.Bool.{cases_lt, cases_order, lt-ltb, le-ltb}
use Rattle.std.proofs.lemmas.Str.{encode_ascii}
use Rattle.std.specs.Cmp.{nat_cmp_is}
use Rattle.std.specs.Cmp.Lexicographic.{slice_cmp, nat_list_cmp_total}
use Rattle.std.specs.Ordering.{nat_cmp, ordering_then, ordering_reverse}
use Rattle.std.specs.declared.cmp.Ordering.TheVariants.{Less, Equal, Greater}
use Rattle.std.specs.Str.{encode_utf8_all}
use Rattle.std.proofs.Math.Utf8.{encode, next}

pub less_head : (x y : ℕ) (xs ys : List ℕ) → x < y → slice_cmp nat_cmp (x ∷ xs) (y ∷ ys) ≡ Less
less_head x y xs ys h = ap (λ o. ordering_then o (slice_cmp nat_cmp xs ys)) (sym (nat_cmp_is x y Less h))

pub same_head : (x y : ℕ) (xs ys : List ℕ) → x ≡ y → slice_cmp nat_cmp (x ∷ xs) (y ∷ ys) ≡ slice_cmp nat_cmp xs ys
same_head x y xs ys h = ap (λ o. ordering_then o (slice_cmp nat_cmp xs ys)) (sym (nat_cmp_is x y Equal h))

same_front : (bs xs ys : List ℕ) → slice_cmp nat_cmp (bs ++ xs) (bs ++ ys) ≡ slice_cmp nat_cmp xs ys
same_front [] xs ys = refl
same_front (b ∷ bs) xs ys = same_head b b (bs ++ xs) (bs ++ ys) refl ∙ same_front bs xs ys

-- any text with the first prefix is less than any with the second
record IsBefore (bs ds : List ℕ) : Type 0 where
  before : (xs ys : List ℕ) → slice_cmp nat_cmp (bs ++ xs) (ds ++ ys) ≡ Less

before_head : (x y : ℕ) (xs ys : List ℕ) → x < y → IsBefore (x ∷ xs) (y ∷ ys)
before_head x y xs ys h = record { before = λ r t. less_head x y (xs ++ r) (ys ++ t) h }

before_tail : (x y : ℕ) (xs ys : List ℕ) → x ≡ y → IsBefore xs ys → IsBefore (x ∷ xs) (y ∷ ys)
before_tail x y xs ys e b = record { before = λ r t. same_head x y (xs ++ r) (ys ++ t) e ∙ b.before r t }

-- ---- the bytes of a character by its width

encode_two : (c : ℕ) → 128 ≤ c → c < 2048 → encode c ≡ (192 + c / 64) ∷ next c ∷ []
unfolding encode
encode_two c h k = rw (le-ltb c 128 h, lt-ltb c 2048 k)

encode_three : (c : ℕ) → 2048 ≤ c → c < 65536 → encode c ≡ (224 + c / 4096) ∷ next (c / 64) ∷ next c ∷ []
unfolding encode
encode_three c h k = rw (le-ltb c 128 (omega arith), le-ltb c 2048 h, lt-ltb c 65536 k)

encode_four : (c : ℕ) → 65536 ≤ c → encode c ≡ (240 + c / 262144) ∷ next (c / 4096) ∷ next (c / 64) ∷ next c ∷ []
unfolding encode
encode_four c h = rw (le-ltb c 128 (omega arith), le-ltb c 2048 (omega arith), le-ltb c 65536 h)

-- ---- a lesser character precedes a greater one: first by the bytes after the first, if that is equal

last_before : (c d : ℕ) → c < d → c / 64 ≡ d / 64 → IsBefore (next c ∷ []) (next d ∷ [])
last_before c d h e = before_head (next c) (next d) [] [] (omega arith)

last_two_before : (c d : ℕ) → c < d → c / 4096 ≡ d / 4096 → IsBefore (next (c / 64) ∷ next c ∷ []) (next (d / 64) ∷ next d ∷ [])
last_two_before c d h e =
    elim (cases_order (next (c / 64)) (next (d / 64))) [
      | inl same ↦ before_tail (next (c / 64)) (next (d / 64)) (next c ∷ []) (next d ∷ []) same (last_before c d h (omega arith))
      | inr (inl less) ↦ before_head (next (c / 64)) (next (d / 64)) (next c ∷ []) (next d ∷ []) less
      | inr (inr more) ↦ absurd (omega arith)
    ]

last_three_before : (c d : ℕ) → c < d → c / 262144 ≡ d / 262144 → IsBefore (next (c / 4096) ∷ next (c / 64) ∷ next c ∷ []) (next (d / 4096) ∷ next (d / 64) ∷ next d ∷ [])
last_three_before c d h e =
    elim (cases_order (next (c / 4096)) (next (d / 4096))) [
      | inl same ↦ before_tail (next (c / 4096)) (next (d / 4096)) (next (c / 64) ∷ next c ∷ []) (next (d / 64) ∷ next d ∷ []) same (last_two_before c d h (omega arith))
      | inr (inl less) ↦ before_head (next (c / 4096)) (next (d / 4096)) (next (c / 64) ∷ next c ∷ []) (next (d / 64) ∷ next d ∷ []) less
      | inr (inr more) ↦ absurd (omega arith)
    ]

-- the first byte is x, or y if that is greater, and the rest decides if they are equal
by_first : (x y : ℕ) (xs ys : List ℕ) → x ≤ y → (x ≡ y → IsBefore xs ys) → IsBefore (x ∷ xs) (y ∷ ys)
by_first x y xs ys le b =
    elim (cases_order x y) [
      | inl same ↦ before_tail x y xs ys same (b same)
      | inr (inl less) ↦ before_head x y xs ys less
      | inr (inr more) ↦ absurd (omega arith)
    ]

-- a character with more bytes begins with a greater one
record Begins (c low : ℕ) : Type 0 where
  byte : ℕ
  bytes : List ℕ
  is : encode c ≡ byte ∷ bytes
  high : low ≤ byte

begins_four : (c : ℕ) → 65536 ≤ c → Begins c 240
begins_four c h = record { byte = 240 + c / 262144; bytes = next (c / 4096) ∷ next (c / 64) ∷ next c ∷ []; is = encode_four c h; high = omega arith }

begins_three : (c : ℕ) → 2048 ≤ c → Begins c 224
begins_three c h =
    elim (cases_lt c 65536) [
      | inl k ↦ record { byte = 224 + c / 4096; bytes = next (c / 64) ∷ next c ∷ []; is = encode_three c h k; high = omega arith }
      | inr k ↦ let b = begins_four c k in record { byte = b.byte; bytes = b.bytes; is = b.is; high = omega (arith, b.high) }
    ]

begins_two : (c : ℕ) → 128 ≤ c → Begins c 192
begins_two c h =
    elim (cases_lt c 2048) [
      | inl k ↦ record { byte = 192 + c / 64; bytes = next c ∷ []; is = encode_two c h k; high = omega arith }
      | inr k ↦ let b = begins_three c k in record { byte = b.byte; bytes = b.bytes; is = b.is; high = omega (arith, b.high) }
    ]

begins : (c : ℕ) → Begins c 0
begins c =
    elim (cases_lt c 128) [
      | inl k ↦ record { byte = c; bytes = []; is = encode_ascii c k; high = omega arith }
      | inr k ↦ let b = begins_two c k in record { byte = b.byte; bytes = b.bytes; is = b.is; high = omega arith }
    ]

lower_first : (c d low x : ℕ) (xs : List ℕ) → encode c ≡ x ∷ xs → x < low → Begins d low → IsBefore (encode c) (encode d)
lower_first c d low x xs e h b =
    subst (λ bs. IsBefore bs (encode d)) (sym e)
    (subst (λ ds. IsBefore (x ∷ xs) ds) (sym b.is) (before_head x b.byte xs b.bytes (omega (arith, b.high))))

both_are : (c d : ℕ) (bs ds : List ℕ) → encode c ≡ bs → encode d ≡ ds → IsBefore bs ds → IsBefore (encode c) (encode d)
both_are c d bs ds e f b = subst (λ xs. IsBefore xs (encode d)) (sym e) (subst (λ ys. IsBefore bs ys) (sym f) b)

encode_before : (c d : ℕ) → c < d → IsBefore (encode c) (encode d)
encode_before c d h =
    elim (cases_lt c 128) [
      | inl c1 ↦ elim (cases_lt d 128) [
        | inl d1 ↦ both_are c d (c ∷ []) (d ∷ []) (encode_ascii c c1) (encode_ascii d d1) (before_head c d [] [] h)
        | inr d2 ↦ lower_first c d 192 c [] (encode_ascii c c1) (omega arith) (begins_two d d2)
      ]
      | inr c2 ↦ elim (cases_lt c 2048) [
        | inl c3 ↦ elim (cases_lt d 2048) [
          | inl d2 ↦ both_are c d ((192 + c / 64) ∷ next c ∷ []) ((192 + d / 64) ∷ next d ∷ []) (encode_two c c2 c3) (encode_two d (omega arith) d2)
              (by_first (192 + c / 64) (192 + d / 64) (next c ∷ []) (next d ∷ []) (omega arith) (λ e. last_before c d h (omega arith)))
          | inr d3 ↦ lower_first c d 224 (192 + c / 64) (next c ∷ []) (encode_two c c2 c3) (omega arith) (begins_three d d3)
        ]
        | inr c3 ↦ elim (cases_lt c 65536) [
          | inl c4 ↦ elim (cases_lt d 65536) [
            | inl d3 ↦ both_are c d ((224 + c / 4096) ∷ next (c / 64) ∷ next c ∷ []) ((224 + d / 4096) ∷ next (d / 64) ∷ next d ∷ []) (encode_three c c3 c4) (encode_three d (omega arith) d3)
                (by_first (224 + c / 4096) (224 + d / 4096) (next (c / 64) ∷ next c ∷ []) (next (d / 64) ∷ next d ∷ []) (omega arith) (λ e. last_two_before c d h (omega arith)))
            | inr d4 ↦ lower_first c d 240 (224 + c / 4096) (next (c / 64) ∷ next c ∷ []) (encode_three c c3 c4) (omega arith) (begins_four d d4)
          ]
          | inr c4 ↦ both_are c d ((240 + c / 262144) ∷ next (c / 4096) ∷ next (c / 64) ∷ next c ∷ []) ((240 + d / 262144) ∷ next (d / 4096) ∷ next (d / 64) ∷ next d ∷ []) (encode_four c c4) (encode_four d (omega arith))
              (by_first (240 + c / 262144) (240 + d / 262144) (next (c / 4096) ∷ next (c / 64) ∷ next c ∷ []) (next (d / 4096) ∷ next (d / 64) ∷ next d ∷ []) (omega arith) (λ e. last_three_before c d h (omega arith)))
        ]
      ]
    ]

-- ---- texts

nothing_first : (y : ℕ) (ys : List ℕ) → slice_cmp nat_cmp [] (encode y ++ ys) ≡ Less
nothing_first y ys = let b = begins y in ap (λ bs. slice_cmp nat_cmp [] (bs ++ ys)) b.is

something_after : (x : ℕ) (xs : List ℕ) → slice_cmp nat_cmp (encode x ++ xs) [] ≡ Greater
something_after x xs = let b = begins x in ap (λ bs. slice_cmp nat_cmp (bs ++ xs) []) b.is

pub slice_cmp-encodes : (a b : List ℕ) → slice_cmp nat_cmp (encode_utf8_all a) (encode_utf8_all b) ≡ slice_cmp nat_cmp a b
slice_cmp-encodes [] [] = refl
slice_cmp-encodes [] (y ∷ ys) = nothing_first y (encode_utf8_all ys)
slice_cmp-encodes (x ∷ xs) [] = something_after x (encode_utf8_all xs)
slice_cmp-encodes (x ∷ xs) (y ∷ ys) =
    elim (cases_order x y) [
      | inl same ↦
          ap (λ c. slice_cmp nat_cmp (encode c ++ encode_utf8_all xs) (encode y ++ encode_utf8_all ys)) same
          ∙ same_front (encode y) (encode_utf8_all xs) (encode_utf8_all ys)
          ∙ slice_cmp-encodes xs ys
          ∙ sym (same_head x y xs ys same)
      | inr (inl less) ↦ (encode_before x y less).before (encode_utf8_all xs) (encode_utf8_all ys) ∙ sym (less_head x y xs ys less)
      | inr (inr more) ↦
          nat_list_cmp_total.antisymm (encode x ++ encode_utf8_all xs) (encode y ++ encode_utf8_all ys)
          ∙ ap ordering_reverse ((encode_before y x more).before (encode_utf8_all ys) (encode_utf8_all xs) ∙ sym (less_head y x ys xs more))
          ∙ sym (nat_list_cmp_total.antisymm (x ∷ xs) (y ∷ ys))
    ]
