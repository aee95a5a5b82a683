-- The words written for the arguments of a verb are read as the same values.
use Rattle.std.proofs.Common.{◌≡◌, ℕ, ◌+◌, suc, ◌<◌, ◌/◌, ◌%◌, ◌*◌, Bool, true, false, not, ◌&&◌, ◌==◌, nat_lt, if◌then◌else◌, length, List, [], ◌∷◌, ◌++◌, flat_map, Option, Some, None, option_map, option_and_then, encode_utf8_all, refl, sym, ap, ap₂, ◌∙◌, subst, append-nil, arith}
use Rattle.std.specs.Char.{digit_value, is_ascii_hexdigit}
use Rattle.std.specs.Fmt.{digit_glyph}
use Rattle.std.specs.List.{list_all}
use Rattle.std.specs.Str.{IsUtf8}
use Rattle.std.proofs.Math.Utf8.{scalars}
use Rattle.std.proofs.lemmas.Bool.Decides.{nat_tests}
use Rattle.std.proofs.lemmas.Str.{IsUtf8-append, IsUtf8-nil, chars-encodes}
use Rattle.rhai_lines.specs.Words.{Left, and_then, words_of, is_name, name_of}
use Rattle.rhai_lines.specs.Vocabulary.{Word, reads, a_name}
use Rattle.rhai_lines.specs.Spelling.{behind, spells, writes, joined, words_for, flagged_word, text_words, has_feed}
use Rattle.rhai_lines.specs.Arguments.{Arguments, says, of_no_verb, none, one, before, last, each_of, names, flagged_of, flagged_names, an_alias, text_left, a_text, only, a_char, bytes_of_pairs, is_hex, a_blob}
use Rattle.rhai_show.specs.Leaves.{hex_digits}
use Rattle.rhai_lines.proofs.SaysBack.{the_same, both, graphic, is_graphic, has_feed_append, utf8_behind, word_is, left_is, graphic_no_feed, graphic_utf8}
use Rattle.rhai_lines.proofs.WordsBack.{named_back, word_back}
use Rattle.rhai_lines.proofs.Names.{no_name}
use Rattle.rhai_lines.proofs.Sigils.{flagged_alone, no_mark}
use Rattle.rhai_lines.proofs.WordLists.{words_of-cons}

pub record SaysLeft {A : Type 0} (arguments : Arguments A) (a : A) (left : Left) : Type 0 where
  pub back : says arguments left ≡ Some a
  pub fits : (has_feed (behind left) ≡ false) × IsUtf8 (behind left)

abbrev pub ArgumentsBack : {A : Type 0} → Arguments A → Type 0
ArgumentsBack {A} arguments = (a : A) (left : Left) → writes arguments a ≡ Some left → SaysLeft arguments a left

pub utf8_space : (w : List ℕ) → IsUtf8 w → IsUtf8 (32 ∷ w)
utf8_space w h = utf8_behind [] w IsUtf8-nil h

none_back : ArgumentsBack none
unfolding says writes
none_back u left e = subst (SaysLeft none u) (the_same e) (record { back = refl; fits = (refl, IsUtf8-nil) })

one_back : {A : Type 0} (p : Word A) → ArgumentsBack (one p)
unfolding says writes
one_back p a left e = by (spells p a) refl
  where
    by : (o : Option (List ℕ)) → spells p a ≡ o → SaysLeft (one p) a left
    by None f = cc (sym (ap (option_map Some) f) ∙ e)
    by (Some w) f =
        let k = word_back p a w f in
        subst (SaysLeft (one p) a) (the_same (sym (ap (option_map Some) f) ∙ e))
        (record { back = ap (λ x. and_then (reads p (Some x)) last) (sym (append-nil w)) ∙ ap (λ o. and_then o last) (k.back None); fits = (k.fits.0, utf8_space w k.fits.1) })

before_back : {A B : Type 0} (p : Word A) (more : Arguments B) → ArgumentsBack more → ArgumentsBack (before p more)
unfolding says writes
before_back p more k c left e = by (spells p c.0) (writes more c.1) refl refl
  where
    by : (o : Option (List ℕ)) (l : Option Left) → spells p c.0 ≡ o → writes more c.1 ≡ l → SaysLeft (before p more) c left
    by None l f g = cc (sym (ap₂ joined f g) ∙ e)
    by (Some w) None f g = cc (sym (ap₂ joined f g) ∙ e)
    by (Some w) (Some l) f g =
        let m = word_back p c.0 w f in
        let n = k c.1 l g in
        subst (SaysLeft (before p more) c) (the_same (sym (ap₂ joined f g) ∙ e))
        (record {
          back = ap (λ o. and_then o (λ a rest. option_map (λ b. (a, b)) (says more rest))) (m.back l) ∙ ap (option_map (λ b. (c.0, b))) n.back;
          fits = (has_feed_append w (behind l) m.fits.0 n.fits.0, utf8_space (w ++ behind l) (IsUtf8-append w (behind l) m.fits.1 n.fits.1));
        })

-- ---- lists of words

-- the values of the words of a list are the items that it was written for
record SaysItems {A : Type 0} (item : List ℕ → Option A) (items : List A) (left : Left) : Type 0 where
  pub back : each_of item (words_of left) ≡ Some items
  pub fits : (has_feed (behind left) ≡ false) × IsUtf8 (behind left)

items_back : {A : Type 0} (item : List ℕ → Option A) (spelled : A → Option (List ℕ)) → ((a : A) (w : List ℕ) → spelled a ≡ Some w → (item w ≡ Some a) × (graphic w ≡ true)) → (items : List A) (left : Left) → words_for spelled items ≡ Some left → SaysItems item items left
items_back item spelled h [] left e = subst (SaysItems item []) (the_same e) (record { back = refl; fits = (refl, IsUtf8-nil) })
items_back item spelled h (a ∷ more) left e = by (spelled a) (words_for spelled more) refl refl (items_back item spelled h more)
  where
    by : (o : Option (List ℕ)) (l : Option Left) → spelled a ≡ o → words_for spelled more ≡ l → ((left : Left) → words_for spelled more ≡ Some left → SaysItems item more left) → SaysItems item (a ∷ more) left
    by None l f g k = cc (sym (ap₂ joined f g) ∙ e)
    by (Some w) None f g k = cc (sym (ap₂ joined f g) ∙ e)
    by (Some w) (Some l) f g k =
        let m = h a w f in
        let n = k l g in
        subst (SaysItems item (a ∷ more)) (the_same (sym (ap₂ joined f g) ∙ e))
        (record {
          back =
              ap (each_of item) (words_of-cons (w ++ behind l) ∙ ap₂ (λ x y. x ∷ words_of y) (word_is w l m.1) (left_is w l m.1))
              ∙ ap (λ o. option_and_then (λ x. option_map (λ xs. x ∷ xs) (each_of item (words_of l))) o) m.0
              ∙ ap (option_map (λ xs. a ∷ xs)) n.back;
          fits = (has_feed_append w (behind l) (graphic_no_feed w m.1) n.fits.0, utf8_space (w ++ behind l) (IsUtf8-append w (behind l) (graphic_utf8 w m.1) n.fits.1));
        })

names_back : ArgumentsBack names
unfolding says writes
names_back a left e = let h = items_back name_of name_of named_back a left e in record { back = h.back; fits = h.fits }

-- a name without a mark isn't flagged
flagged_plain : (n name : List ℕ) → name_of n ≡ Some name → flagged_of n ≡ Some (name, false)
flagged_plain n name e = flagged_alone n (λ other f. no_flag other f) ∙ ap (option_map (λ x. (x, false))) e
  where
    no_flag : (other : List ℕ) → n ≡ 33 ∷ other → is_name other ≡ false
    no_flag other f = cc (sym (no_name (33 ∷ other) (no_mark other)) ∙ subst (λ x. name_of x ≡ Some name) f e)

flag_back : (p : List ℕ × Bool) (w : List ℕ) → flagged_word p ≡ Some w → (flagged_of w ≡ Some p) × (graphic w ≡ true)
flag_back p w e = by (name_of p.0) refl p.1 refl
  where
    by : (o : Option (List ℕ)) → name_of p.0 ≡ o → (t : Bool) → p.1 ≡ t → (flagged_of w ≡ Some p) × (graphic w ≡ true)
    by None f t g = cc (sym (ap (option_map (λ name. if p.1 then 33 ∷ name else name)) f) ∙ e)
    by (Some n) f true g =
        let h = named_back p.0 n f in
        let is : 33 ∷ n ≡ w = the_same (sym (ap₂ (λ o t. option_map (λ name. if t then 33 ∷ name else name) o) f g) ∙ e) in
        subst (λ x. (flagged_of x ≡ Some p) × (graphic x ≡ true)) is (ap (option_map (λ name. (name, true))) h.0 ∙ ap (λ t. Some (p.0, t)) (sym g), h.1)
    by (Some n) f false g =
        let h = named_back p.0 n f in
        let is : n ≡ w = the_same (sym (ap₂ (λ o t. option_map (λ name. if t then 33 ∷ name else name) o) f g) ∙ e) in
        subst (λ x. (flagged_of x ≡ Some p) × (graphic x ≡ true)) is (flagged_plain n p.0 h.0 ∙ ap (λ t. Some (p.0, t)) (sym g), h.1)

flagged_back : ArgumentsBack flagged_names
unfolding says writes
flagged_back a left e = let h = items_back flagged_of flagged_word flag_back a left e in record { back = h.back; fits = h.fits }

-- ---- an alias, a text, a character and a blob

alias_back : ArgumentsBack an_alias
unfolding says writes
alias_back [] left e = subst (SaysLeft an_alias []) (the_same e) (record { back = refl; fits = (refl, IsUtf8-nil) })
alias_back (c ∷ cs) left e = by left e (one_back a_name (c ∷ cs) left e)
  where
    by : (l : Left) → option_map Some (spells a_name (c ∷ cs)) ≡ Some l → SaysLeft (one a_name) (c ∷ cs) l → SaysLeft an_alias (c ∷ cs) l
    by None f h = some_left (spells a_name (c ∷ cs)) f
      where
        some_left : (o : Option (List ℕ)) → option_map Some o ≡ Some None → SaysLeft an_alias (c ∷ cs) None
        some_left None g = cc g
        some_left (Some w) g = cc (the_same g)
    by (Some text) f h = record { back = h.back; fits = h.fits }

text_fits : (t : List ℕ) (left : Left) → text_words t ≡ Some left → (text_left left ≡ t) × ((has_feed (behind left) ≡ false) × IsUtf8 (behind left))
text_fits [] left e = subst (λ l. (text_left l ≡ []) × ((has_feed (behind l) ≡ false) × IsUtf8 (behind l))) (the_same e) (refl, (refl, IsUtf8-nil))
text_fits (c ∷ cs) left e = by (scalars (c ∷ cs)) (has_feed (encode_utf8_all (c ∷ cs))) refl refl
  where
    by : (s t : Bool) → scalars (c ∷ cs) ≡ s → has_feed (encode_utf8_all (c ∷ cs)) ≡ t → (text_left left ≡ c ∷ cs) × ((has_feed (behind left) ≡ false) × IsUtf8 (behind left))
    by false t f g = cc (sym (ap₂ (λ x y. if x && not y then Some (Some (encode_utf8_all (c ∷ cs))) else None) f g) ∙ e)
    by true true f g = cc (sym (ap₂ (λ x y. if x && not y then Some (Some (encode_utf8_all (c ∷ cs))) else None) f g) ∙ e)
    by true false f g =
        subst (λ l. (text_left l ≡ c ∷ cs) × ((has_feed (behind l) ≡ false) × IsUtf8 (behind l))) (the_same (sym (ap₂ (λ x y. if x && not y then Some (Some (encode_utf8_all (c ∷ cs))) else None) f g) ∙ e))
        (chars-encodes (c ∷ cs) f, (g, utf8_space (encode_utf8_all (c ∷ cs)) (c ∷ cs, (f, refl))))

text_back : ArgumentsBack a_text
unfolding says writes
text_back t left e = let h = text_fits t left e in record { back = ap Some h.0; fits = h.1 }

char_back : ArgumentsBack a_char
unfolding says writes
char_back c left e = let h = text_fits (c ∷ []) left e in record { back = ap only h.0; fits = h.1 }

digit_of : (d : ℕ) → d < 16 → (digit_value (digit_glyph false d) ≡ d) × (is_ascii_hexdigit (digit_glyph false d) ≡ true) × (is_graphic (digit_glyph false d) ≡ true)
digit_of d h = (grind (arith, nat_tests, h), grind (arith, nat_tests, h), grind (arith, nat_tests, h))

digits_back : (bytes : List ℕ) → list_all (λ b. nat_lt b 256) bytes ≡ true
    → (bytes_of_pairs (flat_map hex_digits bytes) ≡ bytes) × ((length (flat_map hex_digits bytes) % 2 ≡ 0) × ((list_all is_ascii_hexdigit (flat_map hex_digits bytes) ≡ true) × (graphic (flat_map hex_digits bytes) ≡ true)))
digits_back [] e = (refl, (refl, (refl, refl)))
digits_back (b ∷ bs) e =
    let h = both (nat_lt b 256) (list_all (λ b. nat_lt b 256) bs) e in
    let fits : b < 256 = grind (arith, nat_tests, h.0) in
    let high = digit_of (b / 16) (omega (arith, fits)) in
    let low = digit_of (b % 16) (omega arith) in
    let k = digits_back bs h.1 in
    let value : (b / 16) * 16 + b % 16 ≡ b = omega arith in (
      ap₂ (λ x xs. x ∷ xs) (ap₂ (λ x y. x * 16 + y) high.0 low.0 ∙ value) k.0,
      (
        even (length (flat_map hex_digits bs)) k.1.0,
        (
          ap₂ (λ s t. s && t) high.1 (ap₂ (λ s t. s && t) low.1 k.1.1.0),
          ap₂ (λ s t. s && t) high.2 (ap₂ (λ s t. s && t) low.2 k.1.1.1),
        ),
      ),
    )
  where
    even : (n : ℕ) → n % 2 ≡ 0 → suc (suc n) % 2 ≡ 0
    even n e = omega (arith, e)

blob_back : ArgumentsBack a_blob
unfolding says writes
blob_back [] left e = subst (SaysLeft a_blob []) (the_same e) (record { back = refl; fits = (refl, IsUtf8-nil) })
blob_back (b ∷ bs) left e = by (list_all (λ x. nat_lt x 256) (b ∷ bs)) refl
  where
    by : (t : Bool) → list_all (λ x. nat_lt x 256) (b ∷ bs) ≡ t → SaysLeft a_blob (b ∷ bs) left
    by false f = cc (sym (ap (λ t. if t then Some (Some (flat_map hex_digits (b ∷ bs))) else None) f) ∙ e)
    by true f =
        let k = digits_back (b ∷ bs) f in
        let even : (length (flat_map hex_digits (b ∷ bs)) % 2 == 0) ≡ true = grind (arith, nat_tests, k.1.0) in
        let some : nat_lt 0 (length (flat_map hex_digits (b ∷ bs))) ≡ true = grind (arith, nat_tests) in
        let hex : is_hex (flat_map hex_digits (b ∷ bs)) ≡ true = ap₂ (λ s t. s && t) (ap₂ (λ s t. s && t) some even) k.1.1.0 in
        subst (SaysLeft a_blob (b ∷ bs)) (the_same (sym (ap (λ t. if t then Some (Some (flat_map hex_digits (b ∷ bs))) else None) f) ∙ e))
        (record {
          back = ap (λ t. if t then Some (bytes_of_pairs (flat_map hex_digits (b ∷ bs))) else None) hex ∙ ap Some k.0;
          fits = (graphic_no_feed (flat_map hex_digits (b ∷ bs)) k.1.1.1, utf8_space (flat_map hex_digits (b ∷ bs)) (graphic_utf8 (flat_map hex_digits (b ∷ bs)) k.1.1.1));
        })

-- the words written for any arguments
pub arguments_back : {A : Type 0} (arguments : Arguments A) → ArgumentsBack arguments
unfolding writes
arguments_back of_no_verb a left e = absurd a
arguments_back none a left e = none_back a left e
arguments_back (one p) a left e = one_back p a left e
arguments_back (before p more) a left e = before_back p more (arguments_back more) a left e
arguments_back names a left e = names_back a left e
arguments_back flagged_names a left e = flagged_back a left e
arguments_back an_alias a left e = alias_back a left e
arguments_back a_text a left e = text_back a left e
arguments_back a_blob a left e = blob_back a left e
arguments_back a_char a left e = char_back a left e
