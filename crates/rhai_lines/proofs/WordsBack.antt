-- The words written for each kind of word are read as the same value.
use Rattle.std.proofs.Common.{◌≡◌, ℕ, suc, ◌<◌, ◌≤◌, ◌^◌, ℤ, pos, negsuc, neg_ℤ, Bool, true, false, ◌&&◌, ◌==◌, nat_lt, if◌then◌else◌, length, List, [], ◌∷◌, ◌++◌, Option, Some, None, option_map, option_and_then, codes, refl, sym, ap, ap₂, ◌∙◌, subst, append_assoc, arith}
use denote.Enum.Bare.{same_true}
use Rattle.std.specs.Char.{is_ascii_digit}
use Rattle.std.specs.Fmt.{decimal, signed_decimal}
use Rattle.std.specs.List.{list_all}
use Rattle.std.specs.Str.Parse.{digits_value, AllDigits, IsNumeral}
use Rattle.std.proofs.lemmas.Bool.Decides.{nat_tests}
use Rattle.std.proofs.lemmas.Fmt.{decimal_is_IsNumeral_wide}
use Rattle.std.proofs.lemmas.Str.Parse.{digit_at}
use Rattle.rhai_text.specs.contracts.token.Token as token
use Rattle.rhai_text.specs.declared.token.Token.{Token}
use Rattle.rhai_value.specs.Kinds.{one_type}
use Rattle.rhai_value.specs.Types.{is_type}
use Rattle.rhai_value.specs.declared.value.type_id.TypeId.{TypeId}
use Rattle.rhai_lines.specs.Words.{Left, next_word, and_then, named, is_name, is_name_byte, name_of, truths}
use Rattle.rhai_lines.specs.Vocabulary.{Word, reads, a_name, a_truth, a_position, a_bit, an_int, a_tag, kinds, operators, a_kind, a_token, question_by, a_question, scanner_by, a_scanner, host_of, a_host, place_of, a_place}
use Rattle.rhai_lines.specs.Spelling.{behind, spells, called, unsigned_word, signed_word, is_token, question_words, scanner_words, host_words, place_word, with_word}
use Rattle.rhai_lines.specs.Numbers.{whole_number_of, number_of, below, as_unsigned, as_signed, unsigned_of, signed_of}
use Rattle.rhai_run.specs.declared.command.Question.{Question}
use Rattle.rhai_run.specs.declared.command.Question.TheVariants as question
use Rattle.rhai_run.specs.declared.command.Scanner.{Scanner}
use Rattle.rhai_run.specs.declared.command.Scanner.TheVariants.{Tags, Cut}
use Rattle.rhai_run.specs.declared.command.Place.{Place}
use Rattle.rhai_run.specs.declared.command.Place.TheVariants as place
use Rattle.rhai_value.specs.declared.value.host.Host.{Host}
use Rattle.rhai_value.specs.declared.value.host.Host.TheVariants as host
use Rattle.rhai_lines.proofs.Names.{name_graphic}
use Rattle.rhai_lines.proofs.Sigils.{no_digits}
use Rattle.rhai_lines.proofs.SaysBack.{the_same, graphic, is_graphic, both, SaysBack, Back, next_is, one_back, called_back, graphic_no_feed, graphic_utf8, has_feed_append, utf8_behind}

-- ---- types and operators

one_token : (a b : Token) → is_token a b ≡ true → a ≡ b
one_token a b e = same_true token.the_type tt a b e

kind_named : (a : TypeId) (w : List ℕ) → called is_type kinds a ≡ Some w → (named kinds w ≡ Some a) × (graphic w ≡ true)
unfolding kinds
kind_named a w e = called_back is_type one_type kinds kinds a w refl e

token_named : (a : Token) (w : List ℕ) → called is_token operators a ≡ Some w → (named operators w ≡ Some a) × (graphic w ≡ true)
unfolding operators
token_named a w e = called_back is_token one_token operators operators a w refl e

-- ---- names and booleans

pub named_back : (a w : List ℕ) → name_of a ≡ Some w → (name_of w ≡ Some a) × (graphic w ≡ true)
named_back a w e = by (is_name a) refl
  where
    by : (t : Bool) → is_name a ≡ t → (name_of w ≡ Some a) × (graphic w ≡ true)
    by true f =
        let is : a ≡ w = the_same (sym (ap (λ x. if x then Some a else None) f) ∙ e) in
        (subst (λ x. name_of x ≡ Some a) is (ap (λ x. if x then Some a else None) f), subst (λ x. graphic x ≡ true) is (name_graphic a (both (nat_lt 0 (length a)) (list_all is_name_byte a) f).1))
    by false f = cc (sym (ap (λ x. if x then Some a else None) f) ∙ e)

truth_named : (b : Bool) (w : List ℕ) → Some (if b then codes "true" else codes "false") ≡ Some w → (named truths w ≡ Some b) × (graphic w ≡ true)
truth_named true w e = subst (λ x. (named truths x ≡ Some true) × (graphic x ≡ true)) (the_same e) (refl, refl)
truth_named false w e = subst (λ x. (named truths x ≡ Some false) × (graphic x ≡ true)) (the_same e) (refl, refl)

-- ---- numbers

digits : (ds : List ℕ) → AllDigits 10 ds → (list_all is_ascii_digit ds ≡ true) × (graphic ds ≡ true)
digits [] h = (refl, refl)
digits (d ∷ ds) h =
    let k = digits ds h.1 in
    let r = digit_at (d ∷ []) 0 (h.0, tt) (omega arith) in
    (ap₂ (λ s t. s && t) (is_digit d r.0 r.1) k.0, ap₂ (λ s t. s && t) (graphic_digit d r.0 r.1) k.1)
  where
    is_digit : (d : ℕ) → 48 ≤ d → d ≤ 57 → is_ascii_digit d ≡ true
    is_digit d l u = grind (arith, nat_tests, l, u)

    graphic_digit : (d : ℕ) → 48 ≤ d → d ≤ 57 → is_graphic d ≡ true
    graphic_digit d l u = grind (arith, nat_tests, l, u)

whole : (ds : List ℕ) → IsNumeral 10 ds → whole_number_of ds ≡ Some (digits_value 10 ds)
whole ds h =
    let t : nat_lt 0 (length ds) ≡ true = grind (arith, nat_tests, h.0) in
    ap₂ (λ s t. if s && t then Some (digits_value 10 ds) else None) t (digits ds h.1).0

number_of-digits : (ds : List ℕ) → IsNumeral 10 ds → number_of ds ≡ Some (pos (digits_value 10 ds))
number_of-digits [] h = absurd (omega (arith, h.0))
number_of-digits (d ∷ ds) h =
    let r = digit_at (d ∷ []) 0 (h.1.0, tt) (omega arith) in
    let t : (d == 45) ≡ false = grind (arith, nat_tests, r.0) in
    ap (λ t. if t then option_map (λ n. neg_ℤ (pos n)) (whole_number_of ds) else option_map pos (whole_number_of (d ∷ ds))) t
    ∙ ap (option_map pos) (whole (d ∷ ds) h)

-- a number of at most that many bits has fewer than 64 digits
wide : (bits n : ℕ) → nat_lt (2 ^ bits) (10 ^ 64) ≡ true → nat_lt n (2 ^ bits) ≡ true → suc n < 10 ^ 64
wide bits n h k = grind (arith, nat_tests, h, k)

decimal_says : (n : ℕ) → n < 10 ^ 64 → (number_of (decimal n) ≡ Some (pos n)) × (graphic (decimal n) ≡ true)
decimal_says n h =
    let k = decimal_is_IsNumeral_wide n h in
    (number_of-digits (decimal n) k.0 ∙ ap (λ m. Some (pos m)) k.1, (digits (decimal n) k.0.1).1)

minus_says : (n : ℕ) → n < 10 ^ 64 → (number_of (45 ∷ decimal n) ≡ Some (neg_ℤ (pos n))) × (graphic (45 ∷ decimal n) ≡ true)
minus_says n h =
    let k = decimal_is_IsNumeral_wide n h in
    (ap (option_map (λ m. neg_ℤ (pos m))) (whole (decimal n) k.0 ∙ ap Some k.1), ap (λ t. is_graphic 45 && t) (digits (decimal n) k.0.1).1)

-- a written number, read as one of a type that it fits
spelled_back : {N : Type 0} (fit : ℤ → Option N) (a : N) (z : ℤ) (spelled w : List ℕ) → (number_of spelled ≡ Some z) × (graphic spelled ≡ true) → fit z ≡ Some a → spelled ≡ w → (option_and_then fit (number_of w) ≡ Some a) × (graphic w ≡ true)
spelled_back fit a z spelled w h f is = subst (λ x. (option_and_then fit (number_of x) ≡ Some a) × (graphic x ≡ true)) is (ap (option_and_then fit) h.0 ∙ f, h.1)

pub unsigned_back : (bits n : ℕ) (w : List ℕ) → nat_lt (2 ^ bits) (10 ^ 64) ≡ true → unsigned_word bits n ≡ Some w → (unsigned_of bits w ≡ Some n) × (graphic w ≡ true)
unsigned_back bits n w h e = by (nat_lt n (2 ^ bits)) refl
  where
    by : (t : Bool) → nat_lt n (2 ^ bits) ≡ t → (unsigned_of bits w ≡ Some n) × (graphic w ≡ true)
    by true f =
        let b : below bits n ≡ Some n = ap (λ x. if x then Some n else None) f in
        spelled_back (as_unsigned bits) n (pos n) (decimal n) w (decimal_says n (omega (arith, wide bits n h f))) b (the_same (sym (ap (option_map decimal) b) ∙ e))
    by false f = cc (sym (ap (λ x. option_map decimal (if x then Some n else None)) f) ∙ e)

pub signed_back : (bits : ℕ) (z : ℤ) (w : List ℕ) → nat_lt (2 ^ bits) (10 ^ 64) ≡ true → signed_word bits z ≡ Some w → (signed_of bits w ≡ Some z) × (graphic w ≡ true)
signed_back bits (pos n) w h e = by (nat_lt n (2 ^ bits)) refl
  where
    by : (t : Bool) → nat_lt n (2 ^ bits) ≡ t → (signed_of bits w ≡ Some (pos n)) × (graphic w ≡ true)
    by true f =
        let b : as_signed bits (pos n) ≡ Some (pos n) = ap (λ x. option_map pos (if x then Some n else None)) f in
        spelled_back (as_signed bits) (pos n) (pos n) (decimal n) w (decimal_says n (omega (arith, wide bits n h f))) b (the_same (sym (ap (option_map signed_decimal) b) ∙ e))
    by false f = cc (sym (ap (λ x. option_map signed_decimal (option_map pos (if x then Some n else None))) f) ∙ e)
signed_back bits (negsuc n) w h e = by (nat_lt n (2 ^ bits)) refl
  where
    by : (t : Bool) → nat_lt n (2 ^ bits) ≡ t → (signed_of bits w ≡ Some (negsuc n)) × (graphic w ≡ true)
    by true f =
        let b : as_signed bits (negsuc n) ≡ Some (negsuc n) = ap (λ x. option_map negsuc (if x then Some n else None)) f in
        spelled_back (as_signed bits) (negsuc n) (negsuc n) (45 ∷ decimal (suc n)) w (minus_says (suc n) (wide bits n h f)) b (the_same (sym (ap (option_map signed_decimal) b) ∙ e))
    by false f = cc (sym (ap (λ x. option_map signed_decimal (option_map negsuc (if x then Some n else None))) f) ∙ e)

-- ---- places

place_of-number : (w : List ℕ) (n : ℕ) → unsigned_of 64 w ≡ Some n → place_of w ≡ Some (place.Hand n)
place_of-number [] n e = cc
place_of-number (b ∷ bs) n e = by (b == 64) refl
  where
    by : (t : Bool) → (b == 64) ≡ t → place_of (b ∷ bs) ≡ Some (place.Hand n)
    by true f =
        let is : b ≡ 64 = grind (arith, nat_tests, f) in
        let none : unsigned_of 64 (64 ∷ bs) ≡ None = ap (λ o. option_and_then (as_unsigned 64) (option_map pos o)) (no_digits bs) in
        cc (sym none ∙ subst (λ c. unsigned_of 64 (c ∷ bs) ≡ Some n) is e)
    by false f = ap (λ t. if t then option_map place.Entry (name_of bs) else option_map place.Hand (unsigned_of 64 (b ∷ bs))) f ∙ ap (option_map place.Hand) e

place_named : (p : Place) (w : List ℕ) → place_word p ≡ Some w → (place_of w ≡ Some p) × (graphic w ≡ true)
place_named (place.Hand n) w e = let h = unsigned_back 64 n w refl e in (place_of-number w n h.0, h.1)
place_named (place.Entry name) w e = by (name_of name) refl
  where
    by : (o : Option (List ℕ)) → name_of name ≡ o → (place_of w ≡ Some (place.Entry name)) × (graphic w ≡ true)
    by None f = cc (sym (ap (option_map (λ n. 64 ∷ n)) f) ∙ e)
    by (Some n) f =
        let is : 64 ∷ n ≡ w = the_same (sym (ap (option_map (λ n. 64 ∷ n)) f) ∙ e) in
        let h = named_back name n f in
        subst (λ x. (place_of x ≡ Some (place.Entry name)) × (graphic x ≡ true)) is (ap (option_map place.Entry) h.0, h.1)

-- ---- a word, and the words of one more value after it

-- the value of a first word and the word after it
first_back : {A B : Type 0} (word : Word B) (by : List ℕ → Left → Option (B × Left)) (value : List ℕ → Option A) (make : A → B) (front w : List ℕ) (a : A) → graphic front ≡ true
    → ((left : Left) → reads word left ≡ and_then (next_word (λ x. Some x) left) by) → ((left : Left) → by front left ≡ and_then (next_word value left) (λ x rest. Some (make x, rest)))
    → (value w ≡ Some a) × (graphic w ≡ true) → SaysBack word (make a) (front ++ 32 ∷ w)
first_back word by value make front w a g is e h = record {
  back = λ left.
      is (Some ((front ++ 32 ∷ w) ++ behind left))
      ∙ ap (λ x. and_then (next_word (λ y. Some y) (Some x)) by) (append_assoc front (32 ∷ w) (behind left))
      ∙ ap (λ x. and_then x by) (next_is (λ y. Some y) front front (Some (w ++ behind left)) g refl)
      ∙ e (Some (w ++ behind left))
      ∙ ap (λ x. and_then x (λ y rest. Some (make y, rest))) (next_is value a w left h.1 h.0);
  fits = (has_feed_append front (32 ∷ w) (graphic_no_feed front g) (graphic_no_feed w h.1), utf8_behind front w (graphic_utf8 front g) (graphic_utf8 w h.1));
}

-- a single first word
alone_back : {B : Type 0} (word : Word B) (by : List ℕ → Left → Option (B × Left)) (front w : List ℕ) (b : B) → graphic front ≡ true
    → ((left : Left) → reads word left ≡ and_then (next_word (λ x. Some x) left) by) → ((left : Left) → by front left ≡ Some (b, left)) → Some front ≡ Some w → SaysBack word b w
alone_back word by front w b g is e f = subst (SaysBack word b) (the_same f) (record {
  back = λ left. is (Some (front ++ behind left)) ∙ ap (λ x. and_then x by) (next_is (λ y. Some y) front front left g refl) ∙ e left;
  fits = (graphic_no_feed front g, graphic_utf8 front g);
})

same_read : {B : Type 0} (o : Option (B × Left)) → o ≡ and_then o (λ x rest. Some (x, rest))
same_read None = refl
same_read (Some p) = refl

with_back : {A : Type 0} (spelled : A → Option (List ℕ)) (front w : List ℕ) (a : A) (P : List ℕ → Type 0) → with_word front (spelled a) ≡ Some w → ((v : List ℕ) → spelled a ≡ Some v → P (front ++ 32 ∷ v)) → P w
with_back spelled front w a P e go = by (spelled a) refl
  where
    by : (o : Option (List ℕ)) → spelled a ≡ o → P w
    by None f = cc (sym (ap (with_word front) f) ∙ e)
    by (Some v) f = subst P (the_same (sym (ap (with_word front) f) ∙ e)) (go v f)

-- the values for which a first word and the word after it are written
second_back : {A B : Type 0} (word : Word B) (by : List ℕ → Left → Option (B × Left)) (value : List ℕ → Option A) (spelled : A → Option (List ℕ)) (make : A → B) (front w : List ℕ) (a : A) → graphic front ≡ true
    → ((left : Left) → reads word left ≡ and_then (next_word (λ x. Some x) left) by) → ((left : Left) → by front left ≡ and_then (next_word value left) (λ x rest. Some (make x, rest)))
    → ((v : List ℕ) → spelled a ≡ Some v → (value v ≡ Some a) × (graphic v ≡ true)) → with_word front (spelled a) ≡ Some w → SaysBack word (make a) w
second_back word by value spelled make front w a g is e h f = with_back spelled front w a (SaysBack word (make a)) f (λ v k. first_back word by value make front v a g is e (h v k))

question_back : (q : Question) (w : List ℕ) → question_words q ≡ Some w → SaysBack a_question q w
unfolding reads
question_back (question.Held k) w e = second_back a_question question_by (named kinds) (called is_type kinds) question.Held (codes "held") w k refl (λ left. refl) (λ left. refl) (kind_named k) e
question_back (question.Is k) w e = second_back a_question question_by (named kinds) (called is_type kinds) question.Is (codes "is") w k refl (λ left. refl) (λ left. refl) (kind_named k) e
question_back q w e = alone_back a_question question_by _ w q refl (λ left. refl) (λ left. refl) e

scanner_back : (s : Scanner) (w : List ℕ) → scanner_words s ≡ Some w → SaysBack a_scanner s w
unfolding reads
scanner_back (Tags t) w e = second_back a_scanner scanner_by (signed_of 31) (signed_word 31) Tags (codes "tags") w t refl (λ left. refl) (λ left. refl) (λ v. signed_back 31 t v refl) e
scanner_back (Cut n) w e = second_back a_scanner scanner_by (unsigned_of 64) (unsigned_word 64) Cut (codes "cut") w n refl (λ left. refl) (λ left. refl) (λ v. unsigned_back 64 n v refl) e
scanner_back s w e = alone_back a_scanner scanner_by _ w s refl (λ left. refl) (λ left. refl) e

-- a number of a host type
number_host : {N : Type 0} (value : List ℕ → Option N) (spelled : N → Option (List ℕ)) (kind : List ℕ) (make : N → Host) (n : N) (w : List ℕ)
    → ((v : List ℕ) → spelled n ≡ Some v → (value v ≡ Some n) × (graphic v ≡ true)) → graphic kind ≡ true → ((word : List ℕ) → host_of kind word ≡ option_map make (value word)) → with_word kind (spelled n) ≡ Some w → SaysBack a_host (make n) w
unfolding reads
number_host value spelled kind make n w h g is e = with_back spelled kind w n (SaysBack a_host (make n)) e (λ v f.
    let k = h v f in
    first_back a_host (λ k. next_word (host_of k)) (host_of kind) (λ x. x) kind v (make n) g (λ left. refl) (λ left. same_read (next_word (host_of kind) left)) (is v ∙ ap (option_map make) k.0, k.1))

host_back : (h : Host) (w : List ℕ) → host_words h ≡ Some w → SaysBack a_host h w
host_back (host.U8 n) w e = number_host (unsigned_of 8) (unsigned_word 8) (codes "u8") host.U8 n w (λ v. unsigned_back 8 n v refl) refl (λ v. refl) e
host_back (host.U16 n) w e = number_host (unsigned_of 16) (unsigned_word 16) (codes "u16") host.U16 n w (λ v. unsigned_back 16 n v refl) refl (λ v. refl) e
host_back (host.U32 n) w e = number_host (unsigned_of 32) (unsigned_word 32) (codes "u32") host.U32 n w (λ v. unsigned_back 32 n v refl) refl (λ v. refl) e
host_back (host.U64 n) w e = number_host (unsigned_of 64) (unsigned_word 64) (codes "u64") host.U64 n w (λ v. unsigned_back 64 n v refl) refl (λ v. refl) e
host_back (host.U128 n) w e = number_host (unsigned_of 128) (unsigned_word 128) (codes "u128") host.U128 n w (λ v. unsigned_back 128 n v refl) refl (λ v. refl) e
host_back (host.I8 z) w e = number_host (signed_of 7) (signed_word 7) (codes "i8") host.I8 z w (λ v. signed_back 7 z v refl) refl (λ v. refl) e
host_back (host.I16 z) w e = number_host (signed_of 15) (signed_word 15) (codes "i16") host.I16 z w (λ v. signed_back 15 z v refl) refl (λ v. refl) e
host_back (host.I32 z) w e = number_host (signed_of 31) (signed_word 31) (codes "i32") host.I32 z w (λ v. signed_back 31 z v refl) refl (λ v. refl) e
host_back (host.I128 z) w e = number_host (signed_of 127) (signed_word 127) (codes "i128") host.I128 z w (λ v. signed_back 127 z v refl) refl (λ v. refl) e
host_back (host.ExclusiveRange r) w e = cc e
host_back (host.InclusiveRange r) w e = cc e

-- each kind of word
pub word_back : {A : Type 0} (word : Word A) → Back word
unfolding reads spells
word_back a_truth a w e = let h = truth_named a w e in one_back a_truth (named truths) a w (λ left. refl) h.1 h.0
word_back a_position a w e = let h = unsigned_back 64 a w refl e in one_back a_position (unsigned_of 64) a w (λ left. refl) h.1 h.0
word_back a_bit a w e = let h = unsigned_back 8 a w refl e in one_back a_bit (unsigned_of 8) a w (λ left. refl) h.1 h.0
word_back an_int a w e = let h = signed_back 63 a w refl e in one_back an_int (signed_of 63) a w (λ left. refl) h.1 h.0
word_back a_tag a w e = let h = signed_back 31 a w refl e in one_back a_tag (signed_of 31) a w (λ left. refl) h.1 h.0
word_back a_kind a w e = let h = kind_named a w e in one_back a_kind (named kinds) a w (λ left. refl) h.1 h.0
word_back a_token a w e = let h = token_named a w e in one_back a_token (named operators) a w (λ left. refl) h.1 h.0
word_back a_question a w e = question_back a w e
word_back a_scanner a w e = scanner_back a w e
word_back a_host a w e = host_back a w e
word_back a_place a w e = let h = place_named a w e in one_back a_place place_of a w (λ left. refl) h.1 h.0
word_back a_name a w e = let h = named_back a w e in one_back a_name name_of a w (λ left. refl) h.1 h.0
