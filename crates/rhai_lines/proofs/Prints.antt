-- Consecutive writes.
use Rattle.std.proofs.Common.{◌≡◌, ℕ, ◌+◌, ◌<◌, List, [], ◌++◌, length, take, get_or, flat_map, Option, Some, None, Result, Ok, Err, OnOk, sym, ap, ◌∙◌, subst, append_assoc, append-nil}
use Rattle.std.specs.Io.KnownBytes.{Appends}
use Rattle.std.proofs.lemmas.List.{flat_map_more, take_more}
use Rattle.rhai_show.specs.Leaves.{hex_digits}

pub Appends-nil : (old : Option (List ℕ)) → Appends old old []
Appends-nil None = tt
Appends-nil (Some xs) = sym (append-nil xs)

pub Appends-more : (old mid new : Option (List ℕ)) (a b : List ℕ) → Appends old mid a → Appends mid new b → Appends old new (a ++ b)
Appends-more None mid new a b h k = tt
Appends-more (Some xs) None new a b h k = absurd h
Appends-more (Some xs) (Some ys) None a b h k = absurd k
Appends-more (Some xs) (Some ys) (Some zs) a b h k = k ∙ ap (λ v. v ++ b) h ∙ append_assoc xs a b

-- a last write, which may fail
pub Appends-last : {T E : Type 0} (r : Result T E) (old mid new : Option (List ℕ)) (a b : List ℕ) → Appends old mid a → OnOk r (Appends mid new b) → OnOk r (Appends old new (a ++ b))
Appends-last (Ok x) old mid new a b h k = Appends-more old mid new a b h k
Appends-last (Err e) old mid new a b h k = tt

-- a byte after the bytes before it
pub Appends-byte : (old mid new : Option (List ℕ)) (bytes : List ℕ) (i : ℕ) → i < length bytes → Appends old mid (flat_map hex_digits (take i bytes)) → Appends mid new (hex_digits (get_or bytes i 0)) → Appends old new (flat_map hex_digits (take (i + 1) bytes))
Appends-byte old mid new bytes i l h k =
    let e : flat_map hex_digits (take i bytes) ++ hex_digits (get_or bytes i 0) ≡ flat_map hex_digits (take (i + 1) bytes) = flat_map_more hex_digits [] (take i bytes) (get_or bytes i 0) ∙ ap (flat_map hex_digits) (sym (take_more bytes i 0 l)) in
    subst (Appends old new) e (Appends-more old mid new (flat_map hex_digits (take i bytes)) (hex_digits (get_or bytes i 0)) h k)
