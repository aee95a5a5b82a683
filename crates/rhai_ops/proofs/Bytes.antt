-- A value's own texts and blobs, and texts appended to blobs.
use Rattle.std.proofs.Common.{◌≡◌, ℕ, ◌+◌, true, false, List, [], ◌∷◌, length, length-append, Option, Some, None, IsSome, Ok, refl, sym, ◌∙◌}
use Rattle.std.specs.Str.{encode_utf8_all}
use Rattle.rhai_text.specs.declared.error.SizeKind.TheVariants as size
use Rattle.rhai_text.specs.declared.limits.Limits.{Limits}
use Rattle.rhai_value.specs.declared.cells.store.Cell.{Cell}
use Rattle.rhai_value.specs.Tree.{Tree, node, leaf, fresh, unit}
use Rattle.rhai_value.specs.Parts.{text_of, blob_of}
use Rattle.rhai_ops.specs.Outcome.{too_large, is_allowed, is_answer, both}
use Rattle.rhai_ops.specs.Results.{Holds, part, blob_and_text}
use Rattle.rhai_ops.specs.Effects.{IsAssigned}
use Rattle.rhai_ops.proofs.FromBelow.{assigned, part_stays, same_blob}
use Rattle.rhai_ops.proofs.Suited.{own_part}

pub own_text : (s : List Cell) (t : Tree) (v : List ℕ) → text_of t ≡ Some v → part text_of s t ≡ Some v
own_text s (node (leaf l) g m) v e = own_part text_of s l g m ∙ e
own_text s _ v e = cc

pub own_blob : (s : List Cell) (t : Tree) (v : List ℕ) → blob_of t ≡ Some v → part blob_of s t ≡ Some v
own_blob s (node (leaf l) g m) v e = own_part blob_of s l g m ∙ e
own_blob s _ v e = cc

pub refused_text : (l : Limits) (v w : List ℕ) → (w ≡ [] → ⊥) → is_allowed l.items (length v + length (encode_utf8_all w)) ≡ false → blob_and_text l v w ≡ too_large size.Items
refused_text l v [] h e = absurd (h refl)
refused_text l v (d ∷ w) h e = rw (length-append v (encode_utf8_all (d ∷ w)), e) refl

pub allowed_text : (l : Limits) (v w : List ℕ) → is_allowed l.items (length v + length (encode_utf8_all w)) ≡ true → is_answer (blob_and_text l v w) ≡ true
allowed_text l v [] e = refl
allowed_text l v (d ∷ w) e = rw (length-append v (encode_utf8_all (d ∷ w)), e) refl

-- the bytes of an empty text change nothing
none_at : {W : Type 0} (l : Limits) (s : List Cell) (x : Tree) (q o : Option (List ℕ)) → IsSome o → part blob_of s x ≡ o → q ≡ Some [] → IsAssigned W (Ok (fresh unit)) (both (blob_and_text l) (part blob_of s x) q) x x s s
none_at l s x q (Some v) h e is =
    let kept = part_stays same_blob s x v e in
    assigned same_blob (blob_and_text l) v v [] e is (record { value = sym kept.0; store = sym kept.1; answer = refl; ok = refl; err = tt })
none_at l s x q None h e is = cc

pub none_appended : {W : Type 0} (l : Limits) (s : List Cell) (x : Tree) (q : Option (List ℕ)) → Holds blob_of s x → q ≡ Some [] → IsAssigned W (Ok (fresh unit)) (both (blob_and_text l) (part blob_of s x) q) x x s s
none_appended l s x q h is = none_at l s x q (part blob_of s x) h refl is
