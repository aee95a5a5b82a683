-- Writing a part over itself changes nothing.
use Rattle.std.proofs.Common.{◌≡◌, Bool, true, false, if◌then◌else◌, List, [], Option, Some, None, option_map, refl, sym, ap, ap₂, ◌∙◌}
use Rattle.rhai_value.specs.declared.cells.chain.Site.TheVariants.{Here, InCell}
use Rattle.rhai_value.specs.declared.parts.in_store.InStore.{InStore}
use Rattle.rhai_value.specs.declared.cells.store.Cell.{Cell}
use Rattle.rhai_value.specs.declared.value.type_id.TypeId.{TypeId}
use Rattle.rhai_value.specs.Tree.{Tree, node, Content}
use Rattle.rhai_value.specs.Parts.{with_content}
use Rattle.rhai_value.specs.Store.{put}
use Rattle.rhai_value.specs.Types.{content_type, is_type, typed_content}
use Rattle.rhai_value.specs.End.{End, end, held, stuck, closed, held_part, value_after, store_after}
use Rattle.rhai_value.specs.Writes.{written}
use Rattle.rhai_value.proofs.Ends.{stands}
use Rattle.rhai_value.proofs.Stores.{put-same}

-- the content of a value of a type
typed_over : (k : TypeId) (c : Content) (t : Tree) → typed_content k t ≡ Some c → with_content c t ≡ t
typed_over k c (node d g m) e = by (is_type k (content_type d)) e
  where
    by : (b : Bool) → (if b then Some d else None) ≡ Some c → node c g m ≡ node d g m
    by true h = let same : d ≡ c = cc in ap (λ x. node x g m) (sym same)
    by false h = cc

-- a part that is the content of the values of one type
module _ {A : Type 0} (content : A → Content) (part : Tree → Option A) (k : TypeId) (reads : (t : Tree) → option_map content (part t) ≡ typed_content k t) where
  pub part_over : (t : Tree) (a : A) → part t ≡ Some a → with_content (content a) t ≡ t
  part_over t a h = typed_over k (content a) t (sym (reads t) ∙ ap (option_map content) h)

  over_at : (s : List Cell) (t : Tree) (a : A) (e : End) → e ≡ end s [] t → held_part part e ≡ Some a
      → (value_after (with_content (content a)) e t ≡ t) × (store_after (with_content (content a)) e s ≡ s)
  over_at s t a (held Here u) is h = (part_over u a h ∙ sym (stands s t Here u is), refl)
  over_at s t a (held (InCell d) u) is h = (refl, ap (put s d) (part_over u a h) ∙ put-same s d u (stands s t (InCell d) u is))
  over_at s t a (stuck u) is h = cc
  over_at s t a closed is h = cc

  pub held_over : (s : List Cell) (t : Tree) (a : A) → held_part part (end s [] t) ≡ Some a
      → (value_after (with_content (content a)) (end s [] t) t ≡ t) × (store_after (with_content (content a)) (end s [] t) s ≡ s)
  held_over s t a h = over_at s t a (end s [] t) refl h

  pub written_over : (h : InStore) (a : A) → held_part part (end h.store.now [] h.value.now) ≡ Some a → written h (with_content (content a)) ≡ h
  written_over h a e =
      let stay = held_over h.store.now h.value.now a e in
      ap₂ (λ x y. record { value = record (h.value) { now = x }; store = record (h.store) { now = y } }) stay.0 stay.1
