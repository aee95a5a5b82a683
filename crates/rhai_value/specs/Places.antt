-- Work at a held value, and at a place inside it, with access to the store: the arguments of the
-- callback, and the state afterwards.
use Rattle.std.specs.Prelude.{◌≡◌, ℕ, ◌+◌, nat_lt, Bool, true, false, List, [], ◌∷◌, length, Option, Some, None, Result, Ok, Err, if◌then◌else◌}
use Rattle.std.specs.Fn.{Once}
use denote.Ref.{MutBor}
use Rattle.rhai_value.specs.declared.cells.store.Cell.{Cell}
use Rattle.rhai_value.specs.declared.cells.chain.Site.TheVariants.{Here, InCell}
use Rattle.rhai_value.specs.declared.places.step.Step.{Step}
use Rattle.rhai_value.specs.declared.places.step.PlaceError.{PlaceError}
use Rattle.rhai_value.specs.declared.places.step.PlaceErrorKind.{PlaceErrorKind}
use Rattle.rhai_value.specs.declared.places.step.PlaceErrorKind.TheVariants as kind
use Rattle.rhai_value.specs.declared.places.with_held.HeldError.{HeldError}
use Rattle.rhai_value.specs.declared.places.with_held.HeldError.TheVariants.{Lost}
use Rattle.rhai_value.specs.Tree.{Tree, fresh, unit}
use Rattle.rhai_value.specs.Steps.{item_at, with_item}
use Rattle.rhai_value.specs.Store.{put, is_marked_at, set_mark}
use Rattle.rhai_value.specs.Relation.{Renaming, Related, RelatedCells}
use Rattle.rhai_value.specs.End.{End, end, held, stuck, closed, held_cell, value_after}

-- a call of f on `&mut` references to a value and to a store may return r, and leave the second two there
pub record Leaves {F A S R : Type 0} (g : Once F (MutBor A × (MutBor S × Unit {0})) (R × (MutBor A × (MutBor S × Unit {0})))) (f : F) (v : A) (s : S) (r : R) (w : A) (t : S) : Type 0 where
  pub value : MutBor A
  pub store : MutBor S
  pub shows : (value.now ≡ v) × (store.now ≡ s)
  pub left : MutBor A × (MutBor S × Unit {0})
  pub met : g.post f (value, (store, tt)) (r, left)
  pub leaves : (left.0.now ≡ w) × (left.1.0.now ≡ t)

-- the store while the content of the cell, if there is one, is taken out: the cell is marked, and contains unit
abbrev pub lent_out : Option ℕ → List Cell → List Cell
lent_out None s = s
lent_out (Some c) s = put (set_mark s c true) c (fresh unit)

-- the value v, which t holds, is in the cell c, and is taken out of it
pub record IsLent (c : ℕ) (v : Tree) (s : List Cell) (t : Tree) (s' : List Cell) : Type 0 where
  pub stands : end s [] t ≡ held (InCell c) v
  pub out : s' ≡ lent_out (Some c) s

-- whether the cell is still marked
abbrev pub is_kept : Option ℕ → List Cell → Bool
is_kept None s = true
is_kept (Some c) s = is_marked_at s c

-- the store after w is put into the cell and its mark is cleared; unchanged if the cell is no longer marked
abbrev pub put_back : Option ℕ → Tree → List Cell → List Cell
put_back None w s = s
put_back (Some c) w s = if is_marked_at s c then set_mark (put s c w) c false else s

-- the result, if the mark was kept
abbrev pub held_answer : {R : Type 0} → Bool → R → Result R HeldError
held_answer true r = Ok r
held_answer false r = Err Lost

-- Work of f at the held value of the end e: nothing if there is none; otherwise f gets it and the
-- store, and the changed values are put back.
pub record WorksAt {F R : Type 0} (g : Once F (MutBor Tree × (MutBor (List Cell) × Unit {0})) (R × (MutBor Tree × (MutBor (List Cell) × Unit {0})))) (f : F) (e : End) (v : Tree) (s : List Cell) (t : Tree) (result : Result R HeldError) (t' : Tree) (s' : List Cell) : Type 0 where
  pub answer : R
  pub made : Tree
  pub beside : List Cell
  pub works : Leaves g f v (lent_out (held_cell e) s) answer made beside
  pub answers : result ≡ held_answer (is_kept (held_cell e) beside) answer
  pub value : t' ≡ value_after (λ _. made) e t
  pub store : s' ≡ put_back (held_cell e) made beside

-- ---- places given by steps

-- The final state of a value and its store, and the step at which a cell had lost its mark, if any.
pub record Left : Type 0 where
  pub value : Tree
  pub store : List Cell
  pub lost : Option ℕ

-- A place inside a value: the value there, the store passed with it, and the final state as a
-- function of the changed two.
pub record Place : Type 0 where
  pub value : Tree
  pub store : List Cell
  pub back : Tree → List Cell → Left

-- a place, or the step that failed, and why
abbrev pub Way : Type 0
Way = Result Place PlaceError

-- the same result, with f applied to the place
abbrev pub along : (Place → Place) → Way → Way
along f (Ok q) = Ok (f q)
along f (Err why) = Err why

abbrev pub no_place : ℕ → PlaceErrorKind → Way
no_place n why = Err (record { step = n; kind = why })

-- the value itself
abbrev pub whole_place : List Cell → Tree → Place
whole_place s t = record { value = t; store = s; back = λ w u. record { value = w; store = u; lost = None } }

-- the place inside the value of another one, with f rebuilding the outer value
abbrev pub around : (Tree → Tree) → Place → Place
around f q = record { value = q.value; store = q.store; back = λ w u. record { value = f (q.back w u).value; store = (q.back w u).store; lost = (q.back w u).lost } }

abbrev pub lost_at : ℕ → Bool → Option ℕ → Option ℕ
lost_at n true o = o
lost_at n false o = Some n

-- the place inside the content of a cell, at the step n, reached from t
abbrev pub out_of : ℕ → ℕ → Tree → Place → Place
out_of c n t q = record { value = q.value; store = q.store; back = λ w u. record { value = t; store = put_back (Some c) (q.back w u).value (q.back w u).store; lost = lost_at n (is_marked_at (q.back w u).store c) (q.back w u).lost } }

-- the place reached from the end of a chain of holders that starts at t
abbrev pub from_end : (List Cell → Tree → Way) → ℕ → List Cell → Tree → End → Way
from_end go n s t (held Here v) = go s t
from_end go n s t (held (InCell c) v) = along (out_of c n t) (go (lent_out (Some c) s) v)
from_end go n s t (stuck v) = no_place n kind.Barred
from_end go n s t closed = no_place n kind.Barred

-- the place reached from the held value
abbrev pub way_held : (List Cell → Tree → Way) → ℕ → List Cell → Tree → Way
way_held go n s t = from_end go n s t (end s [] t)

-- the place reached from an item, if there is one
abbrev pub way_on : (Tree → Way) → ℕ → (Tree → Tree) → Result Tree PlaceErrorKind → Way
way_on go n f (Ok y) = along (around f) (go y)
way_on go n f (Err why) = no_place n why

-- the place that steps lead to from a value that isn't a holder, beginning with step n
abbrev pub way_in : List Step → ℕ → List Cell → Tree → Way
way_in [] n s t = Ok (whole_place s t)
way_in (p ∷ ps) n s t = way_on (way_held (way_in ps (n + 1)) (n + 1) s) n (with_item p t) (item_at p t)

-- the place that steps lead to from any value; there are at most 64
abbrev pub way : List Step → List Cell → Tree → Way
way ps s t = if nat_lt 64 (length ps) then no_place 0 kind.TooFar else way_held (way_in ps 0) 0 s t

-- the final values and stores are related, with a mark lost at the same step or at none
pub record RelatedLeft (r : Renaming) (a b : Left) : Type 0 where
  pub value : Related r a.value b.value
  pub store : RelatedCells r a.store b.store
  pub lost : a.lost ≡ b.lost

-- the values at two places are related, and so are the stores; and putting back related values and
-- stores gives related results
pub record RelatedPlaces (r : Renaming) (p q : Place) : Type 0 where
  pub value : Related r p.value q.value
  pub store : RelatedCells r p.store q.store
  pub back : (w x : Tree) (u v : List Cell) → Related r w x → RelatedCells r u v → RelatedLeft r (p.back w u) (q.back x v)

-- two step lists lead to such places, or fail at the same step for the same reason
abbrev pub RelatedWays : Renaming → Way → Way → Type 0
RelatedWays r (Ok p) (Ok q) = RelatedPlaces r p q
RelatedWays r (Err a) (Err b) = a ≡ b
RelatedWays r _ _ = ⊥

-- the result, unless a mark was lost
abbrev pub place_answer : {R : Type 0} → Option ℕ → R → Result R PlaceError
place_answer None r = Ok r
place_answer (Some n) r = Err (record { step = n; kind = kind.Lost })

-- The result of writing v at a place, and the final value t and store s: unchanged if the steps fail.
abbrev pub put_answer : Way → Result (Unit {0}) PlaceError
put_answer (Ok q) = Ok tt
put_answer (Err why) = Err why

abbrev pub put_value : Tree → Way → Tree → Tree
put_value v (Ok q) t = (q.back v q.store).value
put_value v (Err why) t = t

abbrev pub put_store : Tree → Way → List Cell → List Cell
put_store v (Ok q) s = (q.back v q.store).store
put_store v (Err why) s = s

-- f gets the value at a place and the store, and the changed values are put back
pub record WorksIn {F R : Type 0} (g : Once F (MutBor Tree × (MutBor (List Cell) × Unit {0})) (R × (MutBor Tree × (MutBor (List Cell) × Unit {0})))) (f : F) (q : Place) (result : Result R PlaceError) (t' : Tree) (s' : List Cell) : Type 0 where
  pub answer : R
  pub made : Tree
  pub beside : List Cell
  pub works : Leaves g f q.value q.store answer made beside
  pub answers : result ≡ place_answer (q.back made beside).lost answer
  pub value : t' ≡ (q.back made beside).value
  pub store : s' ≡ (q.back made beside).store

-- the same where steps lead; if they fail, nothing changes
abbrev pub WorksAlong : {F R : Type 0} → Once F (MutBor Tree × (MutBor (List Cell) × Unit {0})) (R × (MutBor Tree × (MutBor (List Cell) × Unit {0}))) → F → Way → Tree → List Cell → Result R PlaceError → Tree → List Cell → Type 0
WorksAlong g f (Ok q) t s result t' s' = WorksIn g f q result t' s'
WorksAlong g f (Err why) t s result t' s' = (result ≡ Err why) × (t' ≡ t) × (s' ≡ s)
