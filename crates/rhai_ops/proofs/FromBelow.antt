-- Writes to a held part: the state after an assignment.
use Rattle.std.proofs.Common.{◌≡◌, List, [], Option, Some, Result, Ok, Err, OnOk, OnErr, option_map, refl, ap, ◌∙◌}
use Rattle.rhai_text.specs.declared.error.EvalAltResult.{EvalAltResult}
use Rattle.rhai_value.specs.declared.cells.store.Cell.{Cell}
use Rattle.rhai_value.specs.declared.value.type_id.TypeId.{TypeId}
use Rattle.rhai_value.specs.declared.value.type_id.TypeId.TheVariants as id
use Rattle.rhai_value.specs.Kinds.{int_reads, blob_reads, array_reads, text_reads}
use Rattle.rhai_value.specs.Tree.{Tree, Trees, Content, node, leaf, branch, array, int, blob, text, made}
use Rattle.rhai_value.specs.Types.{typed_content}
use Rattle.rhai_value.specs.Parts.{int_of, blob_of, text_of, array_of, with_content}
use Rattle.rhai_value.specs.End.{end, held_part, value_after, store_after}
use Rattle.rhai_value.proofs.ForCallers.{held_over}
use Rattle.rhai_ops.specs.Outcome.{IsOutcome, Outcome, answers, both}
use Rattle.rhai_ops.specs.Effects.{IsAssigned, answered, assignment, stays}

-- a part that is the content of the values of one type
pub record Same {A : Type 0} (part : Tree → Option A) (content : A → Content) : Type 0 where
  pub kind : TypeId
  pub reads : (t : Tree) → option_map content (part t) ≡ typed_content kind t

-- written over itself where it is held, it changes nothing
pub part_stays : {A : Type 0} {part : Tree → Option A} {content : A → Content} → Same part content → (s : List Cell) (x : Tree) (a : A) → held_part part (end s [] x) ≡ Some a
    → (value_after (with_content (content a)) (end s [] x) x ≡ x) × (store_after (with_content (content a)) (end s [] x) s ≡ s)
part_stays {part = part} {content = content} same s x a has = held_over content part same.kind same.reads s x a has

-- f changed the held part a to b, or failed and left it unchanged
pub record Edited {A : Type 0} (W : Type 0) (r : Result Tree EvalAltResult) (o : Outcome) (content : A → Content) (s z : List Cell) (x y : Tree) (a b : A) : Type 0 where
  pub value : y ≡ value_after (with_content (content b)) (end s [] x) x
  pub store : z ≡ store_after (with_content (content b)) (end s [] x) s
  pub answer : IsOutcome W r (answered (assignment stays) o)
  pub ok : OnOk r (o ≡ answers (made (content b)))
  pub err : OnErr r (b ≡ a)

pub assigned : {A B : Type 0} {part : Tree → Option A} {content : A → Content} {W : Type 0} {r : Result Tree EvalAltResult} {s z : List Cell} {x y : Tree} {q : Option B}
    → Same part content → (f : A → B → Outcome) (a b : A) (c : B) → held_part part (end s [] x) ≡ Some a → q ≡ Some c → Edited W r (f a c) content s z x y a b → IsAssigned W r (both f (held_part part (end s [] x)) q) x y s z
assigned {content = content} {r = Ok d} same f a b c has is edited =
    rw (has, is) (record { answer = edited.answer; first = rw (edited.ok) edited.value; store = rw (edited.ok) edited.store; err = tt })
assigned {content = content} {r = Err e} {s = s} {x = x} same f a b c has is edited =
    let kept = part_stays same s x a has in
    rw (has, is) (record {
      answer = edited.answer;
      first = tt;
      store = tt;
      err = (edited.value ∙ ap (λ i. value_after (with_content (content i)) (end s [] x) x) edited.err ∙ kept.0, edited.store ∙ ap (λ i. store_after (with_content (content i)) (end s [] x) s) edited.err ∙ kept.1);
    })

pub same_int : Same int_of (λ n. leaf (int n))
same_int = record { kind = id.Int; reads = int_reads }

pub same_blob : Same blob_of (λ bs. leaf (blob bs))
same_blob = record { kind = id.Blob; reads = blob_reads }

pub same_text : Same text_of (λ v. leaf (text v))
same_text = record { kind = id.ImmutableString; reads = text_reads }

pub same_array : Same array_of (branch array)
same_array = record { kind = id.Array; reads = array_reads }

-- the items of an array, written over themselves
pub array_over : (ts : Trees) (t : Tree) → array_of t ≡ Some ts → with_content (branch array ts) t ≡ t
array_over ts (node (branch array us) g m) e = let same : us ≡ ts = cc in rw same refl
array_over ts _ e = cc
