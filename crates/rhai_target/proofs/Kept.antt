-- Writing a text over itself.
use Rattle.std.proofs.Common.{◌≡◌, ℕ, List, [], Some}
use Rattle.rhai_value.specs.declared.parts.in_store.InStore.{InStore}
use Rattle.rhai_value.specs.declared.value.type_id.TypeId.TheVariants as id
use Rattle.rhai_value.specs.Kinds.{text_reads}
use Rattle.rhai_value.specs.Tree.{leaf, text}
use Rattle.rhai_value.specs.Parts.{text_of, with_content}
use Rattle.rhai_value.specs.End.{end, held_part}
use Rattle.rhai_value.specs.Writes.{written}
use Rattle.rhai_value.proofs.ForCallers.{written_over}

pub text_kept : (h : InStore) (x : List ℕ) → held_part text_of (end h.store.now [] h.value.now) ≡ Some x → written h (with_content (leaf (text x))) ≡ h
text_kept h x e = written_over (λ x. leaf (text x)) text_of id.ImmutableString text_reads h x e
