-- Writing a field back.
use Rattle.std.proofs.Common.{◌≡◌, ℕ, ℤ, List, [], Some, option_map, sym, ap, ◌∙◌, subst}
use Rattle.std.specs.Borrow.{MutBor}
use Rattle.rhai_value.specs.declared.cells.store.Cell.{Cell}
use Rattle.rhai_value.specs.Tree.{Tree}
use Rattle.rhai_value.specs.Parts.{int_of}
use Rattle.rhai_value.specs.End.{end, held_part, value_after, store_after}
use Rattle.rhai_target.specs.declared.target.Target.{Target}
use Rattle.rhai_target.specs.declared.target.Target.TheVariants.{BitField}
use Rattle.rhai_bits.specs.Bits.{with_field}
use Rattle.rhai_target.specs.Change.{on_int, field_change, value_changed, store_changed}
use Rattle.rhai_target.specs.Target.{write_back_of, target_written, store_written}

-- Two matches of a target give the same field; x and z are source and store after the bits are written.
pub field_written : (s z : List Cell) (t : Target) (r q : MutBor Tree) (v w x : Tree) (mask other : ℤ) (shift by : ℕ) (n : ℤ) → t ≡ BitField r v mask shift → t ≡ BitField q w other by
    → held_part int_of (end s [] v) ≡ Some n → x ≡ value_after (on_int (with_field mask shift n)) (end s [] q.now) q.now → z ≡ store_after (on_int (with_field mask shift n)) (end s [] q.now) s
    → (BitField (record q { now = x }) w other by ≡ target_written s (write_back_of s t) t) × (z ≡ store_written (write_back_of s t) s)
field_written s z t r q v w x mask other shift by n first second has own store =
    let both : BitField r v mask shift ≡ BitField q w other by = sym first ∙ second in
    let change : field_change s v mask shift ≡ Some (on_int (with_field mask shift n)) = ap (option_map (λ m. on_int (with_field mask shift m))) has in
    let same : field_change s v mask shift ≡ field_change s w other by = cc in
    let after = sym change ∙ same in
    subst (λ u. (BitField (record q { now = x }) w other by ≡ target_written s (write_back_of s u) u) × (z ≡ store_written (write_back_of s u) s)) (sym second) (
      ap (λ y. BitField (record q { now = y }) w other by) (own ∙ ap (λ o. value_changed o (end s [] q.now) q.now) after),
      store ∙ ap (λ o. store_changed o (end s [] q.now) s) after,
    )
