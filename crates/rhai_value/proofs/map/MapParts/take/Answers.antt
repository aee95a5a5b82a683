use Rattle.std.proofs.Common.{◌≡◌, ◌-◌, ◌<◌, ◌++◌, suc, length, set, vec_len, ap, refl, subst, sym, arith, ◌∙◌}
use Rattle.std.proofs.lemmas.Bool.{eqb-true}
use Rattle.std.proofs.lemmas.List.{get_or-set_same, length-map}
use Rattle.std.specs.List.{remove}
use Rattle.std.specs.Vec.{with_item}
use Rattle.rhai_value.specs.Lists.{chunk_rows, lists_of, row_of, rows, rows_of, AreFronted, Begins}
use Rattle.rhai_value.specs.Seats.{list_at, rows_before, rows_past}
use Rattle.rhai_value.specs.declared.map.Chunk.{Chunk}
use Rattle.rhai_value.specs.declared.map.MapParts.{MapParts}
use Rattle.rhai_value.proofs.SeatEdits.{chunk_set, emptied_removed, first_edit, fronted_removed, fronted_set, list_chunk, removed_set, rows_remove, rows_taken, seated_row, some_entry, taken_whole}
use Rattle.rhai_value.proofs.Seats.{fronted_at}
use Rattle.rhai_value.proofs.map.MapParts.take.Goals as goal

pub overflow_sub-self : goal.overflow_sub-self
overflow_sub-self c = some_entry c.args.self.now c.args.seat c.requires.whole c.requires.seated

pub returns-then-seat-eq0-clause-rows : goal.returns-then-seat-eq0-clause-rows
returns-then-seat-eq0-clause-rows c =
    let p = c.args.self.now in
    let q : MapParts = record p { first = c.remove.new.self; len = p.len - 1 } in
    let is = first_edit p q c.args.seat.list (λ l. remove l c.args.seat.at) c.if-seat-eq0.true (ap rows c.remove.ensures.items ∙ rows_remove p.first.items c.args.seat.at) refl in
    rows_taken p q c.args.seat c.requires.seated is

pub returns-then-seat-eq0-clause-whole : goal.returns-then-seat-eq0-clause-whole
returns-then-seat-eq0-clause-whole c =
    let p = c.args.self.now in
    let q : MapParts = record p { first = c.remove.new.self; len = p.len - 1 } in
    let is = first_edit p q c.args.seat.list (λ l. remove l c.args.seat.at) c.if-seat-eq0.true (ap rows c.remove.ensures.items ∙ rows_remove p.first.items c.args.seat.at) refl in
    taken_whole p q c.args.seat c.requires.whole c.requires.whole.fronted c.requires.seated (rows_taken p q c.args.seat c.requires.seated is) (omega (arith, some_entry p c.args.seat c.requires.whole c.requires.seated))

pub take_in-entry-requires-clause-front : goal.take_in-entry-requires-clause-front
take_in-entry-requires-clause-front c =
    let p = c.args.self.now in
    let m = c.args.seat.list - 1 in
    let x : Chunk = c.index_mut.result.now in
    let lt : m < length p.rest.items = omega (arith, c.requires.seated.list, c.if-seat-eq0.false, length-map p.rest.items chunk_rows) in
    subst (λ (c : Chunk). Begins c.front c.entries.items) (sym c.index_mut.ensures.value) (fronted_at p.rest.items m x c.requires.whole.fronted lt)

pub returns-then-is_empty : goal.returns-then-is_empty
returns-then-is_empty c =
    let p = c.args.self.now in
    let s = c.args.seat in
    let m = s.list - 1 in
    let x : Chunk = c.index_mut.result.now in
    let u : Chunk = c.take_in-entry.new.chunk in
    let later : s.list ≡ suc m = omega (arith, c.if-seat-eq0.false) in
    let lt : m < length p.rest.items = omega (arith, c.requires.seated.list, later, length-map p.rest.items chunk_rows) in
    let here : list_at p s.list ≡ rows x.entries.items = list_chunk p s.list m x later lt c.index_mut.ensures.value in
    let left : chunk_rows u ≡ remove (list_at p s.list) s.at = ap rows c.take_in-entry.ensures.items ∙ rows_remove x.entries.items s.at ∙ ap (λ l. remove l s.at) (sym here) in
    let q : MapParts = record p { rest = with_item p.rest m u; len = p.len - 1 } in
    let is : lists_of q ≡ set (lists_of p) s.list (remove (list_at p s.list) s.at) =
    subst (λ n. lists_of q ≡ set (lists_of p) n (remove (list_at p s.list) s.at)) (sym later) (chunk_set p q m u (remove (list_at p s.list) s.at) refl refl left) in
    let read : c.index.result.now ≡ u = c.index.ensures ∙ get_or-set_same p.rest.items m u c.index.result.now lt in
    let none : vec_len c.index.result.now.entries ≡ 0 = eqb-true (vec_len c.index.result.now.entries) 0 (sym c.is_empty.ensures ∙ c.if-is_empty.true) in
    let empty : length u.entries.items ≡ 0 = omega (arith, none, ap (λ (c : Chunk). vec_len c.entries) read, u.entries.ok.0) in
    let r : MapParts = c.drop_chunk.new.self in
    let gone = c.drop_chunk.ensures in
    let taken : rows_of r ≡ rows_before p s ++ rows_past p s = emptied_removed q r m u gone.first gone.rest (get_or-set_same p.rest.items m u u lt) empty ∙ rows_taken p q s c.requires.seated is in
    record {
      entry = ap row_of c.take_in-entry.ensures.entry ∙ sym (seated_row p s x.entries.items here);
      rows = taken;
      whole = taken_whole p r s c.requires.whole (subst AreFronted (sym (gone.rest ∙ removed_set p.rest.items m u)) (fronted_removed p.rest.items m c.requires.whole.fronted)) c.requires.seated taken (omega (arith, gone.len, some_entry p s c.requires.whole c.requires.seated));
    }

pub returns-else-is_empty : goal.returns-else-is_empty
returns-else-is_empty c =
    let p = c.args.self.now in
    let s = c.args.seat in
    let m = s.list - 1 in
    let x : Chunk = c.index_mut.result.now in
    let u : Chunk = c.take_in-entry.new.chunk in
    let later : s.list ≡ suc m = omega (arith, c.if-seat-eq0.false) in
    let lt : m < length p.rest.items = omega (arith, c.requires.seated.list, later, length-map p.rest.items chunk_rows) in
    let here : list_at p s.list ≡ rows x.entries.items = list_chunk p s.list m x later lt c.index_mut.ensures.value in
    let left : chunk_rows u ≡ remove (list_at p s.list) s.at = ap rows c.take_in-entry.ensures.items ∙ rows_remove x.entries.items s.at ∙ ap (λ l. remove l s.at) (sym here) in
    let q : MapParts = record p { rest = with_item p.rest m u; len = p.len - 1 } in
    let is : lists_of q ≡ set (lists_of p) s.list (remove (list_at p s.list) s.at) =
    subst (λ n. lists_of q ≡ set (lists_of p) n (remove (list_at p s.list) s.at)) (sym later) (chunk_set p q m u (remove (list_at p s.list) s.at) refl refl left) in
    let read : c.index.result.now ≡ u = c.index.ensures ∙ get_or-set_same p.rest.items m u c.index.result.now lt in
    let some : 0 < vec_len c.index.result.now.entries = grind (arith, c.is_empty.ensures, c.if-is_empty.false) in
    let left_some : 0 < length u.entries.items = omega (arith, some, ap (λ (c : Chunk). vec_len c.entries) read, u.entries.ok.0) in
    let taken : rows_of q ≡ rows_before p s ++ rows_past p s = rows_taken p q s c.requires.seated is in
    record {
      entry = ap row_of c.take_in-entry.ensures.entry ∙ sym (seated_row p s x.entries.items here);
      rows = taken;
      whole = taken_whole p q s c.requires.whole (fronted_set p.rest.items m u c.requires.whole.fronted (c.take_in-entry.ensures.front left_some)) c.requires.seated taken (omega (arith, some_entry p s c.requires.whole c.requires.seated));
    }
