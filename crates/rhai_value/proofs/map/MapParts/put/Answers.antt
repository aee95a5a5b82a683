use Rattle.std.proofs.Common.{◌≡◌, ◌-◌, ◌+◌, ◌<◌, ◌++◌, ◌∷◌, suc, length, set, ap, refl, subst, sym, arith, ◌∙◌}
use Rattle.std.proofs.lemmas.List.{length-map}
use Rattle.std.specs.List.{insert}
use Rattle.std.specs.Vec.{with_item}
use Rattle.rhai_value.specs.Lists.{chunk_rows, lists_of, row_of, rows, rows_of, Begins}
use Rattle.rhai_value.specs.Seats.{list_at, rows_before, rows_from}
use Rattle.rhai_value.specs.declared.map.Chunk.{Chunk}
use Rattle.rhai_value.specs.declared.map.Entry.{Entry}
use Rattle.rhai_value.specs.declared.map.MapParts.{MapParts}
use Rattle.rhai_value.proofs.SeatEdits.{chunk_set, first_edit, fronted_set, list_chunk, put_whole, rows_insert, rows_put}
use Rattle.rhai_value.proofs.Seats.{fronted_at}
use Rattle.rhai_value.proofs.map.MapParts.put.Goals as goal

pub put_in-requires-clause-within : goal.put_in-requires-clause-within
put_in-requires-clause-within c =
    let p = c.args.self.now in
    let s = c.args.seat in
    let m = s.list - 1 in
    let x : Chunk = c.index_mut.result.now in
    let later : s.list ≡ suc m = omega (arith, c.if-seat-eq0.false) in
    let lt : m < length p.rest.items = omega (arith, c.requires.open.list, later, length-map p.rest.items chunk_rows) in
    let here : list_at p s.list ≡ rows x.entries.items = list_chunk p s.list m x later lt c.index_mut.ensures.value in
    omega (arith, c.requires.open.within, ap length here, length-map x.entries.items row_of)

pub put_in-requires-clause-front : goal.put_in-requires-clause-front
put_in-requires-clause-front c =
    let p = c.args.self.now in
    let m = c.args.seat.list - 1 in
    let x : Chunk = c.index_mut.result.now in
    let lt : m < length p.rest.items = omega (arith, c.requires.open.list, c.if-seat-eq0.false, length-map p.rest.items chunk_rows) in
    subst (λ (c : Chunk). Begins c.front c.entries.items) (sym c.index_mut.ensures.value) (fronted_at p.rest.items m x c.requires.whole.fronted lt)

pub returns-then-seat-eq0 : goal.returns-then-seat-eq0
returns-then-seat-eq0 c =
    let p = c.args.self.now in
    let s = c.args.seat in
    let e : Entry = record { key = c.args.key; value = c.args.value } in
    let q : MapParts = record p { first = c.put_entry.new.entries; len = p.len + 1 } in
    let is = first_edit p q s.list (λ l. insert l s.at (row_of e)) c.if-seat-eq0.true (ap rows c.put_entry.ensures ∙ rows_insert p.first.items s.at e) refl in
    let now : rows_of q ≡ rows_before p s ++ row_of e ∷ rows_from p s = rows_put p q s c.requires.open (row_of e) is in
    record {
      rows = now;
      whole = put_whole p q s c.requires.whole c.requires.whole.fronted (row_of e) c.requires.open now c.requires.between c.requires.text refl;
    }

pub returns-else-seat-eq0 : goal.returns-else-seat-eq0
returns-else-seat-eq0 c =
    let p = c.args.self.now in
    let s = c.args.seat in
    let m = s.list - 1 in
    let x : Chunk = c.index_mut.result.now in
    let u : Chunk = c.put_in.new.chunk in
    let e : Entry = record { key = c.args.key; value = c.args.value } in
    let later : s.list ≡ suc m = omega (arith, c.if-seat-eq0.false) in
    let lt : m < length p.rest.items = omega (arith, c.requires.open.list, later, length-map p.rest.items chunk_rows) in
    let here : list_at p s.list ≡ rows x.entries.items = list_chunk p s.list m x later lt c.index_mut.ensures.value in
    let more : chunk_rows u ≡ insert (list_at p s.list) s.at (row_of e) = ap rows c.put_in.ensures.items ∙ rows_insert x.entries.items s.at e ∙ ap (λ l. insert l s.at (row_of e)) (sym here) in
    let q : MapParts = record p { rest = with_item p.rest m u; len = p.len + 1 } in
    let is : lists_of q ≡ set (lists_of p) s.list (insert (list_at p s.list) s.at (row_of e)) =
    subst (λ n. lists_of q ≡ set (lists_of p) n (insert (list_at p s.list) s.at (row_of e))) (sym later) (chunk_set p q m u (insert (list_at p s.list) s.at (row_of e)) refl refl more) in
    let now : rows_of q ≡ rows_before p s ++ row_of e ∷ rows_from p s = rows_put p q s c.requires.open (row_of e) is in
    record {
      rows = now;
      whole = put_whole p q s c.requires.whole (fronted_set p.rest.items m u c.requires.whole.fronted c.put_in.ensures.front) (row_of e) c.requires.open now c.requires.between c.requires.text refl;
    }
