use Rattle.std.proofs.Common.{◌≡◌, ◌-◌, ◌<◌, suc, [], length, set, get_or, ap, refl, subst, arith, ◌∙◌, sym}
use Rattle.std.proofs.lemmas.List.{length-map}
use Rattle.rhai_value.specs.Lists.{chunk_rows, lists_of, rows, Begins}
use Rattle.rhai_value.specs.Seats.{entry_at, list_at, row_at}
use Rattle.rhai_value.specs.Tree.{fresh, unit}
use Rattle.std.specs.Vec.{with_item}
use Rattle.rhai_value.specs.declared.map.Chunk.{Chunk}
use Rattle.rhai_value.specs.declared.map.MapParts.{MapParts}
use Rattle.rhai_value.proofs.SeatEdits.{begins_set, chunk_set, first_set, fronted_set, list_chunk, list_first, seated_row, valued, written_before, written_past, written_row, written_seated, written_whole}
use Rattle.rhai_value.proofs.Seats.{fronted_at}
use Rattle.rhai_value.proofs.map.MapParts.replace_at.Goals as goal

pub returns-then-seat-eq0 : goal.returns-then-seat-eq0
returns-then-seat-eq0 c =
    let p = c.args.self.now in
    let s = c.args.seat in
    let v = c.args.value in
    let es = p.first.items in
    let us = c.replace_in.new.entries.items in
    let q : MapParts = record p { first = c.replace_in.new.entries } in
    let here : list_at p s.list ≡ rows es = list_first p s.list c.if-seat-eq0.true in
    let now : rows us ≡ set (list_at p s.list) s.at ((row_at p s).0, v) = valued p s es us v here c.replace_in.ensures.written in
    let is : lists_of q ≡ set (lists_of p) s.list (set (list_at p s.list) s.at ((row_at p s).0, v)) =
    subst (λ n. lists_of q ≡ set (lists_of p) n (set (list_at p s.list) s.at ((row_at p s).0, v))) (sym c.if-seat-eq0.true) (first_set p q (set (list_at p s.list) s.at ((row_at p s).0, v)) now refl) in
    record {
      value = c.replace_in.ensures.value ∙ ap (λ r. r.1) (sym (seated_row p s es here));
      before = written_before p q s c.requires.seated ((row_at p s).0, v) is;
      row = written_row p q s c.requires.seated ((row_at p s).0, v) is;
      past = written_past p q s c.requires.seated ((row_at p s).0, v) is;
      seated = written_seated p q s c.requires.seated ((row_at p s).0, v) is;
      whole = written_whole p q s c.requires.seated ((row_at p s).0, v) is refl c.requires.whole.fronted refl c.requires.whole;
    }

pub returns-else-seat-eq0 : goal.returns-else-seat-eq0
returns-else-seat-eq0 c =
    let p = c.args.self.now in
    let s = c.args.seat in
    let v = c.args.value in
    let m = s.list - 1 in
    let x : Chunk = c.index_mut.result.now in
    let es = x.entries.items in
    let done = c.replace_in-else-seat-eq0 in
    let us = done.new.entries.items in
    let u : Chunk = record x { entries = done.new.entries } in
    let later : s.list ≡ suc m = omega (arith, c.if-seat-eq0.false) in
    let lt : m < length p.rest.items = omega (arith, c.requires.seated.list, later, length-map p.rest.items chunk_rows) in
    let read : x ≡ get_or p.rest.items m x = c.index_mut.ensures.value in
    let q : MapParts = record p { rest = with_item p.rest m u } in
    let here : list_at p s.list ≡ rows es = list_chunk p s.list m x later lt read in
    let now : rows us ≡ set (list_at p s.list) s.at ((row_at p s).0, v) = valued p s es us v here done.ensures.written in
    let is : lists_of q ≡ set (lists_of p) s.list (set (list_at p s.list) s.at ((row_at p s).0, v)) =
    subst (λ n. lists_of q ≡ set (lists_of p) n (set (list_at p s.list) s.at ((row_at p s).0, v))) (sym later) (chunk_set p q m u (set (list_at p s.list) s.at ((row_at p s).0, v)) refl refl now) in
    let front : Begins x.front es = subst (λ (c : Chunk). Begins c.front c.entries.items) (sym read) (fronted_at p.rest.items m x c.requires.whole.fronted lt) in
    let begins : Begins x.front us = subst (Begins x.front) (sym done.ensures.written) (begins_set x.front es s.at (record (entry_at es s.at) { value = v }) (record { key = []; value = fresh unit }) front refl) in
    record {
      value = done.ensures.value ∙ ap (λ r. r.1) (sym (seated_row p s es here));
      before = written_before p q s c.requires.seated ((row_at p s).0, v) is;
      row = written_row p q s c.requires.seated ((row_at p s).0, v) is;
      past = written_past p q s c.requires.seated ((row_at p s).0, v) is;
      seated = written_seated p q s c.requires.seated ((row_at p s).0, v) is;
      whole = written_whole p q s c.requires.seated ((row_at p s).0, v) is refl (fronted_set p.rest.items m u c.requires.whole.fronted begins) refl c.requires.whole;
    }
