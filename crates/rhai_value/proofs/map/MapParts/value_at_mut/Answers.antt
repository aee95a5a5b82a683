use Rattle.std.proofs.Common.{◌≡◌, ◌-◌, ◌<◌, suc, length, ap, refl, sym, arith}
use Rattle.std.proofs.lemmas.List.{length-map}
use Rattle.rhai_value.specs.Lists.{chunk_rows, row_of, rows}
use Rattle.rhai_value.specs.Seats.{list_at}
use Rattle.rhai_value.specs.declared.map.Chunk.{Chunk}
use Rattle.rhai_value.specs.declared.map.Entry.{Entry}
use Rattle.rhai_value.proofs.SeatEdits.{list_chunk, list_first, read_row, with_chunk, with_first}
use Rattle.rhai_value.proofs.map.MapParts.value_at_mut.Goals as goal

pub returns-then-seat-eq0 : goal.returns-then-seat-eq0
returns-then-seat-eq0 c =
    let p = c.args.self.now in
    let s = c.args.seat in
    let e : Entry = c.index_mut.result.now in
    let here : list_at p s.list ≡ rows p.first.items = list_first p s.list c.if-seat-eq0.true in
    let within : s.at < length p.first.items = omega (arith, c.requires.within, ap length here, length-map p.first.items row_of) in (
      (refl, λ w. with_first p s.list s.at e w c.if-seat-eq0.true within c.index_mut.ensures.value),
      record { writes_back = tt; value = ap (λ r. r.1) (sym (read_row p s p.first.items e here within c.index_mut.ensures.value)) },
    )

pub returns-else-seat-eq0 : goal.returns-else-seat-eq0
returns-else-seat-eq0 c =
    let p = c.args.self.now in
    let s = c.args.seat in
    let m = s.list - 1 in
    let x : Chunk = c.index_mut-else-seat-eq0.result.now in
    let e : Entry = c.index_mut-else-seat-eq0-2.result.now in
    let later : s.list ≡ suc m = omega (arith, c.if-seat-eq0.false) in
    let lt : m < length p.rest.items = omega (arith, c.requires.list, later, length-map p.rest.items chunk_rows) in
    let read = c.index_mut-else-seat-eq0.ensures.value in
    let here : list_at p s.list ≡ rows x.entries.items = list_chunk p s.list m x later lt read in
    let within : s.at < length x.entries.items = omega (arith, c.requires.within, ap length here, length-map x.entries.items row_of) in (
      (refl, λ w. with_chunk p s.list m s.at x e w later lt read within c.index_mut-else-seat-eq0-2.ensures.value),
      record { writes_back = tt; value = ap (λ r. r.1) (sym (read_row p s x.entries.items e here within c.index_mut-else-seat-eq0-2.ensures.value)) },
    )
