use Rattle.std.proofs.Common.{◌≡◌, ◌-◌, ◌<◌, suc, length, set, get_or, ap, refl, subst, sym, arith, ◌∙◌}
use Rattle.std.proofs.lemmas.List.{length-map}
use Rattle.std.specs.Vec.{with_item}
use Rattle.rhai_value.specs.Lists.{chunk_rows, Begins}
use Rattle.rhai_value.specs.declared.map.Chunk.{Chunk}
use Rattle.rhai_value.specs.declared.map.MapParts.{MapParts}
use Rattle.rhai_value.proofs.SeatEdits.{fronted_set}
use Rattle.rhai_value.proofs.SeatSplits.{cut_begins, cut_chunk, cut_first}
use Rattle.rhai_value.proofs.Seats.{fronted_at}
use Rattle.rhai_value.proofs.map.MapParts.cut_list.Goals as goal

pub returns-then-number-eq0-clause-lists : goal.returns-then-number-eq0-clause-lists
returns-then-number-eq0-clause-lists c =
    let p = c.args.self.now in
    let q : MapParts = record p { first = c.cut.new.entries; rest = c.reserve.new.self } in
    cut_first p q c.args.number c.args.from c.cut.result c.if-number-eq0.true c.reserve.ensures.items c.cut.ensures

pub returns-else-number-eq0-clause-lists : goal.returns-else-number-eq0-clause-lists
returns-else-number-eq0-clause-lists c =
    let p = c.args.self.now in
    let m = c.args.number - 1 in
    let x : Chunk = c.index_mut.result.now in
    let u : Chunk = record x { entries = c.cut-else-number-eq0.new.entries } in
    let q : MapParts = record p { rest = with_item c.reserve.new.self m u } in
    let later : c.args.number ≡ suc m = omega (arith, c.if-number-eq0.false) in
    let lt : m < length p.rest.items = omega (arith, c.requires.list, later, length-map p.rest.items chunk_rows) in
    let read : x ≡ get_or p.rest.items m x = c.index_mut.ensures.value ∙ ap (λ cs. get_or cs m x) c.reserve.ensures.items in
    cut_chunk p q c.args.number m c.args.from x u c.cut-else-number-eq0.result later lt read refl (ap (λ cs. set cs m u) c.reserve.ensures.items) c.cut-else-number-eq0.ensures

pub returns-else-number-eq0-clause-fronted : goal.returns-else-number-eq0-clause-fronted
returns-else-number-eq0-clause-fronted c =
    let p = c.args.self.now in
    let m = c.args.number - 1 in
    let x : Chunk = c.index_mut.result.now in
    let u : Chunk = record x { entries = c.cut-else-number-eq0.new.entries } in
    let lt : m < length p.rest.items = omega (arith, c.requires.list, c.if-number-eq0.false, length-map p.rest.items chunk_rows) in
    let read : x ≡ get_or p.rest.items m x = c.index_mut.ensures.value ∙ ap (λ cs. get_or cs m x) c.reserve.ensures.items in
    let front : Begins x.front x.entries.items = subst (λ (c : Chunk). Begins c.front c.entries.items) (sym read) (fronted_at p.rest.items m x c.requires.fronted lt) in
    let begins : Begins u.front u.entries.items = cut_begins x.front c.args.from x.entries.items u.entries.items c.cut-else-number-eq0.result c.requires.within.0 front c.cut-else-number-eq0.ensures in
    rw c.reserve.ensures.items (fronted_set p.rest.items m u c.requires.fronted begins)
