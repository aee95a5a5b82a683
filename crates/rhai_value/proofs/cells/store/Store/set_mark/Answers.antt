use Rattle.std.proofs.Common.{length, ap, ◌∙◌, arith}
use Rattle.rhai_value.specs.Store.{set_mark, is_marked_at}
use Rattle.rhai_value.proofs.MarkedCells.{mark_at, mark_stands}
use Rattle.rhai_value.proofs.cells.store.Store.set_mark.Goals as goal

pub returns : goal.returns
returns c =
    let i = c.args.cell in
    let b = c.args.is_marked in
    let after = mark_at c.self.inside.cells.items i c.index_mut.result.now b (omega (arith, ap length c.self.view_is, c.self.inside.cells.ok.0)) c.index_mut.ensures.value ∙ ap (λ z. set_mark z i b) c.self.view_is in
    record { after = after; stands = ap (λ z. is_marked_at z i) after ∙ mark_stands c.args.self.now i b c.requires }
