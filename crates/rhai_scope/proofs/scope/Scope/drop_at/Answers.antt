use Rattle.std.proofs.Common.{◌<◌, suc, length, take, drop, ◌∙◌, arith}
use Rattle.std.specs.Str.{chars}
use Rattle.rhai_scope.specs.Index.{names_of}
use Rattle.rhai_scope.proofs.EntryNames.{indexed_around, indexed_without, length_before}
use Rattle.rhai_scope.proofs.scope.Scope.drop_at.Goals as goal

pub invariant_of-self : goal.invariant_of-self
invariant_of-self c =
    let x = c.self.inside.index in
    let es = c.self.inside.records.items in
    let i = c.args.i in
    let within : i < length es = rw (← c.self.view_is) at c.requires in
    indexed_without c.remove.new.self es i c.remove-gone.new.self.items c.remove-gone.ensures.items
    (c.remove.ensures (names_of (take i es)) (names_of (drop (suc i) es)) (length_before x es i (omega arith))
    (indexed_around x es i c.remove-gone.result (chars c.as_str.result.now) within c.remove-gone.ensures.value (c.as_str.ensures.characters ∙ c.name.ensures) c.self.invariant))
