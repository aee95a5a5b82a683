use Rattle.std.proofs.Common.{rules}
use Rattle.rhai_packs.specs.Repeats.{IsRepeat}
use Rattle.rhai_packs.proofs.Repeats.{each_more}
use Rattle.rhai_packs.proofs.arrays.repeats.repeats.Goals as goal

pub loop-i-preserved : goal.loop-i-preserved
loop-i-preserved c =
    let pushed = c.push_reserved.ensures.items in
    let each = each_more (IsRepeat c.args.store.now c.args.items.now) c.loop-i.repeats.items c.loop-i.i c.in_ok-is_repeat.field-0 c.loop-i.invariant.len c.loop-i.invariant.each c.in_ok-is_repeat.ensures in
    record { len = search rules; room = search rules; each = rw pushed each }
