use Rattle.std.proofs.Common.{IsTrue, ◌↔◌}
use Rattle.std.proofs.lemmas.Result.{IfOk-weaker}
use Rattle.rhai_packs.specs.Repeats.{IsRepeat}
use Rattle.rhai_packs.specs.Same.{AreSame}
use Rattle.rhai_packs.proofs.Repeats.{repeat_is}
use Rattle.rhai_packs.proofs.arrays.repeats.is_repeat.Goals as goal

pub returns : goal.returns
returns c =
    let s = c.args.store.now in
    let xs = c.args.items.now in
    let i = c.args.i in
    let x = c.index-items-i.result in
    let y = c.index-items-i-2.result in
    IfOk-weaker c.are_same.result (λ b. IsTrue b ↔ AreSame s x y) (λ b. IsTrue b ↔ IsRepeat s xs i) (λ b h. repeat_is s xs i x y b c.if-i-eq0.false c.requires c.index-items-i.is c.index-items-i-2.is h) c.are_same.ensures
