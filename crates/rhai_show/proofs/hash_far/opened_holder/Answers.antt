use Rattle.std.proofs.Common.{◌∙◌, IfSome, is_some, length, ap, subst, arith}
use Rattle.std.proofs.lemmas.List.{append-nil}
use Rattle.rhai_show.specs.HashBytes.{some_bytes, hash_bytes}
use Rattle.rhai_show.specs.InRange.{IsInRange}
use Rattle.rhai_show.proofs.Hashes.{plain-content}
use Rattle.rhai_show.proofs.Weights.{held-weight, opened_path}
use Rattle.rhai_show.proofs.hash_far.opened_holder.Goals as goal

pub returns-clause-bytes : goal.returns-clause-bytes
returns-clause-bytes c =
    let h = c.requires.holder in
    let o = c.in_ok-content.ensures in
    append-nil (hash_bytes c.args.store.now c.opened_cell.new.path c.in_ok-content.content.now)
    ∙ ap some_bytes (plain-content c.args.store.now c.args.path.now c.opened_cell.new.path c.args.value.now c.in_ok-content.content.now h.0 h.1 h.2 h.3 o.found o.opened)

pub returns-clause-left : goal.returns-clause-left
returns-clause-left c =
    let h = c.requires.holder in
    let o = c.in_ok-content.ensures in
    let opens = ap length (opened_path c.args.value.now h.0 h.1 h.2 c.opened_cell.new.path c.args.path.now h.3 o.opened) in
    let same = held-weight c.args.store.now c.args.path.now c.opened_cell.new.path c.args.value.now c.in_ok-content.content.now h.0 h.1 h.2 h.3 o.found o.opened in
    (omega arith, omega arith)

pub returns-clause-plain : goal.returns-clause-plain
returns-clause-plain c =
    let h = c.requires.holder in
    let o = c.in_ok-content.ensures in
    (ap is_some (plain-content c.args.store.now c.args.path.now c.opened_cell.new.path c.args.value.now c.in_ok-content.content.now h.0 h.1 h.2 h.3 o.found o.opened) ∙ c.requires.plain, tt)

pub returns-clause-range : goal.returns-clause-range
returns-clause-range c = λ r.
    let h = c.requires.holder in
    let o = c.in_ok-content.ensures in
    subst (λ p. IfSome p IsInRange) (plain-content c.args.store.now c.args.path.now c.opened_cell.new.path c.args.value.now c.in_ok-content.content.now h.0 h.1 h.2 h.3 o.found o.opened) r.0.1
