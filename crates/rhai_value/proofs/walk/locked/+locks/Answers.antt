use Rattle.rhai_value.proofs.Childrens.{any_more, locked_inside, nodes_children, nodes_more}
use Rattle.rhai_value.specs.Children.{children_of}
use Rattle.rhai_value.specs.Locked.{any_locked}
use Rattle.std.proofs.Common.{◌||◌, arith, ◌∙◌, ap, sym}
use Rattle.rhai_value.specs.Rows.{trees_of}
use Rattle.rhai_value.specs.Tree.{nodes_trees}
use Rattle.rhai_value.proofs.walk.locked.+locks.Goals as goal

pub locks_far-loop-found-init : goal.locks_far-loop-found-init
locks_far-loop-found-init t c = record {
  same = ap (any_locked c.args.store.now) c.inside-visits.ensures ∙ sym (locked_inside c.args.store.now c.args.value.now c.requires);
  fewer = rw c.inside-visits.ensures (nodes_children c.args.value.now);
}

pub is_locked_or_entered-returns-then-enter-clause-entered : goal.is_locked_or_entered-returns-then-enter-clause-entered
is_locked_or_entered-returns-then-enter-clause-entered t c =
    let s = c.args.store.now in
    let found = c.args.found.now in
    let old = c.args.visits.now in
    λ done. ap (any_locked s) (c.enter.ensures.entered c.if-enter.true) ∙ any_more s (children_of found) old ∙ ap (λ b. b || any_locked s old) (sym (locked_inside s found c.requires))

pub is_locked_or_entered-returns-then-enter-clause-fewer : goal.is_locked_or_entered-returns-then-enter-clause-fewer
is_locked_or_entered-returns-then-enter-clause-fewer t c =
    let entered = ap (λ ts. nodes_trees (trees_of ts)) (c.enter.ensures.entered c.if-enter.true) in
    omega (arith, entered, nodes_more (children_of c.args.found.now) c.args.visits.now, nodes_children c.args.found.now)
