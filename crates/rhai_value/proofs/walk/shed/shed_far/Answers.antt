use Rattle.std.proofs.Common.{◌≡◌, ◌+◌, ap, arith}
use Rattle.rhai_value.proofs.Sheds.{some_node}
use Rattle.rhai_value.specs.Tree.{nodes}
use Rattle.rhai_value.proofs.walk.shed.shed_far.Goals as goal

pub loop-child-smaller-then-is_bare : goal.loop-child-smaller-then-is_bare
loop-child-smaller-then-is_bare c =
    let n : nodes c.take_child.new.value + (nodes c.in-Some.child + 0) ≡ nodes c.loop-child.whole = rw c.in-Some.is at c.take_child.ensures.fewer in
    omega (arith, n, some_node c.in-Some.child)

pub loop-child-smaller-then-is_bare-2 : goal.loop-child-smaller-then-is_bare-2
loop-child-smaller-then-is_bare-2 c =
    let n : nodes c.take_child.new.value + (nodes c.in-Some.child + 0) ≡ nodes c.loop-child.whole = rw c.in-Some.is at c.take_child.ensures.fewer in
    omega (arith, n, some_node c.take_child.new.value)

pub loop-child-smaller : goal.loop-child-smaller
loop-child-smaller c =
    let i : nodes c.loop-inner.whole + nodes c.loop-inner.held ≡ nodes c.take_child.new.value + nodes c.in-Some.child = c.loop-inner.invariant in
    let back : c.in-Err.back ≡ c.loop-inner.whole = c.in-Err.ensures.err.0 in
    let n : nodes c.take_child.new.value + (nodes c.in-Some.child + 0) ≡ nodes c.loop-child.whole = rw c.in-Some.is at c.take_child.ensures.fewer in
    omega (arith, i, ap nodes back, n, some_node c.loop-inner.held)
