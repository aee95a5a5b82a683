use Rattle.std.proofs.Common.{◌≡◌, [], length, Some, None, sym, ap, ◌∙◌, eq-eqb}
use Rattle.rhai_lines.specs.Verbs.{command_of}
use Rattle.rhai_lines.proofs.ReadBack.{read_more, read_none, read_last, read_bad}
use Rattle.rhai_lines.proofs.journals.commands_of.Goals as goal

pub returns-in_default-2 : goal.returns-in_default-2
returns-in_default-2 c =
    let h = c.in-Some.ensures.some in
    let is : command_of c.in-Some.line.now ≡ None = sym c.in_ok-next.ensures.command ∙ c.in_default-2.is in
    read_none _ c.loop-line.commands.items c.loop-line.left.now c.in-Some.line.now c.in-Some.rest.now c.loop-line.invariant h.0 h.1 is

pub loop-line-preserved : goal.loop-line-preserved
loop-line-preserved c =
    let h = c.in-Some.ensures.some in
    let is : command_of c.in-Some.line.now ≡ Some c.in-Some-2.next = sym c.in_ok-next.ensures.command ∙ c.in-Some-2.is in
    rw c.in_ok-push.ensures.items (read_more _ c.loop-line.commands.items c.loop-line.left.now c.in-Some.line.now c.in-Some.rest.now c.in-Some-2.next c.loop-line.invariant h.0 h.1 is)

pub returns-in_default-3 : goal.returns-in_default-3
returns-in_default-3 c =
    let some : c.loop-line.left.now ≡ [] → ⊥ = λ e. let none : length c.loop-line.left.now ≡ 0 = ap length e in cc (eq-eqb (length c.loop-line.left.now) 0 none) in
    let is : command_of c.loop-line.left.now ≡ None = sym c.in_ok-last.ensures.command ∙ c.in_default-3.is in
    read_bad _ c.loop-line.commands.items c.loop-line.left.now c.loop-line.invariant c.in_default.ensures.none some is

pub returns : goal.returns
returns c =
    let some : c.loop-line.left.now ≡ [] → ⊥ = λ e. let none : length c.loop-line.left.now ≡ 0 = ap length e in cc (eq-eqb (length c.loop-line.left.now) 0 none) in
    let is : command_of c.loop-line.left.now ≡ Some c.in-Some-3.last = sym c.in_ok-last.ensures.command ∙ c.in-Some-3.is in
    rw c.in_ok-push-2.ensures.items (read_last _ c.loop-line.commands.items c.loop-line.left.now c.in-Some-3.last c.loop-line.invariant c.in_default.ensures.none some is)
