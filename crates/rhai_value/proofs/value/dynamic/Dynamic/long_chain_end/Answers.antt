use Rattle.std.proofs.Common.{◌≡◌, [], length, ◌-◌, ap, sym, subst, ◌∙◌, arith}
use Rattle.rhai_value.specs.declared.cells.chain.Site.TheVariants.{Here}
use Rattle.rhai_value.specs.End.{end}
use Rattle.rhai_value.proofs.Chains.{chain, chain-end, IsBehind, behind_closed, behind_first, behind_next_step, chain_next}
use Rattle.rhai_value.proofs.value.dynamic.Dynamic.long_chain_end.Goals as goal
use Rattle.rhai_value.proofs.value.dynamic.Dynamic.long_chain_end.Goals.{then-steps-eq0, else-steps-eq0}

pub loop-cell-init : goal.loop-cell-init
loop-cell-init c =
    let s = c.args.store.now in
    let all : length s ≡ c.len-left.result = omega (arith, c.len-left.ensures, ap length c.store.view_is, c.store.inside.cells.ok.0) in
    (subst (λ n. chain n s Here c.args.self.now ≡ end s [] c.args.self.now) all (chain-end s c.args.self.now), tt)

pub returns-then-eq : goal.returns-then-eq
returns-then-eq c =
    let l = c.loop-cell in
    sym (behind_closed c.args.store.now l.kept l.at.now c.in-Some.cell.index l.left l.site l.invariant.1 c.if-eq.ensures c.in-Some.ensures) ∙ l.invariant.0

pub loop-cell-preserved : goal.loop-cell-preserved
loop-cell-preserved c =
    let l = c.loop-cell in
    let s = c.args.store.now in (
      sym (chain_next s l.at.now c.in-Some-read.next.now c.in-Some.cell.index l.left (l.left - 1) l.site c.in-Some.ensures c.in-Some-read.ensures (omega (arith, c.if-left-eq0.false))) ∙ l.invariant.0,
      elim c.if-steps-eq0.branch [
        | then-steps-eq0 w ↦ subst (λ k. IsBehind s k c.in-Some-read.next.now) (sym w.kept-is) (behind_first s c.in-Some-read.next.now c.in-Some.cell.index c.in-Some-read.ensures)
        | else-steps-eq0 w ↦ subst (λ k. IsBehind s k c.in-Some-read.next.now) (sym w.kept-is) (behind_next_step s l.kept l.at.now c.in-Some-read.next.now c.in-Some.cell.index l.invariant.1 c.in-Some.ensures c.in-Some-read.ensures)
      ],
    )
