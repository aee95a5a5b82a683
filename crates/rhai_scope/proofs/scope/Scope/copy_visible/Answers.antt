use Rattle.std.proofs.Common.{◌≡◌, ◌-◌, ◌<◌, suc, length, map, drop, Some, sym, ap, ◌∙◌, subst, arith}
use Rattle.std.proofs.lemmas.Bool.{false≢true}
use Rattle.std.specs.Str.{chars}
use Rattle.rhai_scope.specs.Entry.{copied_entry}
use Rattle.rhai_scope.specs.Lookup.{last_position, visible}
use Rattle.rhai_scope.proofs.GoneThrough.{hidden_more, visible_more}
use Rattle.rhai_scope.proofs.Seen.{NamesPass, is_last, one_more, hidden_passes}
use Rattle.rhai_scope.proofs.scope.Scope.copy_visible.Goals as goal

pub is_last-requires : goal.is_last-requires
is_last-requires c =
    let es = c.args.self.now in
    let i = c.loop-i.i - 1 in
    let next : c.loop-i.i ≡ suc i = omega arith in
    is_last es i c.index-entry.result.now (omega (arith, c.loop-i.invariant.within)) (rw c.self.view_is at c.index-entry.ensures) c.as_str-name.result.now c.as_str-name.utf8
    (c.as_str-name.ensures.characters ∙ c.name.ensures) c.loop-i.behind (subst (λ k. NamesPass c.loop-i.behind (drop k es)) next c.loop-i.invariant.pass)

pub loop-i-preserved-in-Continue-1 : goal.loop-i-preserved-in-Continue-1
loop-i-preserved-in-Continue-1 c =
    let es = c.args.self.now in
    let i = c.loop-i.i - 1 in
    let next : c.loop-i.i ≡ suc i = omega arith in
    let within : i < length es = omega (arith, c.loop-i.invariant.within) in
    let here = rw c.self.view_is at c.index-entry.ensures in
    let named = c.as_str-name.ensures.characters ∙ c.name.ensures in
    record {
      within = omega (arith, within);
      pass =
          one_more es i c.index-entry.result.now within here c.as_str-name.result.now c.as_str-name.utf8 named c.loop-i.behind c.add.new.self
          (subst (λ k. NamesPass c.loop-i.behind (drop k es)) next c.loop-i.invariant.pass) c.add.ensures.added c.add.ensures.kept;
      kept =
          visible_more es i c.index-entry.result.now within here c.loop-i.copies.items c.push_copy.new.copies.items (c.loop-i.invariant.kept ∙ ap (λ k. map copied_entry (visible (drop k es))) next)
          (subst (λ n. last_position n es ≡ Some i) named (c.is_last.ensures.0 c.if-is_last.true)) c.in_ok-push_copy.ensures;
    }

pub loop-i-preserved : goal.loop-i-preserved
loop-i-preserved c =
    let es = c.args.self.now in
    let i = c.loop-i.i - 1 in
    let next : c.loop-i.i ≡ suc i = omega arith in
    let within : i < length es = omega (arith, c.loop-i.invariant.within) in
    let here = rw c.self.view_is at c.index-entry.ensures in
    let named = c.as_str-name.ensures.characters ∙ c.name.ensures in
    let text = c.as_str-name.result.now in
    let behind = subst (λ k. NamesPass c.loop-i.behind (drop k es)) next c.loop-i.invariant.pass in
    let hidden : last_position (chars text) es ≡ Some i → ⊥ = λ h. false≢true (sym c.if-is_last.false ∙ c.is_last.ensures.1 h) in
    record {
      within = omega (arith, within);
      pass =
          one_more es i c.index-entry.result.now within here text c.as_str-name.utf8 named c.loop-i.behind c.loop-i.behind behind
          (hidden_passes es i c.index-entry.result.now within here text c.as_str-name.utf8 named c.loop-i.behind behind hidden) (λ q none. none);
      kept =
          hidden_more es i c.index-entry.result.now within here c.loop-i.copies.items (c.loop-i.invariant.kept ∙ ap (λ k. map copied_entry (visible (drop k es))) next)
          (λ h. hidden (subst (λ n. last_position n es ≡ Some i) (sym named) h));
    }
