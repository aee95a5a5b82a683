use Rattle.std.proofs.Common.{true, false, refl, sym, ◌∙◌}
use Rattle.rhai_value.specs.Tree.{cell_of}
use Rattle.rhai_value.proofs.Placed.{unshared, own_not_barred, own_held, lent_not_barred, far_held}
use Rattle.rhai_value.proofs.value.dynamic.Dynamic.with_held.Goals as goal

pub returns-then-not-is_shared-clause-barred : goal.returns-then-not-is_shared-clause-barred
returns-then-not-is_shared-clause-barred g c =
    λ h. absurd (own_not_barred g.F.FnOnce c.args.f c.args.store.now c.args.self.now (unshared (cell_of c.args.self.now) c.is_shared.result c.is_shared.ensures c.if-not-is_shared.true) h)

pub returns-then-not-is_shared-clause-works : goal.returns-then-not-is_shared-clause-works
returns-then-not-is_shared-clause-works g c =
    own_held g.F.FnOnce c.args.f c.args.store.now c.args.self.now c.f.result c.f.new.arg2 c.f.new.arg3 (unshared (cell_of c.args.self.now) c.is_shared.result c.is_shared.ensures c.if-not-is_shared.true)
    (record { value = _; store = _; shows = (refl, refl); left = _; met = c.f.ensures; leaves = (refl, refl) })

pub returns-then-put_back-clause-barred : goal.returns-then-put_back-clause-barred
returns-then-put_back-clause-barred g c =
    λ h. absurd (lent_not_barred g.F.FnOnce c.args.f c.args.store.now c.args.self.now c.lend_held.new.self c.in-Some.token c.in-Some.content c.in-Some.ensures.lent h)

pub returns-then-put_back-clause-works : goal.returns-then-put_back-clause-works
returns-then-put_back-clause-works g c =
    far_held g.F.FnOnce c.args.f c.args.store.now c.args.self.now c.lend_held.new.self c.put_back.new.self c.in-Some.token c.in-Some.content c.f-answer.result c.f-answer.new.arg2 c.f-answer.new.arg3 true
    c.in-Some.ensures.lent (record { value = _; store = _; shows = (refl, refl); left = _; met = c.f-answer.ensures; leaves = (refl, refl) }) (sym c.if-put_back.true ∙ c.put_back.ensures.kept) c.put_back.ensures.back

pub returns-else-put_back-clause-barred : goal.returns-else-put_back-clause-barred
returns-else-put_back-clause-barred g c =
    λ h. absurd (lent_not_barred g.F.FnOnce c.args.f c.args.store.now c.args.self.now c.lend_held.new.self c.in-Some.token c.in-Some.content c.in-Some.ensures.lent h)

pub returns-else-put_back-clause-works : goal.returns-else-put_back-clause-works
returns-else-put_back-clause-works g c =
    far_held g.F.FnOnce c.args.f c.args.store.now c.args.self.now c.lend_held.new.self c.put_back.new.self c.in-Some.token c.in-Some.content c.f-answer.result c.f-answer.new.arg2 c.f-answer.new.arg3 false
    c.in-Some.ensures.lent (record { value = _; store = _; shows = (refl, refl); left = _; met = c.f-answer.ensures; leaves = (refl, refl) }) (sym c.if-put_back.false ∙ c.put_back.ensures.kept) c.put_back.ensures.back
