-- `as_mut` returns the borrow of `lent_mut`.
use Rattle.rhai_target.proofs.Steps.{◌≡◌, [], ◌∷◌, Some, refl, MutBor, proved, emp, id⊢, ftrue, flft, named, fact, fact_i, tables, ‵, raw, ◌⊛◌, some, later, ◌$◌, ◌∵◌, !, qed, by, move, keep, drop, use0, use1, use2, split, split3, join, pick, await, suffices, frame, enter, addr, stop, no_more, and_then, returns, alloc_all, pass_all, free_all, look_at, get, through, sets, lands_as, no, shows, MutRef, mut_vals, mut_Tells, RattleType, plain, mut_ref_to, named_lft, nothing, heard, peeks, calls_at, Lasts, lasts, triple_of, framed, Stays, stay_dropped, Goes-spent_ref, ends_at, Lfts}
use Rattle.rhai_value.specs.Tree.{Tree}
use Rattle.rhai_value.specs.contracts.value.dynamic.Dynamic as dynamic
use Rattle.rhai_value.specs.contracts.cells.store.Store as store
use Rattle.rhai_target.specs.contracts.target.Target as target
use Rattle.rhai_target.proofs.LetGo.{Ref, ref_laws}
use Rattle.rhai_target.specs.Target.{IsMarkedIn, value_in}
use Rattle.rhai_target.specs.Lent.{LendsTarget}
use Rattle.rhai_target.specs.contracts.target.Target.lent_mut as g
use Rattle.rhai_target.proofs.target.Target.lent_mut.Met as lent_met
use Rattle.rhai_target.specs.contracts.target.Target.as_mut as f
use Rattle.rhai_target.proofs.target.Target.as_mut.Statement.{statement}
use Rattle.rhai_target.proofs.target.Target.as_mut.Code as code

abbrev dyn : RattleType
dyn = dynamic.the_row

abbrev sto : RattleType
sto = store.the_row

-- a target, at the second of two lifetimes
abbrev Tgt : Lfts 2 → RattleType
Tgt κs = target.the_row (named_lft 2 1 tt κs)

abbrev stayed : Stays f.ended.signature.params f.ended.kept
stayed = (stay_dropped (mut_ref_to (0 ∷ []) tt (plain Tgt)) no, (stay_dropped (mut_ref_to (0 ∷ []) tt (plain (λ _. sto))) no, tt))

pub as_mut_spec : {M : Type 1} → statement M
as_mut_spec 𝓤 𝓛 𝓜 𝓡 wired =
    let c = f.clauses 𝓛 𝓜.mem 𝓡.returns in let Fr = framed 𝓤 𝓛.H 𝓜 (tables 𝓤 𝓛.H 𝓜 𝓡 𝓡.env) in
    proved 𝓛 f.ended stayed c 𝓜 𝓡 (Goes-spent_ref 𝓛 2 (0 ∷ []) tt (plain Tgt), (Goes-spent_ref 𝓛 2 (0 ∷ []) tt (plain (λ _. sto)), tt))
    f.Key.name code.function (code.unfolded 𝓤 𝓛.H 𝓜 𝓡 wired)
    (λ κs. (mut_vals, (mut_vals, tt))) (λ κs. (mut_Tells (named 0) κs.0 (Tgt κs), (mut_Tells (named 0) κs.0 sto, tt))) (λ κs qs bounds a _ are.
    let κ = κs.0 in let τ = κs.1.0 in let q = qs.0 in let p = qs.1.0 in let d = a.0 in let m = a.1.0 in let ds = mut_vals d in let ms = mut_vals m in let tg = Tgt κs in
    qed 𝓛 (((‵ (flft κs.0 qs.0) ⊛ ‵ (flft κs.1.0 qs.1.0) ⊛ ‵ ftrue) ⊛ ‵ ((MutRef (named 0) κ tg).own_val d ds) ⊛ ‵ ((MutRef (named 0) κ sto).own_val m ms) ⊛ ‵ ftrue) ∷ raw (fact 𝓤 (IsMarkedIn m.now d.now)) ∷ []) ∵
    split ! $ split ! $ move ! (3 ∷ []) $ heard ! _ (λ marked. move ! (2 ∷ []) $ split3 ! $ move ! (4 ∷ []) $ split ! $ keep ! (2 ∷ 3 ∷ 5 ∷ 0 ∷ []) $
    enter ! _ _ _ _ _ $ alloc_all ! (λ l. pass_all ! refl ((tt, tt), ((tt, tt), tt)) $
    -- [d; m; the token of κ; that of τ]
    sets ! (addr ! (through ! refl (stop !))) refl (tt, tt) $
    sets ! (addr ! (through ! refl (stop !))) refl (tt, tt) $
    let G = triple_of 𝓛 g.signature (g.spec 𝓛 𝓜.mem 𝓡.returns) in
    let z : G.Ghost = ((κs, qs, bounds, a, (ds, (ms, tt))), tt) in
    nothing ! $ move ! (2 ∷ 0 ∷ []) $ join ! $ move ! (1 ∷ 0 ∷ []) $ join ! $ nothing ! $ move ! (3 ∷ 0 ∷ []) $ join ! $ move ! (2 ∷ 0 ∷ []) $ join ! $ join ! $
    use0 𝓛 (raw (fact 𝓤 (IsMarkedIn m.now d.now))) (fact_i 𝓤 _ (emp 𝓤) marked) $ move ! (1 ∷ 0 ∷ []) $ use2 𝓛 (raw (G.pre z)) (id⊢ 𝓤 _) $
    calls_at ! Fr G (lent_met.met 𝓤 𝓛 𝓜 𝓡 (code.calls-rhai_target::target::Target::lent_mut 𝓡.env wired)) z (and_then ! (get ! refl) (and_then ! (get ! refl) (no_more !))) (λ v.
    use1 𝓛 (later (some (λ (x : MutBor Tree). ((‵ (flft κ q) ⊛ ‵ (flft τ p) ⊛ ‵ ftrue) ⊛ ‵ ((Ref κ).own_val x (v ∷ []))) ⊛
    some (λ (ls : Lasts g.ended z.0.0 z.0.3). ‵ (lasts g.ended z.0.0 z.0.3 ls) ⊛ ‵ (LendsTarget d m x.ghost_name) ⊛ raw (fact 𝓤 (value_in m.now d.now ≡ Some x.now)))))) (id⊢ 𝓤 _) $
    await ! tt $ pick ! (λ x. split ! $ split ! $ split3 ! $ move ! (3 ∷ []) $
    peeks ! (Ref κ) _ (shows 𝓛 (Ref κ)) x (v ∷ []) (λ is. lands_as ! refl refl (((ref_laws κ).lawful 𝓛).typed x (v ∷ []) is).0 $
    move ! (4 ∷ []) $ pick ! (λ ls. split ! $ drop ! $ split ! $ drop ! $ heard ! _ (λ value.
    -- [the returned borrow; the token of κ; that of τ; nothing]
    returns ! (look_at ! 0 refl) $ free_all ! refl $ keep ! (0 ∷ 1 ∷ 2 ∷ []) $
    suffices ! _ (ends_at 𝓛 f.ended stayed c ((κs, qs, bounds, a, (ds, (ms, tt))), tt) v x (tt, (tt, tt)) (tt, (tt, tt))) $
    nothing ! $ nothing ! $ join ! $ nothing ! $ join ! $ join ! $ nothing ! $ move ! (3 ∷ 0 ∷ []) $ join ! $ move ! (2 ∷ 0 ∷ []) $ join ! $ join ! $ frame ! $
    by ! (fact_i 𝓤 _ _ value)))))))))
