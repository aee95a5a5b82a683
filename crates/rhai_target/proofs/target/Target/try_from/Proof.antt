-- `try_from` returns the result for the value, whose last value follows the reference in the target, or is unchanged.
use Rattle.rhai_target.proofs.Steps.{◌≡◌, [], ◌∷◌, Result, IfOk, IfErr, Some, None, refl, sym, subst, proved, full_share, emp, id⊢, Lft, ftrue, flft, GName, named, fact, fact_i, tables, lft_new, lft_end, ‵, raw, ◌⊛◌, some, later, given, ◌$◌, ◌∵◌, !, qed, by, move, keep, drop, use0, use1, use2, use3, split, split3, join, fsplit, pick, await, rewrite, suffices, frame, group, enter, addr, stop, no_more, and_then, returns, alloc_all, pass_all, free_all, look_at, get, through, sets, lands_as, no, follows_if, shows, Laws, lends_again, comes_back, LentAgain, MutRef, mut_vals, mut_Tells, RattleType, plain, mut_ref_to, nothing, heard, peeks, calls_at, Lasts, lasts, triple_of, framed, Stays, says, stay_ref, stay_dropped, Goes-ref, Goes-spent_ref, ends_at}
use Rattle.std.proofs.Common.{ap, ◌∙◌}
use mathlib.Core.Option as maybe
use Rattle.std.specs.Borrow.{name_if_ok}
use Rattle.std.proofs.result.Result.TheLaws as result_laws
use Rattle.std.specs.contracts.result.Result as result
use Rattle.rhai_text.specs.contracts.error.EvalAltResult as error
use Rattle.rhai_text.proofs.error.EvalAltResult.TheLaws as error_laws
use Rattle.rhai_value.specs.contracts.value.dynamic.Dynamic as dynamic
use Rattle.rhai_value.specs.contracts.cells.store.Store as store
use Rattle.rhai_value.specs.Store.{marked_with}
use Rattle.rhai_value.specs.End.{first_cell}
use Rattle.rhai_text.specs.declared.error.EvalAltResult.{EvalAltResult}
use Rattle.rhai_text.specs.declared.error.EvalAltResult.TheVariants.{ErrorDataRace}
use Rattle.rhai_text.specs.declared.position.TheConstants.Position as position
use Rattle.rhai_target.specs.contracts.target.Target as target
use Rattle.rhai_target.proofs.target.Target.TheLaws as target_laws
use Rattle.rhai_target.specs.contracts.resolve.Whole as whole
use Rattle.rhai_target.proofs.resolve.Whole.TheLaws as whole_laws
use Rattle.rhai_target.specs.contracts.resolve.Marked as marked
use Rattle.rhai_target.proofs.resolve.Marked.TheLaws as marked_laws
use Rattle.rhai_target.specs.declared.target.Target.{Target}
use Rattle.rhai_target.specs.Resolved.{Resolved, IsResolved, IsMarkedResolved, resolved_target, lent_name}
use Rattle.rhai_target.specs.Target.{target_of, IsMarkedIn}
use Rattle.rhai_target.proofs.MadeTargets.{found_name, found_ok, found_err, found_marked}
use Rattle.rhai_target.specs.contracts.resolve.resolve as g
use Rattle.rhai_target.proofs.resolve.resolve.Met as resolved
use Rattle.rhai_target.specs.contracts.resolve.target_from as h
use Rattle.rhai_target.proofs.resolve.target_from.Met as target_from
use Rattle.rhai_target.specs.contracts.target.Target.try_from as f
use Rattle.rhai_target.proofs.target.Target.try_from.Statement.{statement}
use Rattle.rhai_target.proofs.target.Target.try_from.Code as code

abbrev stayed : Stays f.ended.signature.params f.ended.kept
stayed = (stay_dropped (mut_ref_to (0 ∷ []) tt (plain (λ _. dynamic.the_row))) no, (stay_ref (1 ∷ []) tt (plain (λ _. store.the_row)), tt))

-- the result for a value borrowed for κ
abbrev FoundOf : Lft → RattleType
FoundOf κ = result.the_row (whole.the_row (record { mir = named 0; lft = κ })) (result.the_row marked.the_row error.the_row)

abbrev found_laws : (κ : Lft) → Laws (FoundOf κ)
found_laws κ = result_laws.the_row_laws (whole.the_row (record { mir = named 0; lft = κ })) (result.the_row marked.the_row error.the_row) (whole_laws.the_row_laws (record { mir = named 0; lft = κ }))
    (result_laws.the_row_laws marked.the_row error.the_row marked_laws.the_row_laws error_laws.the_row_laws)

abbrev Made : Lft → RattleType
Made κ = result.the_row (target.the_row (record { mir = named 0; lft = κ })) error.the_row

abbrev made_laws : (κ : Lft) → Laws (Made κ)
made_laws κ = result_laws.the_row_laws (target.the_row (record { mir = named 0; lft = κ })) error.the_row (target_laws.the_row_laws (record { mir = named 0; lft = κ })) error_laws.the_row_laws

pub try_from_spec : {M : Type 1} → statement M
try_from_spec 𝓤 𝓛 𝓜 𝓡 wired =
    let c = f.clauses 𝓛 𝓜.mem 𝓡.returns in
    proved 𝓛 f.ended stayed c 𝓜 𝓡 (Goes-spent_ref 𝓛 2 (0 ∷ []) tt (plain (λ _. dynamic.the_row)), (Goes-ref 𝓛 2 1 tt (plain (λ _. store.the_row)), tt))
    f.Key.name code.function (code.unfolded 𝓤 𝓛.H 𝓜 𝓡 wired)
    (λ κs. (mut_vals, (mut_vals, tt))) (λ κs. (mut_Tells (named 0) κs.0 dynamic.the_row, (mut_Tells (named 1) κs.1.0 store.the_row, tt))) (λ κs qs bounds a _ are.
    let κ = κs.0 in let q = qs.0 in let μ = κs.1.0 in let p = qs.1.0 in let d = a.0 in let m = a.1.0 in let ds = mut_vals d in let ms = mut_vals m in
    qed 𝓛 (((‵ (flft κ q) ⊛ ‵ (flft μ p) ⊛ ‵ ftrue) ⊛ ‵ ((MutRef (named 0) κ dynamic.the_row).own_val d ds) ⊛ ‵ ((MutRef (named 1) μ store.the_row).own_val m ms) ⊛ ‵ ftrue) ∷ ‵ ftrue ∷ []) ∵
    split ! $ split3 ! $ move ! (3 ∷ []) $ split3 ! $ keep ! (0 ∷ 1 ∷ 3 ∷ 4 ∷ []) $
    enter ! _ _ _ _ _ $ alloc_all ! (λ l. pass_all ! refl ((tt, tt), ((tt, tt), tt)) $
    -- [d; m; the token of κ; that of μ]
    sets ! (addr ! (through ! refl (stop !))) refl (tt, tt) $
    sets ! (addr ! (through ! refl (stop !))) refl (tt, tt) $
    lft_new ! tt (λ α. move ! (2 ∷ 4 ∷ []) $
    use2 𝓛 (later (some (λ (δ : GName). ‵ ((MutRef (named 1) (α ∷ []) store.the_row).own_val (record m { ghost_name = δ }) ms) ⊛ ‵ (LentAgain store.the_row μ (α ∷ []) p m.ghost_name m.ref_ptr.0 m.ref_ptr.1 δ m.now))))
    (lends_again 𝓛 store.the_row (named 1) μ (α ∷ []) p m.ghost_name m.ref_ptr.0 m.ref_ptr.1 (named 1) m.now) $ await ! tt $ pick ! (λ δ. split ! $
    -- [the loan; what m's holder keeps; the token of α; d; the token of κ]
    let G = triple_of 𝓛 g.signature (g.spec 𝓛 𝓜.mem 𝓡.returns) in
    let z : G.Ghost = (((κ, (α ∷ [], tt)), (q, (full_share, tt)), tt, (d, (record m { ghost_name = δ }, tt)), (ds, (ms, tt))), tt) in
    nothing ! $ move ! (1 ∷ 0 ∷ []) $ join ! $ move ! (3 ∷ 0 ∷ []) $ join ! $ nothing ! $ move ! (3 ∷ 0 ∷ []) $ join ! $ move ! (3 ∷ 0 ∷ 1 ∷ []) $ join ! $ join ! $
    nothing ! $ move ! (1 ∷ 0 ∷ []) $ use2 𝓛 (raw (G.pre z)) (id⊢ 𝓤 _) $
    calls_at ! (framed 𝓤 𝓛.H 𝓜 (tables 𝓤 𝓛.H 𝓜 𝓡 𝓡.env)) G (resolved.met 𝓤 𝓛 𝓜 𝓡 (code.calls-rhai_target::resolve::resolve 𝓡.env wired)) z
    (and_then ! (get ! refl) (and_then ! (get ! refl) (no_more !))) (λ v.
    use1 𝓛 (later (some (λ (x : Resolved). ((‵ (flft κ q) ⊛ ‵ (flft (α ∷ []) full_share) ⊛ ‵ ftrue) ⊛ ‵ ((FoundOf κ).own_val x (v ∷ []))) ⊛
    some (λ (ws : Lasts g.ended z.0.0 z.0.3). ‵ (lasts g.ended z.0.0 z.0.3 ws) ⊛ ‵ (follows_if dynamic.the_row dynamic.the_row d.ghost_name (name_if_ok (λ w. w.value.ghost_name) x) (λ w. w) d.now)
    ⊛ raw (fact 𝓤 (IsResolved m.now d x)) ⊛ raw (fact 𝓤 (ws.1.0 ≡ marked_with (first_cell m.now d.now) m.now)) ⊛ raw (fact 𝓤 (IsMarkedResolved ws.1.0 x)))))) (id⊢ 𝓤 _) $
    await ! tt $ pick ! (λ x. split ! $ split ! $ split3 ! $ move ! (1 ∷ []) $ lft_end ! tt $ move ! (3 ∷ []) $
    -- [what is found; α has ended; the token of κ; nothing; the rest; what m's holder keeps]
    peeks ! (FoundOf κ) _ (shows 𝓛 (FoundOf κ)) x (v ∷ []) (λ is.
    lands_as ! refl refl (((found_laws κ).lawful 𝓛).typed x (v ∷ []) is).0 $
    move ! (4 ∷ []) $ pick ! (λ ws. split ! $ move ! (1 ∷ []) $ split ! $ move ! (1 ∷ []) $ split ! $ heard ! _ (λ which. split ! $ heard ! _ (λ marks. heard ! _ (λ marked.
    -- [what follows; d's and m's last values; what is found; α has ended; the token of κ; nothing;
    -- what m's holder keeps]
    move ! (1 ∷ []) $ fsplit ! $ move ! (1 ∷ []) $ fsplit ! $ fsplit ! $
    -- [m's last value; its borrow; nothing; nothing; what follows; what is found; α has ended; the
    -- token of κ; nothing; what m's holder keeps]
    move ! (6 ∷ 9 ∷ 0 ∷ []) $
    use3 𝓛 (later (‵ ((MutRef (named 1) μ store.the_row).own_val (record m { now = ws.1.0 }) ms) ⊛ ‵ (flft μ p)))
    (comes_back 𝓛 store.the_row (named 1) μ (α ∷ []) p m.ghost_name m.ref_ptr.0 m.ref_ptr.1 δ m.now ws.1.0) $ await ! tt $ split ! $
    -- [m; the token of μ; its borrow; nothing; nothing; what follows; what is found; the token of κ; nothing]
    let K = triple_of 𝓛 h.signature (h.spec 𝓛 𝓜.mem 𝓡.returns) in
    let y : K.Ghost = (((κ, tt), (q, tt), tt, (x, tt), (v ∷ [], tt)), tt) in
    nothing ! $ move ! (7 ∷ 0 ∷ []) $ join ! $ nothing ! $ move ! (8 ∷ 0 ∷ []) $ join ! $ join ! $ nothing ! $ move ! (1 ∷ 0 ∷ []) $ use2 𝓛 (raw (K.pre y)) (id⊢ 𝓤 _) $
    calls_at ! (framed 𝓤 𝓛.H 𝓜 (tables 𝓤 𝓛.H 𝓜 𝓡 𝓡.env)) K (target_from.met 𝓤 𝓛 𝓜 𝓡 (code.calls-rhai_target::resolve::target_from 𝓡.env wired)) y (and_then ! (get ! refl) (no_more !)) (λ u.
    use1 𝓛 (later (some (λ (r : Result Target EvalAltResult). ((‵ (flft κ q) ⊛ ‵ ftrue) ⊛ ‵ ((Made κ).own_val r (u ∷ []))) ⊛
    some (λ (ls : Lasts h.ended y.0.0 y.0.3). ‵ (lasts h.ended y.0.0 y.0.3 ls) ⊛ raw (fact 𝓤 (r ≡ resolved_target x)))))) (id⊢ 𝓤 _) $
    await ! tt $ pick ! (λ r. split ! $ split ! $ split ! $ move ! (2 ∷ []) $
    peeks ! (Made κ) _ (shows 𝓛 (Made κ)) r (u ∷ []) (λ as'. lands_as ! refl refl (((made_laws κ).lawful 𝓛).typed r (u ∷ []) as').0 $
    move ! (3 ∷ []) $ pick ! (λ ls. split ! $ drop ! $ heard ! _ (λ same.
    -- [the target; the token of κ; nothing; m; the token of μ; its borrow; nothing; nothing; what follows; nothing]
    rewrite ! 8 (λ (n : maybe.Option GName). ‵ (follows_if dynamic.the_row dynamic.the_row d.ghost_name n (λ w. w) d.now)) (found_name x ∙ ap lent_name (sym same)) refl $
    returns ! (look_at ! 0 refl) $ free_all ! refl $ keep ! (3 ∷ 1 ∷ 4 ∷ 0 ∷ 8 ∷ []) $
    suffices ! _ (ends_at 𝓛 f.ended stayed c ((κs, qs, bounds, a, (ds, (ms, tt))), tt) u r (tt, (ws.1.0, tt)) (tt, (tt, tt))) $
    -- [m; the token of κ; that of μ; the target; what follows]
    nothing ! $ move ! (1 ∷ 0 ∷ []) $ join ! $ nothing ! $ join ! $ nothing ! $ move ! (3 ∷ 0 ∷ []) $ join ! $ move ! (2 ∷ 0 ∷ []) $ join ! $ group ! 3 $ frame ! $ frame ! $
    use0 𝓛 (given _ (‵ ftrue)) (fact_i 𝓤 _ (emp 𝓤) (subst (λ o. IfOk o (λ t. target_of m.now d ≡ Some t)) (sym same) (found_ok m.now d x which))) $ frame ! $
    use0 𝓛 (given _ (‵ ftrue)) (fact_i 𝓤 _ (emp 𝓤) (subst (λ o. IfErr o (λ e. (target_of m.now d ≡ None) × (e ≡ ErrorDataRace position.NONE))) (sym same) (found_err m.now d x which))) $ frame ! $
    says ! (subst (λ o. IfOk o (λ t. IsMarkedIn ws.1.0 t)) (sym same) (found_marked ws.1.0 x marked)) $ by ! (fact_i 𝓤 _ _ marks)))))))))))))))))
