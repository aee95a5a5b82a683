-- `lent_mut` borrows from the target or from the store; the other source is settled unchanged.
use Rattle.rhai_target.proofs.Steps.{◌≡◌, [], ◌∷◌, Option, Some, refl, MutBor, proved, full_share, emp, id⊢, Lft, GName, ftrue, flft, named, fact, fact_i, tables, lft_new, lft_end, ‵, raw, ◌⊛◌, some, later, ◌$◌, ◌∵◌, !, qed, by, move, keep, drop, use0, use1, use2, use3, split, split3, join, fsplit, pick, await, rewrite, suffices, frame, enter, of_opd, addr, stop, no_more, and_then, returns, alloc_all, pass_all, free_all, look_at, get, through, sets, lands_as, no, shows, lends_again, comes_back, LentAgain, MutRef, mut_vals, mut_Tells, RattleType, plain, mut_ref_to, named_lft, nothing, heard, peeks, follows_if, calls_at, Lasts, lasts, triple_of, framed, Stays, stay_dropped, Goes-spent_ref, ends_at, Lfts}
use Rattle.std.proofs.Common.{true, option_map, is_some}
use base.Fraction.{left, right}
use base.Logic.{sep, wand, apply∗}
use base.Fml.{Fml, fdead}
use contract.BorrowLft.{meet_⊑_left, meet_⊑_right}
use types.Tokens.{lft-common}
use base.FractionLaws.{common}
use mathlib.Core.List.{◌++◌}
use types.Kit.{fjoin}
use Rattle.std.specs.Option.{ghost_name_of}
use Rattle.rhai_value.specs.Tree.{Tree}
use Rattle.rhai_value.specs.contracts.value.dynamic.Dynamic as dynamic
use Rattle.rhai_value.specs.contracts.cells.store.Store as store
use Rattle.rhai_target.specs.declared.target.Target.{Target}
use Rattle.rhai_target.specs.contracts.target.Target as target
use Rattle.rhai_target.proofs.LetGo.{Ref, ref_laws, RefOf, ref_of_laws}
use Rattle.rhai_target.specs.Target.{mark_in, IsMarkedIn, with_value, put_marked}
use Rattle.rhai_target.specs.Lent.{target_row, own_value, marked_value, either_of}
use Rattle.rhai_target.proofs.TargetLends.{own_side, far_side, is_value, is_there}
use Rattle.rhai_target.specs.contracts.lent.marked_mut as g₁
use Rattle.rhai_target.proofs.lent.marked_mut.Met as far_met
use Rattle.rhai_target.specs.contracts.lent.own_value_mut as g₂
use Rattle.rhai_target.proofs.lent.own_value_mut.Met as own_met
use Rattle.rhai_target.specs.contracts.lent.one_of as g₃
use Rattle.rhai_target.proofs.lent.one_of.Met as one_met
use Rattle.rhai_target.specs.contracts.target.Target.lent_mut as f
use Rattle.rhai_target.proofs.target.Target.lent_mut.Statement.{statement}
use Rattle.rhai_target.proofs.target.Target.lent_mut.Code as code

abbrev dyn : RattleType
dyn = dynamic.the_row

abbrev sto : RattleType
sto = store.the_row

-- a target, at the second of two lifetimes
abbrev Tgt : Lfts 2 → RattleType
Tgt κs = target.the_row (named_lft 2 1 tt κs)

abbrev stayed : Stays f.ended.signature.params f.ended.kept
stayed = (stay_dropped (mut_ref_to (0 ∷ []) tt (plain Tgt)) no, (stay_dropped (mut_ref_to (0 ∷ []) tt (plain (λ _. sto))) no, tt))

pub lent_mut_spec : {M : Type 1} → statement M
lent_mut_spec 𝓤 𝓛 𝓜 𝓡 wired =
    let c = f.clauses 𝓛 𝓜.mem 𝓡.returns in let Fr = framed 𝓤 𝓛.H 𝓜 (tables 𝓤 𝓛.H 𝓜 𝓡 𝓡.env) in
    proved 𝓛 f.ended stayed c 𝓜 𝓡 (Goes-spent_ref 𝓛 2 (0 ∷ []) tt (plain Tgt), (Goes-spent_ref 𝓛 2 (0 ∷ []) tt (plain (λ _. sto)), tt))
    f.Key.name code.function (code.unfolded 𝓤 𝓛.H 𝓜 𝓡 wired)
    (λ κs. (mut_vals, (mut_vals, tt))) (λ κs. (mut_Tells (named 0) κs.0 (Tgt κs), (mut_Tells (named 0) κs.0 sto, tt))) (λ κs qs bounds a _ are.
    let κ = κs.0 in let τ = κs.1.0 in let q = qs.0 in let p = qs.1.0 in let d = a.0 in let m = a.1.0 in let ds = mut_vals d in let ms = mut_vals m in let tg = Tgt κs in
    qed 𝓛 (((‵ (flft κs.0 qs.0) ⊛ ‵ (flft κs.1.0 qs.1.0) ⊛ ‵ ftrue) ⊛ ‵ ((MutRef (named 0) κ tg).own_val d ds) ⊛ ‵ ((MutRef (named 0) κ sto).own_val m ms) ⊛ ‵ ftrue) ∷ raw (fact 𝓤 (IsMarkedIn m.now d.now)) ∷ []) ∵
    split ! $ split ! $ move ! (3 ∷ []) $ heard ! _ (λ marked. move ! (2 ∷ []) $ split3 ! $ move ! (4 ∷ []) $ split ! $ keep ! (2 ∷ 3 ∷ 5 ∷ 0 ∷ []) $
    enter ! _ _ _ _ _ $ alloc_all ! (λ l. pass_all ! refl ((tt, tt), ((tt, tt), tt)) $
    -- [d; m; the token of κ; that of τ]
    sets ! (addr ! (through ! refl (stop !))) refl (tt, tt) $
    sets ! (addr ! (through ! refl (stop !))) refl (tt, tt) $
    move ! (2 ∷ []) $ use1 𝓛 (‵ (flft κ (left q)) ⊛ ‵ (flft κ (right q))) (𝓛.lfts.lft_split κ q) $ split ! $
    -- [half the token of κ; the other half; d; m; the token of τ]
    move ! (4 ∷ []) $ use1 𝓛 (‵ (flft τ (left p)) ⊛ ‵ (flft τ (right p))) (𝓛.lfts.lft_split τ p) $ split ! $
    -- [half the token of τ; the other half; half the token of κ; the other half; d; m]
    lft_new ! tt (λ α. move ! (0 ∷ 1 ∷ []) $
    let β : Lft = (α ∷ []) ++ τ in let s = (common full_share (left p)).0 in let Both = sep 𝓤 (𝓛.A.lft (α ∷ []) full_share) (𝓛.A.lft τ (left p)) in
    use2 𝓛 (‵ (flft β s) ⊛ raw (wand 𝓤 (𝓛.A.lft β s) Both)) (lft-common 𝓛 (α ∷ []) τ full_share (left p)) $ split ! $
    -- [the token of β; the way back; half the token of τ; half the token of κ; the other half; d; m]
    move ! (5 ∷ 3 ∷ []) $
    use2 𝓛 (later (some (λ (δ : GName). ‵ ((MutRef (named 1) β tg).own_val (record d { ghost_name = δ }) ds) ⊛ ‵ (LentAgain tg κ β (left q) d.ghost_name d.ref_ptr.0 d.ref_ptr.1 δ d.now))))
    (lends_again 𝓛 tg (named 0) κ β (left q) d.ghost_name d.ref_ptr.0 d.ref_ptr.1 (named 1) d.now) $ await ! tt $ pick ! (λ δ. split ! $
    -- [d's loan; what d's holder keeps; the token of β; the way back; half the token of τ; half the token of κ; m]
    let G₁ = triple_of 𝓛 g₁.signature (g₁.spec 𝓛 𝓜.mem 𝓡.returns) in
    let z₁ : G₁.Ghost = (((κ, (β, (τ, tt))), (right q, (s, (right p, tt))), (meet_⊑_right (α ∷ []) τ, tt), (m, (record d { ghost_name = δ }, tt)), (ms, (ds, tt))), tt) in
    nothing ! $ move ! (1 ∷ 0 ∷ []) $ join ! $ move ! (6 ∷ 0 ∷ []) $ join ! $
    -- [m and d's loan; what d's holder keeps; the token of β; the way back; half the token of τ; half the token of κ]
    nothing ! $ move ! (5 ∷ 0 ∷ []) $ join ! $ move ! (3 ∷ 0 ∷ []) $ join ! $ move ! (4 ∷ 0 ∷ []) $ join ! $ join ! $
    use0 𝓛 (raw (fact 𝓤 (IsMarkedIn m.now d.now))) (fact_i 𝓤 _ (emp 𝓤) marked) $ move ! (1 ∷ 0 ∷ []) $ use2 𝓛 (raw (G₁.pre z₁)) (id⊢ 𝓤 _) $
    calls_at ! Fr G₁ (far_met.met 𝓤 𝓛 𝓜 𝓡 (code.calls-rhai_target::lent::marked_mut 𝓡.env wired)) z₁ (and_then ! (get ! refl) (and_then ! (get ! refl) (no_more !))) (λ v₁.
    use1 𝓛 (later (some (λ (r : Option (MutBor Tree)). ((‵ (flft κ (right q)) ⊛ ‵ (flft β s) ⊛ ‵ (flft τ (right p)) ⊛ ‵ ftrue) ⊛ ‵ ((RefOf κ).own_val r (v₁ ∷ []))) ⊛
    some (λ (ws : Lasts g₁.ended z₁.0.0 z₁.0.3). ‵ (lasts g₁.ended z₁.0.0 z₁.0.3 ws) ⊛ ‵ (follows_if sto dyn m.ghost_name (ghost_name_of r) (λ w. put_marked (mark_in d.now) w m.now) m.now)
    ⊛ raw (fact 𝓤 (option_map (λ e. e.now) r ≡ marked_value (mark_in d.now) m.now)) ⊛ raw (fact 𝓤 (ws.1.0 ≡ d.now)))))) (id⊢ 𝓤 _) $
    await ! tt $ pick ! (λ r. split ! $ split ! $ split ! $ move ! (1 ∷ []) $ split3 ! $
    -- [the token of β; half the token of τ; nothing; half the token of κ; what the cell has; the rest; what d's holder keeps; the way back]
    move ! (4 ∷ []) $ peeks ! (RefOf κ) _ (shows 𝓛 (RefOf κ)) r (v₁ ∷ []) (λ is₁. lands_as ! refl refl (((ref_of_laws κ).lawful 𝓛).typed r (v₁ ∷ []) is₁).0 $
    move ! (1 ∷ 7 ∷ []) $ use2 𝓛 (‵ (flft (α ∷ []) full_share) ⊛ ‵ (flft τ (left p))) (apply∗ 𝓤 (𝓛.A.lft β s) Both) $ split ! $ lft_end ! tt $
    -- [α has ended; half the token of τ; what the cell has; half the token of τ; nothing; half the
    -- token of κ; the rest; what d's holder keeps]
    use1 𝓛 (‵ (fdead β)) (𝓛.lfts.dead-incl β (α ∷ []) (meet_⊑_left (α ∷ []) τ)) $
    move ! (1 ∷ 3 ∷ []) $ use2 𝓛 (‵ (flft τ p)) (𝓛.lfts.lft_join τ p) $
    -- [the token of τ; β has ended; what the cell has; nothing; half the token of κ; the rest; what d's holder keeps]
    move ! (5 ∷ []) $ pick ! (λ ws. split ! $ move ! (1 ∷ []) $ split ! $ move ! (1 ∷ []) $ split ! $ heard ! _ (λ has_far. heard ! _ (λ d_same.
    -- [what m follows; m's and d's last values; the token of τ; β has ended; what the cell has;
    -- nothing; half the token of κ; what d's holder keeps]
    move ! (1 ∷ []) $ fsplit ! $ move ! (1 ∷ []) $ fsplit ! $ fsplit ! $
    -- [d's last value; its borrow; nothing; nothing; what m follows; the token of τ; β has ended;
    -- what the cell has; nothing; half the token of κ; what d's holder keeps]
    move ! (6 ∷ 10 ∷ 0 ∷ []) $
    use3 𝓛 (later (‵ ((MutRef (named 0) κ tg).own_val (record d { now = ws.1.0 }) ds) ⊛ ‵ (flft κ (left q))))
    (comes_back 𝓛 tg (named 0) κ β (left q) d.ghost_name d.ref_ptr.0 d.ref_ptr.1 δ d.now ws.1.0) $ await ! tt $ split ! $
    rewrite ! 0 (λ (y : Target). ‵ ((MutRef (named 0) κ tg).own_val (record d { now = y }) ds)) d_same refl $
    -- [d; half the token of κ; its borrow; nothing; nothing; what m follows; the token of τ; what the cell has; nothing; half the token of κ]
    move ! (1 ∷ 9 ∷ []) $ use2 𝓛 (‵ (flft κ q)) (𝓛.lfts.lft_join κ q) $
    -- [the token of κ; d; its borrow; nothing; nothing; what m follows; the token of τ; what the cell has; nothing]
    move ! (0 ∷ 6 ∷ 1 ∷ 5 ∷ 7 ∷ []) $
    -- [the token of κ; that of τ; d; what m follows; what the cell has; ..]
    sets ! (addr ! (through ! refl (stop !))) refl (tt, tt) $
    let G₂ = triple_of 𝓛 g₂.signature (g₂.spec 𝓛 𝓜.mem 𝓡.returns) in
    let z₂ : G₂.Ghost = ((κs, qs, bounds, (d, tt), (ds, tt)), tt) in
    nothing ! $ move ! (3 ∷ 0 ∷ []) $ join ! $ nothing ! $ move ! (3 ∷ 0 ∷ []) $ join ! $ move ! (2 ∷ 0 ∷ []) $ join ! $ join ! $ nothing ! $ move ! (1 ∷ 0 ∷ []) $ use2 𝓛 (raw (G₂.pre z₂)) (id⊢ 𝓤 _) $
    calls_at ! Fr G₂ (own_met.met 𝓤 𝓛 𝓜 𝓡 (code.calls-rhai_target::lent::own_value_mut 𝓡.env wired)) z₂ (and_then ! (get ! refl) (no_more !)) (λ v₂.
    use1 𝓛 (later (some (λ (o : Option (MutBor Tree)). ((‵ (flft κ q) ⊛ ‵ (flft τ p) ⊛ ‵ ftrue) ⊛ ‵ ((RefOf κ).own_val o (v₂ ∷ []))) ⊛
    some (λ (ls : Lasts g₂.ended z₂.0.0 z₂.0.3). ‵ (lasts g₂.ended z₂.0.0 z₂.0.3 ls) ⊛ ‵ (follows_if target_row dyn d.ghost_name (ghost_name_of o) (λ w. with_value w d.now) d.now)
    ⊛ raw (fact 𝓤 (option_map (λ e. e.now) o ≡ own_value d.now)))))) (id⊢ 𝓤 _) $
    await ! tt $ pick ! (λ o. split ! $ split ! $ split3 ! $ move ! (3 ∷ []) $
    peeks ! (RefOf κ) _ (shows 𝓛 (RefOf κ)) o (v₂ ∷ []) (λ is₂. lands_as ! refl refl (((ref_of_laws κ).lawful 𝓛).typed o (v₂ ∷ []) is₂).0 $
    move ! (4 ∷ []) $ pick ! (λ ls₂. split ! $ drop ! $ split ! $ move ! (1 ∷ []) $ heard ! _ (λ has_own.
    -- [what d follows; what it has; the token of κ; that of τ; nothing; what m follows; what the cell has; ..]
    sets ! (of_opd ! (get ! refl)) refl (((ref_of_laws κ).lawful 𝓛).typed o (v₂ ∷ []) is₂).0 $
    sets ! (of_opd ! (get ! refl)) refl (((ref_of_laws κ).lawful 𝓛).typed r (v₁ ∷ []) is₁).0 $
    let G₃ = triple_of 𝓛 g₃.signature (g₃.spec 𝓛 𝓜.mem 𝓡.returns) in
    let z₃ : G₃.Ghost = (((κ, tt), (q, tt), tt, (o, (r, tt)), (v₂ ∷ [], (v₁ ∷ [], tt))), tt) in
    nothing ! $ move ! (7 ∷ 0 ∷ []) $ join ! $ move ! (2 ∷ 0 ∷ []) $ join ! $ nothing ! $ move ! (3 ∷ 0 ∷ []) $ join ! $ join ! $
    use0 𝓛 (raw (fact 𝓤 (is_some (either_of o r) ≡ true))) (fact_i 𝓤 _ (emp 𝓤) (is_there m.now d.now o r has_own has_far marked)) $ move ! (1 ∷ 0 ∷ []) $ use2 𝓛 (raw (G₃.pre z₃)) (id⊢ 𝓤 _) $
    calls_at ! Fr G₃ (one_met.met 𝓤 𝓛 𝓜 𝓡 (code.calls-rhai_target::lent::one_of 𝓡.env wired)) z₃ (and_then ! (get ! refl) (and_then ! (get ! refl) (no_more !))) (λ v₃.
    use1 𝓛 (later (some (λ (x : MutBor Tree). ((‵ (flft κ q) ⊛ ‵ ftrue) ⊛ ‵ ((Ref κ).own_val x (v₃ ∷ []))) ⊛
    some (λ (ls : Lasts g₃.ended z₃.0.0 z₃.0.3). ‵ (lasts g₃.ended z₃.0.0 z₃.0.3 ls) ⊛ raw (fact 𝓤 (either_of o r ≡ Some x)))))) (id⊢ 𝓤 _) $
    await ! tt $ pick ! (λ x. split ! $ split ! $ split ! $ move ! (2 ∷ []) $
    peeks ! (Ref κ) _ (shows 𝓛 (Ref κ)) x (v₃ ∷ []) (λ is₃. lands_as ! refl refl (((ref_laws κ).lawful 𝓛).typed x (v₃ ∷ []) is₃).0 $
    move ! (3 ∷ []) $ pick ! (λ ls₃. split ! $ drop ! $ heard ! _ (λ one.
    -- [the returned borrow; the token of κ; nothing; what d follows; the token of τ; nothing; what m follows; ..]
    returns ! (look_at ! 0 refl) $ free_all ! refl $ keep ! (0 ∷ 1 ∷ 4 ∷ 6 ∷ 3 ∷ []) $
    suffices ! _ (ends_at 𝓛 f.ended stayed c ((κs, qs, bounds, a, (ds, (ms, tt))), tt) v₃ x (tt, (tt, tt)) (tt, (tt, tt))) $
    -- [the returned borrow; the token of κ; that of τ; what m follows; what d follows]
    rewrite ! 3 (λ (F : Fml). ‵ F) (far_side d m o r x has_own has_far one) refl $
    rewrite ! 4 (λ (F : Fml). ‵ F) (own_side d o r x has_own one) refl $
    move ! (4 ∷ 3 ∷ []) $ fjoin ! $ move ! (1 ∷ 2 ∷ 3 ∷ 0 ∷ []) $
    nothing ! $ nothing ! $ join ! $ nothing ! $ join ! $ join ! $ nothing ! $ move ! (3 ∷ 0 ∷ []) $ join ! $ move ! (2 ∷ 0 ∷ []) $ join ! $ join ! $ frame ! $ frame ! $
    by ! (fact_i 𝓤 _ _ (is_value m.now d.now o r x has_own has_far one)))))))))))))))))))))))
