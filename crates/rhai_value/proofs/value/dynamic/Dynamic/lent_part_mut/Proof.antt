-- `lent_part_mut` borrows from the value or from its store; the other source is settled unchanged.
use Rattle.std.proofs.Common.{◌≡◌, ◌<◌, ℕ, [], ◌∷◌, Option, Result, None, Some, option_map, option_and_then, IfSome, IfOk, IfErr, length, refl, MutBor, Bor, List, is_some}
use Rattle.std.proofs.raw_atomic.Walks.{proved}
use base.Fraction.{full_share, left, right}
use base.Logic.{emp, id⊢}
use base.Fml.{Lft, Fml, GName, ftrue, flft, fdead}
use mir.Syntax.{named, static, Args, dcons, dnil, a_type}
use mir.MapTy.{inst_fn}
use contract.Monad.{fact, fact_i}
use contract.BorrowLft.{◌⊑◌}
use contract.Running.{tables}
use types.Tokens.{lft_new, lft_end}
use types.Kit.{‵, raw, ◌⊛◌, some, later, ◌$◌, ◌∵◌, !, qed, by, move, keep, drop, use0, use1, use2, use3, split, split3, join, fsplit, fjoin, pick, await, rewrite, suffices, frame}
use types.Run.{enter, of_opd, addr, stop, no_more, and_then, returns}
use types.ByLocal.{alloc_all, pass_all, free_all, look_at, get, through, sets, lands_as}
use borrow.Table.Str.{str_laws}
use denote.Builtin.{bool}
use denote.Exit.{yes, no}
use denote.Plain.{bool_vals, bool_Tells}
use denote.Laws.{shows}
use denote.Lend.{lends_again, comes_back, LentAgain}
use denote.Param.{param, bounded}
use denote.Param.Laws.{Laws, of_field, row_shared, param_laws}
use denote.Param.Shared.{mut_ref_shared}
use denote.Ref.{NamedLft, MutRef, mut_vals, mut_Tells}
use denote.RattleType.{RattleType}
use denote.Signature.{plain, mut_ref_to}
use denote.Steps.{nothing, heard, peeks}
use denote.Struct.Field.{mut_ref_field}
use denote.Struct.Laws.{mut_ref_laws}
use denote.Follow.{follows_if}
use denote.Text.{str-field}
use denote.Triple.Call.{calls_at}
use denote.Triple.Clauses.{Lasts, lasts}
use denote.Triple.Spec.{triple_of}
use denote.Triple.Table.{framed}
use denote.Triple.Walked.{Stays, says, stay_dropped, Goes-dropped, Goes-spent_ref, ends_at}
use Rattle.std.specs.Option.{ghost_name_of}
use Rattle.std.specs.contracts.option.Option as option
use Rattle.std.proofs.option.Option.TheLaws as option_laws
use Rattle.std.specs.contracts.result.Result as result
use Rattle.std.proofs.result.Result.TheLaws as result_laws
use Rattle.rhai_value.specs.Tree.{Tree}
use Rattle.rhai_value.specs.declared.parts.lent.HeldPlace.{HeldPlace}
use Rattle.rhai_value.specs.contracts.value.dynamic.Dynamic as dynamic
use Rattle.rhai_value.specs.contracts.cells.store.Store as store
use Rattle.rhai_value.specs.contracts.parts.lent.HeldPlace as place
use Rattle.rhai_value.proofs.parts.lent.HeldPlace.TheLaws as place_laws
use Rattle.rhai_value.specs.End.{end, held_cell, end_type}
use Rattle.rhai_value.specs.Parts.{with_content}
use Rattle.rhai_value.specs.Types.{type_name}
use Rattle.rhai_value.specs.Lent.{either_of, content_in, edit_in}
use Rattle.rhai_value.proofs.InStores.{none_of_holder}
use Rattle.rhai_value.proofs.LentHeld.{held_within}
use Rattle.rhai_value.proofs.LentPart.{own_side, far_side, is_part, is_name}
use Rattle.rhai_value.specs.contracts.parts.lent.place_of as g₁
use Rattle.rhai_value.proofs.parts.lent.place_of.Met as place_met
use Rattle.rhai_value.specs.contracts.parts.lent.own_part_of as g₂
use Rattle.rhai_value.proofs.parts.lent.own_part_of.Met as own_met
use Rattle.rhai_value.specs.contracts.parts.lent.content_part_of as g₃
use Rattle.rhai_value.proofs.parts.lent.content_part_of.Met as far_met
use Rattle.rhai_value.specs.contracts.parts.lent.either_part as g₄
use Rattle.rhai_value.proofs.parts.lent.either_part.Met as either_met
use Rattle.rhai_value.specs.contracts.value.dynamic.Dynamic.lent_part_mut as f
use Rattle.rhai_value.proofs.value.dynamic.Dynamic.lent_part_mut.Statement.{statement}
use Rattle.rhai_value.proofs.value.dynamic.Dynamic.lent_part_mut.Code as code

abbrev dyn : RattleType
dyn = dynamic.the_row

abbrev sto : RattleType
sto = store.the_row

abbrev RefOf : RattleType → Lft → RattleType
RefOf T κ = option.the_row (MutRef (named 0) κ (param 0 T))

abbrev ref_laws : (T : RattleType) → Laws T → (κ : Lft) → Laws (MutRef (named 0) κ (param 0 T))
ref_laws T L κ = let a : NamedLft = record { mir = named 0; lft = κ } in of_field (mut_ref_field a (param 0 T) tt) (mut_ref_laws a (param 0 T) tt) refl (mut_ref_shared a (param 0 T) tt (row_shared (param 0 T) (param_laws 0 T L)))

abbrev ref_of_laws : (T : RattleType) → Laws T → (κ : Lft) → Laws (RefOf T κ)
ref_of_laws T L κ = option_laws.the_row_laws (MutRef (named 0) κ (param 0 T)) (ref_laws T L κ)

abbrev text : RattleType
text = (str-field (record { mir = static; lft = [] })).row

abbrev OutOf : RattleType → Lft → RattleType
OutOf T κ = result.the_row (MutRef (named 0) κ (param 0 T)) text

abbrev out_of_laws : (T : RattleType) → Laws T → (κ : Lft) → Laws (OutOf T κ)
out_of_laws T L κ = result_laws.the_row_laws (MutRef (named 0) κ (param 0 T)) text (ref_laws T L κ) (str_laws (record { mir = static; lft = [] }))

pub lent_part_mut_spec : {M : Type 1} → statement M
lent_part_mut_spec {M = M} 𝓤 𝓛 𝓜 𝓡 wired T L P dP dD metP metD =
    let args : Args = bounded (a_type ∷ []) (T, tt) (dcons dP (dcons dD dnil)) in
    let ended = f.ended T P dP dD in
    let stayed : Stays ended.signature.params ended.kept = (stay_dropped _ yes, (stay_dropped (mut_ref_to (0 ∷ []) tt (plain (λ _. dyn))) no, (stay_dropped (mut_ref_to (0 ∷ []) tt (plain (λ _. sto))) no, tt))) in
    let edit : T.Denot → Tree → Tree = λ w. with_content (P.content (P.meaning w)) in let none = none_of_holder P.content P.part_of P.KIND metP.constructs metP.reads in
    let c = f.clauses T P dP dD 𝓛 𝓜.mem 𝓡.returns in let Fr = framed 𝓤 𝓛.H 𝓜 (tables 𝓤 𝓛.H 𝓜 𝓡 𝓡.env) in
    proved 𝓛 ended stayed c 𝓜 𝓡 (Goes-dropped 𝓛 2 (plain (λ _. bool)) yes (λ κs x w. refl), (Goes-spent_ref 𝓛 2 (0 ∷ []) tt (plain (λ _. dyn)), (Goes-spent_ref 𝓛 2 (0 ∷ []) tt (plain (λ _. sto)), tt)))
    (f.Key.name args) (inst_fn args code.function) (code.unfolded 𝓤 𝓛.H 𝓜 𝓡 wired (T, tt) dP dD)
    (λ κs. (bool_vals, (mut_vals, (mut_vals, tt)))) (λ κs. (bool_Tells, (mut_Tells (named 0) κs.0 dyn, (mut_Tells (named 0) κs.0 sto, tt)))) (λ κs qs bounds a _ are.
    let κ = κs.0 in let τ = κs.1.0 in let q = qs.0 in let r = qs.1.0 in let b = a.0 in let d = a.1.0 in let m = a.1.1.0 in let ds = mut_vals d in let ms = mut_vals m in
    qed 𝓛 (((‵ (flft κ q) ⊛ ‵ (flft τ r) ⊛ ‵ ftrue) ⊛ ‵ (bool.own_val b (bool_vals b)) ⊛ ‵ ((MutRef (named 0) κ dyn).own_val d ds) ⊛ ‵ ((MutRef (named 0) κ sto).own_val m ms) ⊛ ‵ ftrue) ∷ raw (fact 𝓤 (τ ⊑ T.lives)) ∷ raw (fact 𝓤 (b ≡ is_some (P.part_of d.now))) ∷ []) ∵
    split ! $ split ! $ move ! (3 ∷ []) $ heard ! _ (λ within. move ! (3 ∷ []) $ heard ! _ (λ is_own. move ! (2 ∷ []) $ split3 ! $ move ! (2 ∷ []) $ split ! $ move ! (5 ∷ []) $ split ! $ keep ! (5 ∷ 2 ∷ 6 ∷ 0 ∷ 4 ∷ []) $
    enter ! _ _ _ _ _ $ alloc_all ! (λ l. pass_all ! refl ((tt, tt), ((tt, tt), ((tt, tt), tt))) $
    -- [d; m; the token of κ; that of τ; whether d has it]
    sets ! (addr ! (through ! refl (stop !))) refl (tt, tt) $
    sets ! (addr ! (through ! refl (stop !))) refl (tt, tt) $
    move ! (2 ∷ []) $ use1 𝓛 (‵ (flft κ (left q)) ⊛ ‵ (flft κ (right q))) (𝓛.lfts.lft_split κ q) $ split ! $
    lft_new ! tt (λ α. move ! (3 ∷ 1 ∷ []) $
    use2 𝓛 (later (some (λ (δ : GName). ‵ ((MutRef (named 0) (α ∷ []) dyn).own_val (record d { ghost_name = δ }) ds) ⊛ ‵ (LentAgain dyn κ (α ∷ []) (left q) d.ghost_name d.ref_ptr.0 d.ref_ptr.1 δ d.now))))
    (lends_again 𝓛 dyn (named 0) κ (α ∷ []) (left q) d.ghost_name d.ref_ptr.0 d.ref_ptr.1 (named 0) d.now) $ await ! tt $ pick ! (λ δ. split ! $
    move ! (4 ∷ 3 ∷ []) $
    use2 𝓛 (later (some (λ (ε : GName). ‵ ((MutRef (named 0) (α ∷ []) sto).own_val (record m { ghost_name = ε }) ms) ⊛ ‵ (LentAgain sto κ (α ∷ []) (right q) m.ghost_name m.ref_ptr.0 m.ref_ptr.1 ε m.now))))
    (lends_again 𝓛 sto (named 0) κ (α ∷ []) (right q) m.ghost_name m.ref_ptr.0 m.ref_ptr.1 (named 0) m.now) $ await ! tt $ pick ! (λ ε. split ! $
    -- [m's loan; what m's holder keeps; d's loan; what d's holder keeps; the token of α; that of τ; whether d has it]
    let G₁ = triple_of 𝓛 (g₁.signature T) (g₁.spec T P dP dD 𝓛 𝓜.mem 𝓡.returns) in
    let z₁ : G₁.Ghost = (((α ∷ [], (α ∷ [], (τ, tt))), (left full_share, (right full_share, (r, tt))), tt, (b, (record d { ghost_name = δ }, (record m { ghost_name = ε }, tt))), (bool_vals b, (ds, (ms, tt)))), tt) in
    nothing ! $ move ! (1 ∷ 0 ∷ []) $ join ! $ move ! (2 ∷ 0 ∷ []) $ join ! $ move ! (5 ∷ 0 ∷ []) $ join ! $
    -- [whether d has it, d's loan and m's; what m's and d's holders keep; the token of α; that of τ]
    move ! (3 ∷ []) $ use1 𝓛 (‵ (flft (α ∷ []) (left full_share)) ⊛ ‵ (flft (α ∷ []) (right full_share))) (𝓛.lfts.lft_split (α ∷ []) full_share) $ split ! $
    nothing ! $ move ! (6 ∷ 0 ∷ []) $ join ! $ move ! (2 ∷ 0 ∷ []) $ join ! $ move ! (1 ∷ 0 ∷ []) $ join ! $ join ! $
    use0 𝓛 (raw (fact 𝓤 (b ≡ is_some (P.part_of d.now)))) (fact_i 𝓤 _ (emp 𝓤) is_own) $ use0 𝓛 (raw (fact 𝓤 (τ ⊑ T.lives))) (fact_i 𝓤 _ (emp 𝓤) within) $ join ! $ move ! (1 ∷ 0 ∷ []) $ use2 𝓛 (raw (G₁.pre z₁)) (id⊢ 𝓤 _) $
    calls_at ! Fr G₁ (place_met.met 𝓤 𝓛 𝓜 𝓡 (code.calls-rhai_value::parts::lent::place_of 𝓡.env wired) T L P dP dD metP metD) z₁ (and_then ! (get ! refl) (and_then ! (get ! refl) (and_then ! (get ! refl) (no_more !)))) (λ v₁.
    use1 𝓛 (later (some (λ (x : HeldPlace). ((‵ (flft (α ∷ []) (left full_share)) ⊛ ‵ (flft (α ∷ []) (right full_share)) ⊛ ‵ (flft τ r) ⊛ ‵ ftrue) ⊛ ‵ (place.the_row.own_val x (v₁ ∷ []))) ⊛
    some (λ (ws : Lasts (g₁.ended T P dP dD) z₁.0.0 z₁.0.3). ‵ (lasts (g₁.ended T P dP dD) z₁.0.0 z₁.0.3 ws) ⊛ raw (fact 𝓤 (x.place ≡ held_cell (end m.now [] d.now))) ⊛ raw (fact 𝓤 (x.kind ≡ end_type (end m.now [] d.now)))
    ⊛ raw (fact 𝓤 (ws.1.0 ≡ d.now)) ⊛ raw (fact 𝓤 (ws.1.1.0 ≡ m.now)))))) (id⊢ 𝓤 _) $
    await ! tt $ pick ! (λ x. split ! $ split ! $ split3 ! $ use2 𝓛 (‵ (flft (α ∷ []) full_share)) (𝓛.lfts.lft_join (α ∷ []) full_share) $ lft_end ! tt $ move ! (1 ∷ []) $ split ! $ move ! (3 ∷ 2 ∷ 1 ∷ 4 ∷ 5 ∷ 6 ∷ []) $
    peeks ! place.the_row _ (shows 𝓛 place.the_row) x (v₁ ∷ []) (λ is₁. lands_as ! refl refl ((place_laws.the_row_laws.lawful 𝓛).typed x (v₁ ∷ []) is₁).0 $
    move ! (3 ∷ []) $ pick ! (λ ws. split ! $ move ! (1 ∷ []) $ split ! $ heard ! _ (λ cell. split ! $ heard ! _ (λ kind. split ! $ heard ! _ (λ d_same. heard ! _ (λ m_same.
    fsplit ! $ drop ! $ fsplit ! $ fsplit ! $ move ! (2 ∷ []) $ fsplit ! $ fsplit ! $
    -- [m's last value; its borrow; nothing; d's last value; its borrow; the place; α has ended;
    -- nothing; what m's and d's holders keep; the token of τ]
    move ! (6 ∷ []) $ use1 𝓛 (‵ (fdead (α ∷ [])) ⊛ ‵ (fdead (α ∷ []))) (𝓛.lfts.dead_dup (α ∷ [])) $ split ! $ move ! (0 ∷ 9 ∷ 2 ∷ []) $
    use3 𝓛 (later (‵ ((MutRef (named 0) κ sto).own_val (record m { now = ws.1.1.0 }) ms) ⊛ ‵ (flft κ (right q))))
    (comes_back 𝓛 sto (named 0) κ (α ∷ []) (right q) m.ghost_name m.ref_ptr.0 m.ref_ptr.1 ε m.now ws.1.1.0) $ await ! tt $ split ! $ move ! (2 ∷ 9 ∷ 5 ∷ []) $
    use3 𝓛 (later (‵ ((MutRef (named 0) κ dyn).own_val (record d { now = ws.1.0 }) ds) ⊛ ‵ (flft κ (left q))))
    (comes_back 𝓛 dyn (named 0) κ (α ∷ []) (left q) d.ghost_name d.ref_ptr.0 d.ref_ptr.1 δ d.now ws.1.0) $ await ! tt $ split ! $
    rewrite ! 0 (λ (y : Tree). ‵ ((MutRef (named 0) κ dyn).own_val (record d { now = y }) ds)) d_same refl $
    rewrite ! 2 (λ (y : sto.Denot). ‵ ((MutRef (named 0) κ sto).own_val (record m { now = y }) ms)) m_same refl $
    move ! (1 ∷ 3 ∷ []) $ use2 𝓛 (‵ (flft κ q)) (𝓛.lfts.lft_join κ q) $
    -- [the token of κ; d; m; a borrow; nothing; a borrow; the place; nothing; the token of τ]
    move ! (6 ∷ []) $ use1 𝓛 (‵ (place.the_row.own_val x (v₁ ∷ [])) ⊛ ‵ (place.the_row.own_val x (v₁ ∷ []))) ((place_laws.the_row_copy.copies M 𝓤 𝓛).twice x (v₁ ∷ [])) $ split ! $
    move ! (2 ∷ 9 ∷ 3 ∷ 4 ∷ 0 ∷ 1 ∷ []) $
    -- [the token of κ; that of τ; d; m; the place, twice; ..]
    sets ! (addr ! (through ! refl (stop !))) refl (tt, tt) $
    let G₂ = triple_of 𝓛 (g₂.signature T) (g₂.spec T P dP dD 𝓛 𝓜.mem 𝓡.returns) in
    let z₂ : G₂.Ghost = ((κs, qs, bounds, (d, tt), (ds, tt)), tt) in
    nothing ! $ move ! (3 ∷ 0 ∷ []) $ join ! $ nothing ! $ move ! (3 ∷ 0 ∷ []) $ join ! $ move ! (2 ∷ 0 ∷ []) $ join ! $ join ! $
    nothing ! $ use0 𝓛 (raw (fact 𝓤 (τ ⊑ T.lives))) (fact_i 𝓤 _ (emp 𝓤) within) $ join ! $ move ! (1 ∷ 0 ∷ []) $ use2 𝓛 (raw (G₂.pre z₂)) (id⊢ 𝓤 _) $
    calls_at ! Fr G₂ (own_met.met 𝓤 𝓛 𝓜 𝓡 (code.calls-rhai_value::parts::lent::own_part_of 𝓡.env wired) T L P dP dD metP metD) z₂ (and_then ! (get ! refl) (no_more !)) (λ v₂.
    use1 𝓛 (later (some (λ (o : Option (MutBor T.Denot)). ((‵ (flft κ q) ⊛ ‵ (flft τ r) ⊛ ‵ ftrue) ⊛ ‵ ((RefOf T κ).own_val o (v₂ ∷ []))) ⊛
    some (λ (ls : Lasts (g₂.ended T P dP dD) z₂.0.0 z₂.0.3). ‵ (lasts (g₂.ended T P dP dD) z₂.0.0 z₂.0.3 ls) ⊛ ‵ (follows_if dyn (param 0 T) d.ghost_name (ghost_name_of o) (λ w. with_content (P.content (P.meaning w)) d.now) d.now)
    ⊛ raw (fact 𝓤 (option_map (λ e. P.meaning e.now) o ≡ P.part_of d.now)))))) (id⊢ 𝓤 _) $
    await ! tt $ pick ! (λ o. split ! $ split ! $ split3 ! $ move ! (3 ∷ []) $
    peeks ! (RefOf T κ) _ (shows 𝓛 (RefOf T κ)) o (v₂ ∷ []) (λ is₂. lands_as ! refl refl (((ref_of_laws T L κ).lawful 𝓛).typed o (v₂ ∷ []) is₂).0 $
    move ! (4 ∷ []) $ pick ! (λ ls₂. split ! $ drop ! $ split ! $ move ! (1 ∷ []) $ heard ! _ (λ has_own.
    -- [what d follows; what it has; the tokens; nothing; m; the place, twice; ..]
    sets ! (addr ! (through ! refl (stop !))) refl (tt, tt) $
    let G₃ = triple_of 𝓛 (g₃.signature T) (g₃.spec T P dP dD 𝓛 𝓜.mem 𝓡.returns) in
    let z₃ : G₃.Ghost = ((κs, qs, bounds, (m, (x, tt)), (ms, (v₁ ∷ [], tt))), tt) in
    nothing ! $ move ! (7 ∷ 0 ∷ []) $ join ! $ move ! (6 ∷ 0 ∷ []) $ join ! $ nothing ! $ move ! (5 ∷ 0 ∷ []) $ join ! $ move ! (4 ∷ 0 ∷ []) $ join ! $ join ! $
    use0 𝓛 (raw (fact 𝓤 (IfSome x.place (λ k. k < length m.now)))) (fact_i 𝓤 _ (emp 𝓤) (held_within m.now d.now x.place cell)) $
    use0 𝓛 (raw (fact 𝓤 (τ ⊑ T.lives))) (fact_i 𝓤 _ (emp 𝓤) within) $ join ! $ move ! (1 ∷ 0 ∷ []) $ use2 𝓛 (raw (G₃.pre z₃)) (id⊢ 𝓤 _) $
    calls_at ! Fr G₃ (far_met.met 𝓤 𝓛 𝓜 𝓡 (code.calls-rhai_value::parts::lent::content_part_of 𝓡.env wired) T L P dP dD metP metD) z₃ (and_then ! (get ! refl) (and_then ! (get ! refl) (no_more !))) (λ v₃.
    use1 𝓛 (later (some (λ (u : Option (MutBor T.Denot)). ((‵ (flft κ q) ⊛ ‵ (flft τ r) ⊛ ‵ ftrue) ⊛ ‵ ((RefOf T κ).own_val u (v₃ ∷ []))) ⊛
    some (λ (ls : Lasts (g₃.ended T P dP dD) z₃.0.0 z₃.0.3). ‵ (lasts (g₃.ended T P dP dD) z₃.0.0 z₃.0.3 ls) ⊛ ‵ (follows_if sto (param 0 T) m.ghost_name (ghost_name_of u) (λ w. edit_in x.place (with_content (P.content (P.meaning w))) m.now) m.now)
    ⊛ raw (fact 𝓤 (option_map (λ e. P.meaning e.now) u ≡ option_and_then P.part_of (content_in x.place m.now))))))) (id⊢ 𝓤 _) $
    await ! tt $ pick ! (λ u. split ! $ split ! $ split3 ! $ move ! (3 ∷ []) $
    peeks ! (RefOf T κ) _ (shows 𝓛 (RefOf T κ)) u (v₃ ∷ []) (λ is₃. lands_as ! refl refl (((ref_of_laws T L κ).lawful 𝓛).typed u (v₃ ∷ []) is₃).0 $
    move ! (4 ∷ []) $ pick ! (λ ls₃. split ! $ drop ! $ split ! $ move ! (1 ∷ []) $ heard ! _ (λ has_far.
    -- [what m follows; what the cell has; the tokens; nothing; what d follows; what d has; nothing; the place; ..]
    sets ! (of_opd ! (get ! refl)) refl (((ref_of_laws T L κ).lawful 𝓛).typed o (v₂ ∷ []) is₂).0 $
    sets ! (of_opd ! (get ! refl)) refl (((ref_of_laws T L κ).lawful 𝓛).typed u (v₃ ∷ []) is₃).0 $
    let G₄ = triple_of 𝓛 (g₄.signature T) (g₄.spec T P dP dD 𝓛 𝓜.mem 𝓡.returns) in
    let z₄ : G₄.Ghost = ((κs, qs, bounds, (o, (u, (x, tt))), (v₂ ∷ [], (v₃ ∷ [], (v₁ ∷ [], tt)))), tt) in
    nothing ! $ move ! (9 ∷ 0 ∷ []) $ join ! $ move ! (2 ∷ 0 ∷ []) $ join ! $ move ! (6 ∷ 0 ∷ []) $ join ! $ nothing ! $ move ! (4 ∷ 0 ∷ []) $ join ! $ move ! (3 ∷ 0 ∷ []) $ join ! $ join ! $
    nothing ! $ use0 𝓛 (raw (fact 𝓤 (τ ⊑ T.lives))) (fact_i 𝓤 _ (emp 𝓤) within) $ join ! $ move ! (1 ∷ 0 ∷ []) $ use2 𝓛 (raw (G₄.pre z₄)) (id⊢ 𝓤 _) $
    calls_at ! Fr G₄ (either_met.met 𝓤 𝓛 𝓜 𝓡 (code.calls-rhai_value::parts::lent::either_part 𝓡.env wired) T L P dP dD metP metD) z₄ (and_then ! (get ! refl) (and_then ! (get ! refl) (and_then ! (get ! refl) (no_more !)))) (λ v₄.
    use1 𝓛 (later (some (λ (p : Result (MutBor T.Denot) (Bor (List ℕ))). ((‵ (flft κ q) ⊛ ‵ (flft τ r) ⊛ ‵ ftrue) ⊛ ‵ ((OutOf T κ).own_val p (v₄ ∷ []))) ⊛
    some (λ (ls : Lasts (g₄.ended T P dP dD) z₄.0.0 z₄.0.3). ‵ (lasts (g₄.ended T P dP dD) z₄.0.0 z₄.0.3 ls) ⊛ raw (fact 𝓤 (IfOk p (λ w. either_of o u ≡ Some w)))
    ⊛ raw (fact 𝓤 (IfErr p (λ name. (either_of o u ≡ None) × (name.now ≡ type_name x.kind)))))))) (id⊢ 𝓤 _) $
    await ! tt $ pick ! (λ p. split ! $ split ! $ split3 ! $ move ! (3 ∷ []) $
    peeks ! (OutOf T κ) _ (shows 𝓛 (OutOf T κ)) p (v₄ ∷ []) (λ is₄. lands_as ! refl refl (((out_of_laws T L κ).lawful 𝓛).typed p (v₄ ∷ []) is₄).0 $
    move ! (4 ∷ []) $ pick ! (λ ls₄. split ! $ drop ! $ split ! $ heard ! _ (λ ok. heard ! _ (λ err.
    -- [the returned borrow; the tokens; nothing; what m follows; nothing; what d follows; ..]
    returns ! (look_at ! 0 refl) $ free_all ! refl $ keep ! (0 ∷ 1 ∷ 2 ∷ 4 ∷ 6 ∷ []) $
    suffices ! _ (ends_at 𝓛 ended stayed c ((κs, qs, bounds, a, (bool_vals b, (ds, (ms, tt)))), tt) v₄ p (tt, (tt, (tt, tt))) (tt, (tt, (tt, tt)))) $
    rewrite ! 3 (λ (F : Fml). ‵ F) (far_side (param 0 T) P.meaning edit P.part_of none m d.now x.place x.kind o u p cell has_own has_far ok err) refl $
    rewrite ! 4 (λ (F : Fml). ‵ F) (own_side (param 0 T) P.meaning edit P.part_of none d m.now x.place x.kind o u p cell has_own has_far ok err) refl $
    move ! (4 ∷ 3 ∷ []) $ fjoin ! $ move ! (1 ∷ 2 ∷ 3 ∷ 0 ∷ []) $
    nothing ! $ nothing ! $ join ! $ nothing ! $ join ! $ nothing ! $ join ! $ join ! $ nothing ! $ move ! (3 ∷ 0 ∷ []) $ join ! $ move ! (2 ∷ 0 ∷ []) $ join ! $ join ! $ frame ! $ frame ! $
    says ! (is_name (param 0 T) P.meaning edit P.part_of none m.now d.now x.place x.kind o u p cell kind has_own has_far err) $
    by ! (fact_i 𝓤 _ _ (is_part (param 0 T) P.meaning edit P.part_of none m.now d.now x.place o u p cell has_own has_far ok)))))))))))))))))))))))))))))))))
