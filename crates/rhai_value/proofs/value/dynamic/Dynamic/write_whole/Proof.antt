-- `write_whole` borrows from the value or from its store; the other source is settled unchanged.
use Rattle.std.proofs.Common.{◌≡◌, ◌<◌, ℕ, [], ◌∷◌, Option, option_map, IfSome, length, refl, sym, MutBor}
use Rattle.std.proofs.raw_atomic.Walks.{proved}
use base.Fraction.{full_share, left, right}
use base.Logic.{emp, id⊢}
use base.Fml.{Lft, Fml, GName, ftrue, flft, fdead}
use mir.Syntax.{named}
use mathlib.Core.Option as maybe
use contract.Monad.{fact, fact_i}
use contract.Running.{tables}
use types.Tokens.{lft_new, lft_end}
use types.Kit.{‵, raw, ◌⊛◌, some, later, ◌$◌, ◌∵◌, !, qed, by, move, keep, drop, use0, use1, use2, use3, split, split3, join, fsplit, fjoin, pick, await, rewrite, suffices, frame}
use types.Run.{enter, of_opd, addr, stop, no_more, and_then, returns}
use types.ByLocal.{alloc_all, pass_all, free_all, look_at, get, through, sets, lands_as}
use denote.Exit.{no}
use denote.Laws.{shows}
use denote.Lend.{lends_again, comes_back, LentAgain}
use denote.Param.Laws.{Laws, of_field, row_shared}
use denote.Param.Shared.{mut_ref_shared}
use denote.Ref.{NamedLft, MutRef, mut_vals, mut_Tells}
use denote.RattleType.{RattleType}
use denote.Signature.{plain, mut_ref_to}
use denote.Steps.{nothing, heard, peeks}
use denote.Struct.Field.{mut_ref_field}
use denote.Struct.Laws.{mut_ref_laws}
use denote.Follow.{follows_if}
use denote.Triple.Call.{calls_at}
use denote.Triple.Clauses.{Lasts, lasts}
use denote.Triple.Spec.{triple_of}
use denote.Triple.Table.{framed}
use denote.Triple.Walked.{Stays, says, stay_dropped, Goes-spent_ref, ends_at}
use Rattle.std.specs.Borrow.{name_if_some}
use Rattle.std.specs.Option.{ghost_name_of}
use Rattle.std.specs.contracts.option.Option as option
use Rattle.std.proofs.option.Option.TheLaws as option_laws
use Rattle.rhai_value.specs.Tree.{Tree}
use Rattle.rhai_value.specs.declared.cells.whole.Own.{Own}
use Rattle.rhai_value.specs.contracts.value.dynamic.Dynamic as dynamic
use Rattle.rhai_value.proofs.value.dynamic.Dynamic.TheLaws as dynamic_laws
use Rattle.rhai_value.specs.contracts.cells.store.Store as store
use Rattle.rhai_value.specs.contracts.places.place.Place as place
use Rattle.rhai_value.proofs.places.place.Place.TheLaws as place_laws
use Rattle.rhai_value.specs.contracts.cells.whole.Own as own
use Rattle.rhai_value.proofs.cells.whole.Own.TheLaws as own_laws
use Rattle.rhai_value.specs.End.{first_cell}
use Rattle.rhai_value.specs.Lent.{own_ref, either_of, content_in, put_in}
use Rattle.rhai_value.proofs.Lent.{own_name, own_side, far_side, is_within, is_found, is_own}
use Rattle.rhai_value.specs.contracts.cells.whole.first_place_of as g₁
use Rattle.rhai_value.proofs.cells.whole.first_place_of.Met as place_met
use Rattle.rhai_value.specs.contracts.cells.whole.own_mut as g₂
use Rattle.rhai_value.proofs.cells.whole.own_mut.Met as own_met
use Rattle.rhai_value.specs.contracts.cells.store.Store.cell_content_mut as g₃
use Rattle.rhai_value.proofs.cells.store.Store.cell_content_mut.Met as far_met
use Rattle.rhai_value.specs.contracts.cells.whole.either as g₄
use Rattle.rhai_value.proofs.cells.whole.either.Met as either_met
use Rattle.rhai_value.specs.contracts.value.dynamic.Dynamic.write_whole as f
use Rattle.rhai_value.proofs.value.dynamic.Dynamic.write_whole.Statement.{statement}
use Rattle.rhai_value.proofs.value.dynamic.Dynamic.write_whole.Code as code

abbrev dyn : RattleType
dyn = dynamic.the_row

abbrev sto : RattleType
sto = store.the_row

abbrev stayed : Stays f.ended.signature.params f.ended.kept
stayed = (stay_dropped (mut_ref_to (0 ∷ []) tt (plain (λ _. dyn))) no, (stay_dropped (mut_ref_to (0 ∷ []) tt (plain (λ _. sto))) no, tt))

abbrev OwnOf : Lft → RattleType
OwnOf κ = option.the_row (own.the_row (record { mir = named 0; lft = κ }))

abbrev own_of_laws : (κ : Lft) → Laws (OwnOf κ)
own_of_laws κ = option_laws.the_row_laws (own.the_row (record { mir = named 0; lft = κ })) (own_laws.the_row_laws (record { mir = named 0; lft = κ }))

abbrev RefOf : Lft → RattleType
RefOf κ = option.the_row (MutRef (named 0) κ dyn)

abbrev ref_of_laws : (κ : Lft) → Laws (RefOf κ)
ref_of_laws κ = let a : NamedLft = record { mir = named 0; lft = κ } in option_laws.the_row_laws (MutRef (named 0) κ dyn) (of_field (mut_ref_field a dyn tt) (mut_ref_laws a dyn tt) refl (mut_ref_shared a dyn tt (row_shared dyn dynamic_laws.the_row_laws)))

pub write_whole_spec : {M : Type 1} → statement M
write_whole_spec 𝓤 𝓛 𝓜 𝓡 wired =
    let c = f.clauses 𝓛 𝓜.mem 𝓡.returns in let Fr = framed 𝓤 𝓛.H 𝓜 (tables 𝓤 𝓛.H 𝓜 𝓡 𝓡.env) in
    proved 𝓛 f.ended stayed c 𝓜 𝓡 (Goes-spent_ref 𝓛 1 (0 ∷ []) tt (plain (λ _. dyn)), (Goes-spent_ref 𝓛 1 (0 ∷ []) tt (plain (λ _. sto)), tt))
    f.Key.name code.function (code.unfolded 𝓤 𝓛.H 𝓜 𝓡 wired)
    (λ κs. (mut_vals, (mut_vals, tt))) (λ κs. (mut_Tells (named 0) κs.0 dyn, (mut_Tells (named 0) κs.0 sto, tt))) (λ κs qs bounds a _ are.
    let κ = κs.0 in let q = qs.0 in let d = a.0 in let m = a.1.0 in let ds = mut_vals d in let ms = mut_vals m in
    qed 𝓛 (((‵ (flft κ q) ⊛ ‵ ftrue) ⊛ ‵ ((MutRef (named 0) κ dyn).own_val d ds) ⊛ ‵ ((MutRef (named 0) κ sto).own_val m ms) ⊛ ‵ ftrue) ∷ ‵ ftrue ∷ []) ∵
    split ! $ split ! $ move ! (2 ∷ []) $ split3 ! $ keep ! (0 ∷ 1 ∷ 3 ∷ []) $
    enter ! _ _ _ _ _ $ alloc_all ! (λ l. pass_all ! refl ((tt, tt), ((tt, tt), tt)) $
    -- [d; m; the token of κ]
    sets ! (addr ! (through ! refl (stop !))) refl (tt, tt) $
    sets ! (addr ! (through ! refl (stop !))) refl (tt, tt) $
    move ! (2 ∷ []) $ use1 𝓛 (‵ (flft κ (left q)) ⊛ ‵ (flft κ (right q))) (𝓛.lfts.lft_split κ q) $ split ! $
    lft_new ! tt (λ α. move ! (3 ∷ 1 ∷ []) $
    use2 𝓛 (later (some (λ (δ : GName). ‵ ((MutRef (named 0) (α ∷ []) dyn).own_val (record d { ghost_name = δ }) ds) ⊛ ‵ (LentAgain dyn κ (α ∷ []) (left q) d.ghost_name d.ref_ptr.0 d.ref_ptr.1 δ d.now))))
    (lends_again 𝓛 dyn (named 0) κ (α ∷ []) (left q) d.ghost_name d.ref_ptr.0 d.ref_ptr.1 (named 0) d.now) $ await ! tt $ pick ! (λ δ. split ! $
    move ! (4 ∷ 3 ∷ []) $
    use2 𝓛 (later (some (λ (ε : GName). ‵ ((MutRef (named 0) (α ∷ []) sto).own_val (record m { ghost_name = ε }) ms) ⊛ ‵ (LentAgain sto κ (α ∷ []) (right q) m.ghost_name m.ref_ptr.0 m.ref_ptr.1 ε m.now))))
    (lends_again 𝓛 sto (named 0) κ (α ∷ []) (right q) m.ghost_name m.ref_ptr.0 m.ref_ptr.1 (named 0) m.now) $ await ! tt $ pick ! (λ ε. split ! $
    -- [m's loan; what m's holder keeps; d's loan; what d's holder keeps; the token of α]
    let G₁ = triple_of 𝓛 g₁.signature (g₁.spec 𝓛 𝓜.mem 𝓡.returns) in
    let z₁ : G₁.Ghost = (((α ∷ [], (α ∷ [], tt)), (left full_share, (right full_share, tt)), tt, (record d { ghost_name = δ }, (record m { ghost_name = ε }, tt)), (ds, (ms, tt))), tt) in
    nothing ! $ move ! (1 ∷ 0 ∷ []) $ join ! $ move ! (2 ∷ 0 ∷ []) $ join ! $
    -- [d's loan and m's; what m's and d's holders keep; the token of α]
    move ! (3 ∷ []) $ use1 𝓛 (‵ (flft (α ∷ []) (left full_share)) ⊛ ‵ (flft (α ∷ []) (right full_share))) (𝓛.lfts.lft_split (α ∷ []) full_share) $ split ! $
    nothing ! $ move ! (2 ∷ 0 ∷ []) $ join ! $ move ! (1 ∷ 0 ∷ []) $ join ! $ join ! $ nothing ! $ move ! (1 ∷ 0 ∷ []) $ use2 𝓛 (raw (G₁.pre z₁)) (id⊢ 𝓤 _) $
    calls_at ! Fr G₁ (place_met.met 𝓤 𝓛 𝓜 𝓡 (code.calls-rhai_value::cells::whole::first_place_of 𝓡.env wired)) z₁ (and_then ! (get ! refl) (and_then ! (get ! refl) (no_more !))) (λ v₁.
    use1 𝓛 (later (some (λ (x : Option ℕ). ((‵ (flft (α ∷ []) (left full_share)) ⊛ ‵ (flft (α ∷ []) (right full_share)) ⊛ ‵ ftrue) ⊛ ‵ (place.the_row.own_val x (v₁ ∷ []))) ⊛
    some (λ (ws : Lasts g₁.ended z₁.0.0 z₁.0.3). ‵ (lasts g₁.ended z₁.0.0 z₁.0.3 ws) ⊛ raw (fact 𝓤 (x ≡ first_cell m.now d.now)) ⊛ raw (fact 𝓤 (ws.0 ≡ d.now)) ⊛ raw (fact 𝓤 (ws.1.0 ≡ m.now)))))) (id⊢ 𝓤 _) $
    await ! tt $ pick ! (λ x. split ! $ split ! $ split3 ! $ use2 𝓛 (‵ (flft (α ∷ []) full_share)) (𝓛.lfts.lft_join (α ∷ []) full_share) $ lft_end ! tt $ move ! (2 ∷ []) $
    peeks ! place.the_row _ (shows 𝓛 place.the_row) x (v₁ ∷ []) (λ is₁. lands_as ! refl refl ((place_laws.the_row_laws.lawful 𝓛).typed x (v₁ ∷ []) is₁).0 $
    move ! (3 ∷ []) $ pick ! (λ ws. split ! $ move ! (1 ∷ []) $ split ! $ heard ! _ (λ cell. split ! $ heard ! _ (λ d_same. heard ! _ (λ m_same.
    fsplit ! $ fsplit ! $ move ! (2 ∷ []) $ fsplit ! $ fsplit ! $
    -- [m's last value; its borrow; nothing; d's last value; its borrow; the cell; α has ended;
    -- nothing; what m's and d's holders keep]
    move ! (6 ∷ []) $ use1 𝓛 (‵ (fdead (α ∷ [])) ⊛ ‵ (fdead (α ∷ []))) (𝓛.lfts.dead_dup (α ∷ [])) $ split ! $ move ! (0 ∷ 9 ∷ 2 ∷ []) $
    use3 𝓛 (later (‵ ((MutRef (named 0) κ sto).own_val (record m { now = ws.1.0 }) ms) ⊛ ‵ (flft κ (right q))))
    (comes_back 𝓛 sto (named 0) κ (α ∷ []) (right q) m.ghost_name m.ref_ptr.0 m.ref_ptr.1 ε m.now ws.1.0) $ await ! tt $ split ! $ move ! (2 ∷ 9 ∷ 5 ∷ []) $
    use3 𝓛 (later (‵ ((MutRef (named 0) κ dyn).own_val (record d { now = ws.0 }) ds) ⊛ ‵ (flft κ (left q))))
    (comes_back 𝓛 dyn (named 0) κ (α ∷ []) (left q) d.ghost_name d.ref_ptr.0 d.ref_ptr.1 δ d.now ws.0) $ await ! tt $ split ! $
    rewrite ! 0 (λ (y : Tree). ‵ ((MutRef (named 0) κ dyn).own_val (record d { now = y }) ds)) d_same refl $
    rewrite ! 2 (λ (y : sto.Denot). ‵ ((MutRef (named 0) κ sto).own_val (record m { now = y }) ms)) m_same refl $
    move ! (1 ∷ 3 ∷ []) $ use2 𝓛 (‵ (flft κ q)) (𝓛.lfts.lft_join κ q) $
    -- [the token of κ; d; m; a borrow; nothing; a borrow; the cell; nothing]
    sets ! (addr ! (through ! refl (stop !))) refl (tt, tt) $
    let G₂ = triple_of 𝓛 g₂.signature (g₂.spec 𝓛 𝓜.mem 𝓡.returns) in
    let z₂ : G₂.Ghost = (((κ, tt), (q, tt), tt, (d, tt), (ds, tt)), tt) in
    nothing ! $ move ! (2 ∷ 0 ∷ []) $ join ! $ nothing ! $ move ! (2 ∷ 0 ∷ []) $ join ! $ join ! $ nothing ! $ move ! (1 ∷ 0 ∷ []) $ use2 𝓛 (raw (G₂.pre z₂)) (id⊢ 𝓤 _) $
    calls_at ! Fr G₂ (own_met.met 𝓤 𝓛 𝓜 𝓡 (code.calls-rhai_value::cells::whole::own_mut 𝓡.env wired)) z₂ (and_then ! (get ! refl) (no_more !)) (λ v₂.
    use1 𝓛 (later (some (λ (o : Option Own). ((‵ (flft κ q) ⊛ ‵ ftrue) ⊛ ‵ ((OwnOf κ).own_val o (v₂ ∷ []))) ⊛
    some (λ (ls : Lasts g₂.ended z₂.0.0 z₂.0.3). ‵ (lasts g₂.ended z₂.0.0 z₂.0.3 ls) ⊛ ‵ (follows_if dyn dyn d.ghost_name (name_if_some (λ w. w.value.ghost_name) o) (λ w. w) d.now)
    ⊛ raw (fact 𝓤 (option_map (λ w. w.value) o ≡ own_ref d)))))) (id⊢ 𝓤 _) $
    await ! tt $ pick ! (λ o. split ! $ split ! $ split ! $ move ! (2 ∷ []) $
    peeks ! (OwnOf κ) _ (shows 𝓛 (OwnOf κ)) o (v₂ ∷ []) (λ is₂. lands_as ! refl refl (((own_of_laws κ).lawful 𝓛).typed o (v₂ ∷ []) is₂).0 $
    move ! (3 ∷ []) $ pick ! (λ ls₂. split ! $ drop ! $ split ! $ move ! (1 ∷ []) $ heard ! _ (λ which.
    -- [what d follows; the value itself; the token; nothing; m; a borrow; nothing; a borrow; the cell; nothing]
    sets ! (addr ! (through ! refl (stop !))) refl (tt, tt) $
    let G₃ = triple_of 𝓛 g₃.signature (g₃.spec 𝓛 𝓜.mem 𝓡.returns) in
    let z₃ : G₃.Ghost = (((κ, tt), (q, tt), tt, (m, (x, tt)), (ms, (v₁ ∷ [], tt))), tt) in
    nothing ! $ move ! (9 ∷ 0 ∷ []) $ join ! $ move ! (5 ∷ 0 ∷ []) $ join ! $ nothing ! $ move ! (4 ∷ 0 ∷ []) $ join ! $ join ! $
    use0 𝓛 (raw (fact 𝓤 (IfSome x (λ k. k < length m.now)))) (fact_i 𝓤 _ (emp 𝓤) (is_within m.now d.now x cell)) $ move ! (1 ∷ 0 ∷ []) $ use2 𝓛 (raw (G₃.pre z₃)) (id⊢ 𝓤 _) $
    calls_at ! Fr G₃ (far_met.met 𝓤 𝓛 𝓜 𝓡 (code.calls-rhai_value::cells::store::Store::cell_content_mut 𝓡.env wired)) z₃ (and_then ! (get ! refl) (and_then ! (get ! refl) (no_more !))) (λ v₃.
    use1 𝓛 (later (some (λ (r : Option (MutBor Tree)). ((‵ (flft κ q) ⊛ ‵ ftrue) ⊛ ‵ ((RefOf κ).own_val r (v₃ ∷ []))) ⊛
    some (λ (ls : Lasts g₃.ended z₃.0.0 z₃.0.3). ‵ (lasts g₃.ended z₃.0.0 z₃.0.3 ls) ⊛ ‵ (follows_if sto dyn m.ghost_name (ghost_name_of r) (put_in x m.now) m.now)
    ⊛ raw (fact 𝓤 (option_map (λ e. e.now) r ≡ content_in x m.now)))))) (id⊢ 𝓤 _) $
    await ! tt $ pick ! (λ r. split ! $ split ! $ split ! $ move ! (2 ∷ []) $
    peeks ! (RefOf κ) _ (shows 𝓛 (RefOf κ)) r (v₃ ∷ []) (λ is₃. lands_as ! refl refl (((ref_of_laws κ).lawful 𝓛).typed r (v₃ ∷ []) is₃).0 $
    move ! (3 ∷ []) $ pick ! (λ ls₃. split ! $ drop ! $ split ! $ move ! (1 ∷ []) $ heard ! _ (λ value.
    -- [what m follows; what is in the cell; the token; nothing; what d follows; the value itself; ..]
    sets ! (of_opd ! (get ! refl)) refl (((own_of_laws κ).lawful 𝓛).typed o (v₂ ∷ []) is₂).0 $
    sets ! (of_opd ! (get ! refl)) refl (((ref_of_laws κ).lawful 𝓛).typed r (v₃ ∷ []) is₃).0 $
    let G₄ = triple_of 𝓛 g₄.signature (g₄.spec 𝓛 𝓜.mem 𝓡.returns) in
    let z₄ : G₄.Ghost = (((κ, tt), (q, tt), tt, (o, (r, tt)), (v₂ ∷ [], (v₃ ∷ [], tt))), tt) in
    nothing ! $ move ! (2 ∷ 0 ∷ []) $ join ! $ move ! (5 ∷ 0 ∷ []) $ join ! $ nothing ! $ move ! (3 ∷ 0 ∷ []) $ join ! $ join ! $ nothing ! $ move ! (1 ∷ 0 ∷ []) $ use2 𝓛 (raw (G₄.pre z₄)) (id⊢ 𝓤 _) $
    calls_at ! Fr G₄ (either_met.met 𝓤 𝓛 𝓜 𝓡 (code.calls-rhai_value::cells::whole::either 𝓡.env wired)) z₄ (and_then ! (get ! refl) (and_then ! (get ! refl) (no_more !))) (λ v₄.
    use1 𝓛 (later (some (λ (p : Option (MutBor Tree)). ((‵ (flft κ q) ⊛ ‵ ftrue) ⊛ ‵ ((RefOf κ).own_val p (v₄ ∷ []))) ⊛
    some (λ (ls : Lasts g₄.ended z₄.0.0 z₄.0.3). ‵ (lasts g₄.ended z₄.0.0 z₄.0.3 ls) ⊛ raw (fact 𝓤 (p ≡ either_of (option_map (λ w. w.value) o) r)))))) (id⊢ 𝓤 _) $
    await ! tt $ pick ! (λ p. split ! $ split ! $ split ! $ move ! (2 ∷ []) $
    peeks ! (RefOf κ) _ (shows 𝓛 (RefOf κ)) p (v₄ ∷ []) (λ is₄. lands_as ! refl refl (((ref_of_laws κ).lawful 𝓛).typed p (v₄ ∷ []) is₄).0 $
    move ! (3 ∷ []) $ pick ! (λ ls₄. split ! $ drop ! $ heard ! _ (λ one.
    -- [the returned borrow; the token; nothing; what m follows; nothing; what d follows; ..]
    let y = option_map (λ w. w.value) o in
    returns ! (look_at ! 0 refl) $ free_all ! refl $ keep ! (0 ∷ 1 ∷ 3 ∷ 5 ∷ []) $
    suffices ! _ (ends_at 𝓛 f.ended stayed c ((κs, qs, bounds, a, (ds, (ms, tt))), tt) v₄ p (tt, (tt, tt)) (tt, (tt, tt))) $
    rewrite ! 2 (λ (F : Fml). ‵ F) (far_side m d x y r p cell value which one) refl $
    rewrite ! 3 (λ (n : maybe.Option GName). ‵ (follows_if dyn dyn d.ghost_name n (λ w. w) d.now)) (sym (own_name o)) refl $
    rewrite ! 3 (λ (F : Fml). ‵ F) (own_side d y r p which one) refl $
    move ! (3 ∷ 2 ∷ []) $ fjoin ! $ move ! (1 ∷ 2 ∷ 0 ∷ []) $
    nothing ! $ nothing ! $ join ! $ nothing ! $ join ! $ join ! $ nothing ! $ move ! (2 ∷ 0 ∷ []) $ join ! $ join ! $ frame ! $ frame ! $
    says ! (is_own d y r p which one) $ by ! (fact_i 𝓤 _ _ (is_found m.now d x y r p cell value which one)))))))))))))))))))))))))))))
