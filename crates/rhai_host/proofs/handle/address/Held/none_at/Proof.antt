-- `none_at` joins an address and a handle, and owns nothing except the handle.
use Rattle.std.proofs.Common.{◌≡◌, ◌&&◌, T, true, false, List, [], ◌∷◌, ◌++◌, refl, sym, ap, ◌∙◌, subst}
use mir.Val.{Val, vstruct, vcons, vnil, has_ty, WT}
use base.Logic.{SProp, ent, emp, id⊢}
use base.Fml.{ftrue}
use prog.Wp.{WpFn}
use types.Kit.{‵, raw, ◌⊛◌, ◌$◌, ◌∵◌, !, qed, done, move, keep, drop, use1, split, join, fsplit, fjoin, fpack, feq_i, feq_l, suffices}
use types.Part.{agg}
use types.Run.{no_more, and_then, returns, enter}
use types.ByLocal.{alloc_all, pass_all, free_all, look_at, get, sets}
use contract.Running.{tables}
use denote.Exit.{yes}
use denote.RattleType.{RattleType, Valss, owns}
use denote.RawPtr.{Ptr, RawPtr, ptr_val}
use denote.Signature.{plain}
use denote.Steps.{nothing}
use denote.Struct.Owning.{shape}
use denote.Struct.Struct.{within}
use denote.Triple.Walked.{Stays, says, stay_dropped, Goes-dropped, walk_of, ends_at}
use Rattle.core.proofs.alloc.Calls.{handle_tells}
use Rattle.core.proofs.atomic.Steps.{Ptr-Good}
use Rattle.std.specs.Prelude.{None}
use Rattle.std.proofs.raw_atomic.Walks.{proved_at}
use Rattle.std.specs.contracts.alloc.Global as heap
use Rattle.std_alloc.proofs.BoxSteps.Form.{P, owning, box_ty}
use Rattle.rhai_host.specs.contracts.handle.address.Held as held
use Rattle.rhai_host.specs.contracts.handle.address.Held.none_at as f
use Rattle.rhai_host.proofs.handle.address.Held.none_at.Statement.{statement}
use Rattle.rhai_host.proofs.handle.address.Held.none_at.Code as code
use Rattle.rhai_host.proofs.Boxed.{E}

abbrev Z : RattleType
Z = heap.the_row

abbrev To : RattleType
To = held.the_row

abbrev stayed : Stays f.ended.signature.params f.ended.kept
stayed = (stay_dropped (plain (λ _. Z)) yes, (stay_dropped (plain (λ _. RawPtr)) yes, tt))

both : (x y : Rattle.std.proofs.Common.Bool) → T x → T y → T (x && (y && true))
both true true p q = tt
both true false p q = absurd q
both false y p q = absurd p

pub none_at_spec : {M : Type 1} → statement M
none_at_spec 𝓤 𝓛 𝓜 𝓡 wired =
    let c = f.clauses 𝓛 𝓜.mem 𝓡.returns in let W = walk_of 𝓛 f.ended stayed c in let 𝓣 = tables 𝓤 𝓛.H 𝓜 𝓡 𝓡.env in
    proved_at 𝓛 f.ended stayed c 𝓜 𝓡 (Goes-dropped 𝓛 0 (plain (λ _. Z)) yes (λ κs x w. refl), (Goes-dropped 𝓛 0 (plain (λ _. RawPtr)) yes (λ κs x w. refl), tt))
    f.Key.name code.function (code.unfolded 𝓤 𝓛.H 𝓜 𝓡 wired) (λ y are.
    let a = y.0.3.0 in let p : Ptr = y.0.3.1.0 in let us = y.0.4.0 in let vs = y.0.4.1.0 in
    let made : To.Denot = record { at = p; alloc = a; value = None } in
    let Runs : List Val → SProp 𝓤 = λ ws. WpFn 𝓤 𝓛.H 𝓣.C 𝓣.Λ code.function ws (W.post y) in
    qed 𝓛 ((‵ ftrue ⊛ ‵ (owns (Z ∷ RawPtr ∷ []) (a, (p, tt)) (us, (vs, tt)))) ∷ raw (emp 𝓤) ∷ []) ∵ split ! $ drop ! $ fsplit ! $
    handle_tells E.al ! a us (λ h handle_is fits. move ! (1 ∷ []) $ fsplit ! $ feq_l ! (λ address_is. move ! (1 ∷ []) $ keep ! (0 ∷ []) $
    let args = λ (ws zs : List Val). Runs (ws ++ (zs ++ [])) in let two : Val = vstruct (vcons (ptr_val p) (vcons h vnil)) in
    let typed : T (has_ty (box_ty E) two) × WT two = (both _ _ (Ptr-Good p).0 fits.0, ((Ptr-Good p).1, (fits.1, tt))) in
    suffices ! (args (h ∷ []) (ptr_val p ∷ [])) (subst (λ (ws : List Val). ent 𝓤 (args (h ∷ []) (ptr_val p ∷ [])) (args ws vs)) (sym handle_is)
    (subst (λ (zs : List Val). ent 𝓤 (args (h ∷ []) (ptr_val p ∷ [])) (args (h ∷ []) zs)) (sym address_is) (id⊢ 𝓤 _))) $
    enter ! _ _ _ _ _ $ alloc_all ! (λ ls. pass_all ! refl (fits, (Ptr-Good p, tt)) $
    sets ! (agg ! (and_then ! (get ! refl) (and_then ! (get ! refl) (no_more !)))) refl typed $
    returns ! (look_at ! 0 refl) $ free_all ! refl $
    -- [the handle]
    nothing ! $ nothing ! $ move ! (2 ∷ 0 ∷ []) $ fjoin ! $ feq_i ! (List Val) (ptr_val p ∷ []) (ptr_val p ∷ []) refl $ fjoin ! $ feq_i ! (List Val) (two ∷ []) (two ∷ []) refl $ fjoin ! $
    fpack ! (Valss (RawPtr ∷ P E ∷ [])) (within (shape (owning E)) (p, (a, tt)) (two ∷ [])) (ptr_val p ∷ [], (h ∷ [], tt)) $ fjoin ! $ use1 𝓛 (‵ (To.own_val made (two ∷ []))) (id⊢ 𝓤 _) $
    suffices ! _ (ends_at 𝓛 f.ended stayed c y two made (tt, (tt, tt)) (tt, (tt, tt))) $ says ! refl $
    nothing ! $ nothing ! $ fjoin ! $ nothing ! $ fjoin ! $ join ! $ nothing ! $ join ! $ done !))))
