-- `into_loose` moves an address and a handle; there is a value, and what it owns is moved with
-- them.
use Rattle.std.proofs.Common.{List, [], ◌∷◌, ◌++◌, refl, sym, subst}
use mir.Val.{Val}
use base.Logic.{SProp, ent, id⊢}
use base.Fml.{ftrue, fsep}
use prog.Wp.{WpFn}
use types.Kit.{‵, raw, ◌⊛◌, ◌$◌, ◌∵◌, !, qed, done, move, keep, drop, use1, split, join, fsplit, fjoin, rewrite, suffices}
use types.Part.{whole, sub, agg}
use types.Run.{stop, fld, no_more, and_then, of_opd, returns, enter}
use types.ByLocal.{alloc_all, pass_all, free_all, look_at, get, get_in, sets}
use contract.Running.{tables}
use denote.Exit.{yes}
use denote.RattleType.{RattleType}
use contract.Monad.{fact}
use denote.Steps.{nothing, heard}
use denote.Triple.Walked.{Stays, says, stay_dropped, Goes-dropped, walk_of, ends_at}
use Rattle.std.specs.Prelude.{Option}
use Rattle.rhai_host.specs.Owned.{is_full}
use Rattle.std.proofs.raw_atomic.Walks.{proved_at}
use Rattle.std_alloc.proofs.BoxSteps.Form.{D, X, B, word, box_typed}
use Rattle.std_alloc.proofs.BoxSteps.Steps.{box_out, box_in}
use Rattle.std.specs.contracts.alloc.Global as heap
use Rattle.std.specs.contracts.impls.GlobalAllocator.TheImpl.{ghosts}
use Rattle.rhai_host.specs.contracts.handle.kept.Kept as kept
use Rattle.rhai_host.specs.contracts.handle.loose.Loose as loose
use Rattle.rhai_host.specs.contracts.handle.address.Held as held
use Rattle.rhai_host.specs.contracts.handle.address.Held.into_loose as f
use Rattle.rhai_host.proofs.handle.address.Held.into_loose.Statement.{statement}
use Rattle.rhai_host.proofs.handle.address.Held.into_loose.Code as code
use Rattle.rhai_host.proofs.Boxed.{E, FromHeld, content}

abbrev From : RattleType
From = held.the_row

abbrev To : RattleType
To = loose.the_row kept.the_row heap.the_row ghosts

abbrev stayed : Stays f.ended.signature.params f.ended.kept
stayed = (stay_dropped FromHeld yes, tt)

pub into_loose_spec : {M : Type 1} → statement M
into_loose_spec 𝓤 𝓛 𝓜 𝓡 wired =
    let c = f.clauses 𝓛 𝓜.mem 𝓡.returns in let W = walk_of 𝓛 f.ended stayed c in let 𝓣 = tables 𝓤 𝓛.H 𝓜 𝓡 𝓡.env in
    proved_at 𝓛 f.ended stayed c 𝓜 𝓡 (Goes-dropped 𝓛 0 FromHeld yes (λ κs x w. refl), tt)
    f.Key.name code.function (code.unfolded 𝓤 𝓛.H 𝓜 𝓡 wired) (λ y are.
    let l = y.0.3.0 in
    let Runs : List Val → SProp 𝓤 = λ vs. WpFn 𝓤 𝓛.H 𝓣.C 𝓣.Λ code.function vs (W.post y) in
    qed 𝓛 ((‵ ftrue ⊛ ‵ (fsep (From.own_val l y.0.4.0) ftrue)) ∷ raw (fact 𝓤 (is_full l.value)) ∷ []) ∵
    split ! $ drop ! $ fsplit ! $ move ! (2 ∷ []) $ heard ! _ (λ full. let x = (content l.value full).0 in let is = (content l.value full).1 in
    rewrite ! 0 (λ (o : Option (X E)). ‵ (From.own_val (record l { value = o }) y.0.4.0)) is refl $
    let boxed : D E = record { ptr = l.at; alloc = l.alloc; value = x } in
    let made : To.Denot = record { at = l.at; alloc = l.alloc; value = x } in
    use1 𝓛 (‵ ((B E).own_val boxed y.0.4.0)) (id⊢ 𝓤 _) $
    box_out E ! boxed y.0.4.0 (λ b o h at_b words fits. box_in E ! boxed b o x at_b refl $ keep ! (0 ∷ []) $
    let two = word E h b o in
    use1 𝓛 (‵ (To.own_val made (two ∷ []))) (id⊢ 𝓤 _) $
    suffices ! (Runs (two ∷ [])) (subst (λ (vs : List Val). ent 𝓤 (Runs (two ∷ [])) (Runs (vs ++ []))) (sym words) (id⊢ 𝓤 _)) $
    enter ! _ _ _ _ _ $ alloc_all ! (λ ls. pass_all ! refl (box_typed E h b o fits, tt) $
    sets ! (of_opd ! (get_in ! (fld ! refl (stop !)) (sub ! 0 refl (whole !)))) refl (tt, tt) $
    sets ! (of_opd ! (get_in ! (fld ! refl (stop !)) (sub ! 1 refl (whole !)))) refl fits $
    sets ! (of_opd ! (get ! refl)) refl (tt, tt) $
    sets ! (agg ! (and_then ! (get ! refl) (and_then ! (get ! refl) (no_more !)))) refl (box_typed E h b o fits) $
    returns ! (look_at ! 0 refl) $ free_all ! refl $
    suffices ! _ (ends_at 𝓛 f.ended stayed c y two made (tt, tt) (tt, tt)) $ says ! (sym is) $
    nothing ! $ nothing ! $ fjoin ! $ join ! $ nothing ! $ join ! $ done !))))
