-- `into_box` makes the box again by a call, from the two parts and what is at the address.
use Rattle.std.proofs.Common.{◌≡◌, T, List, [], ◌∷◌, ◌++◌, refl, sym, ap, subst}
use mir.Syntax.{a_type, dcons, dnil}
use mir.MapTy.{inst_fn}
use mir.Val.{Val, vptr, has_ty, WT}
use base.Logic.{SProp, ent, id⊢}
use base.Fml.{ftrue, fsep, flft}
use prog.Wp.{WpFn}
use types.Kit.{Item, ‵, raw, ◌⊛◌, some, later, at_ret, ◌$◌, ◌∵◌, !, qed, done, move, drop, use1, feq_i, rewrite, group, fjoin3, split, split3, join, fsplit, fjoin, pick, await, suffices}
use types.Part.{whole, sub}
use types.Run.{stop, fld, no_more, and_then, of_opd, first, blocks, exec, returns, enter}
use types.ByLocal.{alloc_all, pass_all, free_all, look_at, get, get_in, sets, lands_last, env}
use contract.BorrowLft.{◌⊑◌}
use contract.Monad.{fact}
use contract.Running.{tables}
use denote.Exit.{no}
use denote.Param.{bounded}
use denote.RattleType.{RattleType}
use denote.RawPtr.{block_ptr}
use denote.Signature.{plain}
use denote.Steps.{nothing, heard, only}
use denote.Triple.Call.{calls_at_last}
use denote.Triple.Spec.{triple_of}
use denote.Triple.Walked.{Stays, says, stay_dropped, walk_of, ends_at}
use Rattle.core.proofs.alloc.Calls.{Goes-blank}
use Rattle.core.proofs.atomic.Steps.{fm}
use Rattle.std.proofs.raw_atomic.Walks.{proved_at}
use Rattle.std_alloc.proofs.BoxSteps.Form.{Bx, D, R, P, B, box_ty, word, box_typed}
use Rattle.std_alloc.proofs.BoxSteps.Steps.{box_out, box_in}
use Rattle.std_alloc.specs.contracts.boxed.Box.from_raw as together
use Rattle.std_alloc.proofs.boxed.Box.from_raw.Met.{met}
use Rattle.rhai_host.specs.contracts.handle.loose.Loose as loose
use Rattle.std_alloc.proofs.VecSteps.Shapes.{after}
use Rattle.rhai_host.specs.contracts.handle.loose.Loose.into_box as f
use Rattle.rhai_host.proofs.handle.loose.Loose.into_box.Statement.{statement}
use Rattle.rhai_host.proofs.handle.loose.Loose.into_box.Code as code

pub into_box_spec : {M : Type 1} → statement M
into_box_spec 𝓤 𝓛 𝓜 𝓡 wired Row A LT LA g d dt da allocator drops_t drops_a =
    let E : Bx = record { row = Row; laws = LT; al = record { row = A; laws = LA; g = g; d = d; drops = da } } in
    let F = f.ended Row A g d dt da in let c = f.clauses Row A g d dt da 𝓛 𝓜.mem 𝓡.returns in
    let inst = bounded (a_type ∷ a_type ∷ []) (Row, (A, tt)) (dcons d (dcons dt (dcons da dnil))) in let fn = inst_fn inst code.function in
    let From : RattleType = loose.the_row (R E) (P E) g in let stayed : Stays F.signature.params F.kept = (stay_dropped (plain (λ _. From)) no, tt) in
    let W = walk_of 𝓛 F stayed c in let 𝓣 = tables 𝓤 𝓛.H 𝓜 𝓡 𝓡.env in
    let Together = triple_of 𝓛 (together.signature Row A g d da) (together.spec Row A g d da 𝓛 𝓜.mem 𝓡.returns) in
    let is_met = met 𝓤 𝓛 𝓜 𝓡 (code.calls-std_alloc::boxed::Box::from_raw 𝓡.env wired) Row A LT LA g d da allocator drops_a in
    proved_at 𝓛 F stayed c 𝓜 𝓡 (Goes-blank 𝓛 2 (plain (λ _. From)) no (λ κs x w. tt), tt)
    (f.Key.name inst) fn (code.unfolded 𝓤 𝓛.H 𝓜 𝓡 wired (Row, (A, tt)) d dt da) (λ y are.
    let κs = y.0.0 in let qs = y.0.1 in let l = y.0.3.0 in let x = l.value in let a = l.alloc in
    let boxed : D E = record { ptr = l.at; alloc = a; value = x } in
    let tokens : Item 𝓤 = ‵ (flft κs.0 qs.0) ⊛ ‵ (flft κs.1.0 qs.1.0) ⊛ ‵ ftrue in
    let lives : Item 𝓤 = raw (fact 𝓤 (κs.0 ⊑ Row.lives)) ⊛ raw (fact 𝓤 (κs.1.0 ⊑ A.lives)) ⊛ ‵ ftrue in
    let Runs : List Val → SProp 𝓤 = λ vs. WpFn 𝓤 𝓛.H 𝓣.C 𝓣.Λ fn vs (W.post y) in
    qed 𝓛 ((tokens ⊛ ‵ (fsep ((B E).own_val boxed y.0.4.0) ftrue)) ∷ lives ∷ []) ∵ split ! $ move ! (1 ∷ []) $ fsplit ! $
    box_out E ! boxed y.0.4.0 (λ b o h at_b words fits.
    -- [the value; the right to free; the handle; nothing; the tokens; the lifetimes of the
    -- parameters]
    let two = word E h b o in
    suffices ! (Runs (two ∷ [])) (subst (λ (vs : List Val). ent 𝓤 (Runs (two ∷ [])) (Runs (vs ++ []))) (sym words) (id⊢ 𝓤 _)) $
    enter ! _ _ _ _ _ $ alloc_all ! (λ ls. pass_all ! refl (box_typed E h b o fits, tt) $
    sets ! (of_opd ! (get_in ! (fld ! refl (stop !)) (sub ! 0 refl (whole !)))) refl (tt, tt) $
    sets ! (of_opd ! (get_in ! (fld ! refl (stop !)) (sub ! 1 refl (whole !)))) refl fits $
    first ! $ blocks ! $ sets ! (of_opd ! (get ! refl)) refl fits $
    let z : Together.Ghost = ((κs, qs, tt, (a, (block_ptr b o, tt)), (h ∷ [], (vptr b o ∷ [], tt))), x) in
    -- what the call requires, from its end
    fjoin ! $ move ! (4 ∷ []) $ split3 ! $ move ! (2 ∷ []) $ drop ! $ group ! 3 $
    feq_i ! (List Val) (vptr b o ∷ []) (vptr b o ∷ []) refl $ move ! (2 ∷ 0 ∷ 3 ∷ []) $ fjoin3 ! $ move ! (2 ∷ 0 ∷ []) $ join ! $ join ! $
    use1 𝓛 (raw (Together.pre z)) (id⊢ 𝓤 _) $
    calls_at_last ! (fm 𝓛 𝓜 𝓡) Together is_met z (and_then ! (get ! refl) (and_then ! (get ! refl) (no_more !))) (λ u.
    use1 𝓛 (later (some (λ (r : D E). (tokens ⊛ ‵ ((B E).own_val r (u ∷ []))) ⊛
    some (λ (_ : Unit {0} × (Unit {0} × Unit {0})). ‵ (fsep ftrue (fsep ftrue ftrue)) ⊛ (raw (fact 𝓤 (r.value ≡ x)) ⊛ raw (fact 𝓤 (r.alloc ≡ a))))))) (id⊢ 𝓤 _) $
    await ! tt $ pick ! (λ r. split ! $ move ! (1 ∷ []) $ pick ! (λ _. split3 ! $ drop ! $ heard ! _ (λ same. drop ! $ split ! $ move ! (1 ∷ []) $
    box_out E ! r (u ∷ []) (λ b' o' h' at_b' words' fits'. box_in E ! r b' o' r.value at_b' refl $
    -- [the box; the tokens]
    let typed : T (has_ty (box_ty E) u) × WT u = subst (λ (v : Val). T (has_ty (box_ty E) v) × WT v) (sym (ap only words')) (box_typed E h' b' o' fits') in
    rewrite ! 0 (λ (vs : List Val). ‵ ((B E).own_val r vs)) (sym words') refl $
    lands_last ! refl typed $ exec ! 𝓣.C 𝓣.Λ (env fn.locals ls) (after 3 fn.body) (at_ret _ (W.post y)) $
    sets ! (of_opd ! (get ! refl)) refl typed $ returns ! (look_at ! 0 refl) $ free_all ! refl $
    suffices ! _ (ends_at 𝓛 F stayed c y u r ((tt, (tt, tt)), tt) (tt, tt)) $ says ! same $
    nothing ! $ nothing ! $ fjoin ! $ join ! $ move ! (1 ∷ 0 ∷ []) $ join ! $ done !))))))))
