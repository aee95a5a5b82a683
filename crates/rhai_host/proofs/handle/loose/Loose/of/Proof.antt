-- `of` takes a box apart by a call, and what is at its address is moved with the two parts.
use Rattle.std.proofs.Common.{◌≡◌, List, [], ◌∷◌, ◌++◌, refl, sym, subst}
use mir.Syntax.{a_type, dcons, dnil}
use mir.MapTy.{inst_fn}
use mir.Val.{Val}
use base.Logic.{SProp, ent, id⊢}
use base.Fml.{ftrue, fsep, flft}
use prog.Wp.{WpFn}
use types.Kit.{Item, ‵, raw, ◌⊛◌, some, later, ◌$◌, ◌∵◌, !, qed, done, move, drop, use1, split, split3, join, fsplit, fjoin, pick, await, suffices}
use types.Part.{whole, sub, agg}
use types.Run.{stop, fld, no_more, and_then, of_opd, returns, enter}
use types.ByLocal.{alloc_all, pass_all, free_all, look_at, get, get_in, sets, lands_as}
use contract.BorrowLft.{◌⊑◌}
use contract.Monad.{fact}
use contract.Running.{tables}
use denote.Exit.{no}
use denote.Param.{bounded}
use denote.RattleType.{RattleType}
use denote.RawPtr.{Ptr, RawPtr, block_ptr}
use denote.Signature.{plain}
use denote.Steps.{nothing, heard}
use denote.Struct.Tuple.{Tuple}
use denote.Triple.Call.{calls_at}
use denote.Triple.Spec.{triple_of}
use denote.Triple.Walked.{Stays, says, stay_dropped, walk_of, ends_at}
use Rattle.core.proofs.alloc.Calls.{Goes-blank, token}
use Rattle.core.proofs.atomic.Steps.{fm}
use Rattle.std.proofs.raw_atomic.Walks.{proved_at}
use Rattle.std_alloc.specs.Box.Ownership.{box_owns}
use Rattle.std_alloc.proofs.BoxSteps.Form.{Bx, R, P, B, word, box_typed}
use Rattle.std_alloc.proofs.BoxSteps.Steps.{box_out, box_in}
use Rattle.std_alloc.specs.contracts.boxed.Box.into_raw_with_allocator as apart
use Rattle.std_alloc.proofs.boxed.Box.into_raw_with_allocator.Met.{met}
use Rattle.rhai_host.specs.contracts.handle.loose.Loose as loose
use Rattle.rhai_host.specs.contracts.handle.loose.Loose.of as f
use Rattle.rhai_host.proofs.handle.loose.Loose.of.Statement.{statement}
use Rattle.rhai_host.proofs.handle.loose.Loose.of.Code as code
use Rattle.rhai_host.proofs.Pair.{box_of_pair}

pub of_spec : {M : Type 1} → statement M
of_spec 𝓤 𝓛 𝓜 𝓡 wired T A LT LA g d dt da allocator drops_t drops_a =
    let E : Bx = record { row = T; laws = LT; al = record { row = A; laws = LA; g = g; d = d; drops = da } } in
    let F = f.ended T A g d dt da in let c = f.clauses T A g d dt da 𝓛 𝓜.mem 𝓡.returns in
    let inst = bounded (a_type ∷ a_type ∷ []) (T, (A, tt)) (dcons d (dcons dt (dcons da dnil))) in let fn = inst_fn inst code.function in
    let stayed : Stays F.signature.params F.kept = (stay_dropped (plain (λ _. B E)) no, tt) in
    let W = walk_of 𝓛 F stayed c in let 𝓣 = tables 𝓤 𝓛.H 𝓜 𝓡 𝓡.env in let To : RattleType = loose.the_row (R E) (P E) g in
    let Apart = triple_of 𝓛 (apart.signature T A g d da dt) (apart.spec T A g d da dt 𝓛 𝓜.mem 𝓡.returns) in
    let is_met = met 𝓤 𝓛 𝓜 𝓡 (code.calls-std_alloc::boxed::Box::into_raw_with_allocator 𝓡.env wired) T A LT LA g d da dt allocator drops_a drops_t in
    proved_at 𝓛 F stayed c 𝓜 𝓡 (Goes-blank 𝓛 2 (plain (λ _. B E)) no (λ κs x w. tt), tt)
    (f.Key.name inst) fn (code.unfolded 𝓤 𝓛.H 𝓜 𝓡 wired (T, (A, tt)) d dt da) (λ y are.
    let κs = y.0.0 in let qs = y.0.1 in let v = y.0.3.0 in let x = v.value in let a = v.alloc in
    let tokens : Item 𝓤 = ‵ (flft κs.0 qs.0) ⊛ ‵ (flft κs.1.0 qs.1.0) ⊛ ‵ ftrue in
    let lives : Item 𝓤 = raw (fact 𝓤 (κs.0 ⊑ T.lives)) ⊛ raw (fact 𝓤 (κs.1.0 ⊑ A.lives)) ⊛ ‵ ftrue in
    let Runs : List Val → SProp 𝓤 = λ vs. WpFn 𝓤 𝓛.H 𝓣.C 𝓣.Λ fn vs (W.post y) in
    qed 𝓛 ((tokens ⊛ ‵ (fsep ((B E).own_val v y.0.4.0) ftrue)) ∷ lives ∷ []) ∵ split ! $ move ! (1 ∷ []) $ fsplit ! $
    box_out E ! v y.0.4.0 (λ b o h at_b words fits. box_in E ! v b o x at_b refl $
    let whole_box = word E h b o in
    suffices ! (Runs (whole_box ∷ [])) (subst (λ (vs : List Val). ent 𝓤 (Runs (whole_box ∷ [])) (Runs (vs ++ []))) (sym words) (id⊢ 𝓤 _)) $
    enter ! _ _ _ _ _ $ alloc_all ! (λ ls. pass_all ! refl (box_typed E h b o fits, tt) $
    sets ! (of_opd ! (get ! refl)) refl (box_typed E h b o fits) $
    -- [the box; nothing; the tokens; the lifetimes of the parameters]
    let z : Apart.Ghost = ((κs, qs, tt, (v, tt), (whole_box ∷ [], tt)), tt) in
    fjoin ! $ move ! (1 ∷ 0 ∷ []) $ join ! $ join ! $ use1 𝓛 (raw (Apart.pre z)) (id⊢ 𝓤 _) $
    calls_at ! (fm 𝓛 𝓜 𝓡) Apart is_met z (and_then ! (get ! refl) (no_more !)) (λ u.
    use1 𝓛 (later (some (λ (r : Ptr × A.Denot). (tokens ⊛ ‵ ((Tuple (RawPtr ∷ P E ∷ [])).own_val r (u ∷ []))) ⊛
    some (λ (_ : (Unit {0} × (Unit {0} × Unit {0})) × Unit {0}). ‵ (fsep (fsep ftrue (fsep ftrue ftrue)) ftrue) ⊛ (raw (fact 𝓤 (r.1 ≡ a)) ⊛ ‵ (box_owns (token E.al a) (R E) r.0 x)))))) (id⊢ 𝓤 _) $
    await ! tt $ pick ! (λ r. split ! $ move ! (1 ∷ []) $ pick ! (λ _. split3 ! $ drop ! $ heard ! _ (λ same. move ! (1 ∷ []) $ split ! $ move ! (1 ∷ 2 ∷ []) $
    box_of_pair E ! a x r u same (λ b' o' h' word_is fits'.
    let typed = box_typed E h' b' o' fits' in let made : To.Denot = record { at = block_ptr b' o'; alloc = a; value = x } in
    lands_as ! word_is refl typed $
    sets ! (of_opd ! (get_in ! (fld ! refl (stop !)) (sub ! 0 refl (whole !)))) refl (tt, tt) $
    sets ! (of_opd ! (get_in ! (fld ! refl (stop !)) (sub ! 1 refl (whole !)))) refl fits' $
    sets ! (of_opd ! (get ! refl)) refl fits' $
    sets ! (agg ! (and_then ! (get ! refl) (and_then ! (get ! refl) (no_more !)))) refl typed $
    returns ! (look_at ! 0 refl) $ free_all ! refl $
    -- [the box; the tokens]
    use1 𝓛 (‵ (To.own_val made (word E h' b' o' ∷ []))) (id⊢ 𝓤 _) $
    suffices ! _ (ends_at 𝓛 F stayed c y (word E h' b' o') made ((tt, (tt, tt)), tt) (tt, tt)) $ says ! refl $
    nothing ! $ nothing ! $ fjoin ! $ join ! $ move ! (1 ∷ 0 ∷ []) $ join ! $ done !))))))))
