-- `take_ref` returns a reference, or releases it and leaves its value unchanged.
use Rattle.rhai_target.proofs.Steps.{◌≡◌, [], ◌∷◌, List, Option, None, refl, sym, subst, MutBor, proved_at, Ura, full_share, emp, id⊢, ent, via, Lft, GName, Share, ftrue, flft, named, Val, fact, fact_i, tables, Running, Model, Wired, WpFn, Logic, ‵, raw, ◌⊛◌, some, later, ◌$◌, ◌∵◌, !, qed, by, move, keep, use0, use1, use2, use3, split, split3, join, fsplit, fpick, feq_l, pick, await, rewrite, suffices, frame, group, whole, sub, enter, of_opd, addr, stop, fld, no_more, and_then, returns, alloc_all, pass_all, free_all, look_at, get, get_in, through, sets, lands_as, lft_new, lft_end, no, rest, shows, Is, lends_again, comes_back, LentAgain, MutRef, mut_vals, mut_Tells, plain, nothing, heard, peeks, Lone, calls_at, Clauses, Lasts, lasts, triple_of, Contract, framed, Stays, says, stay_dropped, stay_ref, Goes-ref, walk_of, ends_at}
use Rattle.rhai_value.specs.declared.cells.store.Cell.{Cell}
use Rattle.rhai_value.specs.Tree.{Tree}
use Rattle.rhai_value.specs.contracts.cells.store.Store as store
use Rattle.rhai_target.specs.declared.target.Target.{Target}
use Rattle.rhai_target.specs.Target.{reference_in, mark_in, IsMarkedIn, unmarked_from}
use Rattle.rhai_target.specs.Spent.{source_of, Leaves, let_go}
use Rattle.rhai_target.proofs.LetGo.{TargetOf, target_of_laws, RefOf, ref_of_laws, Beside, typed, Parts, opened, settled, IsKept, reference_is_kept, source_left, quiet}
use Rattle.rhai_target.specs.contracts.spent.reference_out as g
use Rattle.rhai_target.proofs.spent.reference_out.Met.{met}
use Rattle.rhai_target.specs.contracts.target.Target.take_ref as f
use Rattle.rhai_target.proofs.target.Target.take_ref.Statement.{statement}
use Rattle.rhai_target.proofs.target.Target.take_ref.Code as code

abbrev stayed : Stays f.ended.signature.params f.ended.kept
stayed = (stay_dropped _ no, (stay_ref (1 ∷ []) tt (plain (λ _. store.the_row)), tt))

module _ {M : Type 1} {𝓤 : Ura M} (𝓛 : Logic 𝓤) (𝓜 : Model 𝓤 𝓛.H) (𝓡 : Running 𝓤 𝓛.H 𝓜) (wired : Wired 𝓡.env code.code) (κ μ : Lft) (q p : Share) (d : Target) (m : MutBor (List Cell)) where
  abbrev c : Clauses 𝓤 f.ended
  c = f.clauses 𝓛 𝓜.mem 𝓡.returns

  abbrev W : Contract 𝓤
  W = walk_of 𝓛 f.ended stayed c

  abbrev At : List Val → List Val → W.Ghost
  At vs ms = (((κ, (μ, tt)), (q, (p, tt)), tt, (d, (m, tt)), (vs, (ms, tt))), tt)

  walk : (vs : List Val) → Lone vs → Is (TargetOf κ) d vs
      → ent 𝓤 (W.pre (At vs (mut_vals m))) (WpFn 𝓤 𝓛.H (tables 𝓤 𝓛.H 𝓜 𝓡 𝓡.env).C (tables 𝓤 𝓛.H 𝓜 𝓡 𝓡.env).Λ code.function (W.args (At vs (mut_vals m))) (W.post (At vs (mut_vals m))))
  walk [] one is = absurd one
  walk (v ∷ u ∷ us) one is = absurd one
  walk (v ∷ []) one is =
      let fits = (((target_of_laws κ).lawful 𝓛).typed d (v ∷ []) is).0 in
      let ms = mut_vals m in
      let R = RefOf κ in let L = ref_of_laws κ in
      let G = triple_of 𝓛 g.signature (g.spec 𝓛 𝓜.mem 𝓡.returns) in
      qed 𝓛 (((‵ (flft κ q) ⊛ ‵ (flft μ p) ⊛ ‵ ftrue) ⊛ ‵ ((TargetOf κ).own_val d (v ∷ [])) ⊛ ‵ ((MutRef (named 1) μ store.the_row).own_val m ms) ⊛ ‵ ftrue) ∷ raw (fact 𝓤 (IsMarkedIn m.now d)) ∷ []) ∵
      split ! $ split3 ! $ move ! (4 ∷ []) $ heard ! _ (λ marked. move ! (3 ∷ []) $ split3 ! $ keep ! (0 ∷ 1 ∷ 3 ∷ 4 ∷ []) $
      enter ! _ _ _ _ _ $ alloc_all ! (λ l. pass_all ! refl (fits, ((tt, tt), tt)) $
      -- [the target; m; the token of κ; that of μ]
      sets ! (of_opd ! (get ! refl)) refl fits $
      sets ! (addr ! (through ! refl (stop !))) refl (tt, tt) $
      lft_new ! tt (λ α. move ! (2 ∷ 4 ∷ []) $
      use2 𝓛 (later (some (λ (δ : GName). ‵ ((MutRef (named 1) (α ∷ []) store.the_row).own_val (record m { ghost_name = δ }) ms) ⊛ ‵ (LentAgain store.the_row μ (α ∷ []) p m.ghost_name m.ref_ptr.0 m.ref_ptr.1 δ m.now))))
      (lends_again 𝓛 store.the_row (named 1) μ (α ∷ []) p m.ghost_name m.ref_ptr.0 m.ref_ptr.1 (named 1) m.now) $ await ! tt $ pick ! (λ δ. split ! $
      -- [the loan; what m's holder keeps; the token of α; the target; the token of κ]
      let z : G.Ghost = (((κ, (α ∷ [], tt)), (q, (full_share, tt)), tt, (d, (record m { ghost_name = δ }, tt)), (v ∷ [], (ms, tt))), tt) in
      nothing ! $ move ! (1 ∷ 0 ∷ []) $ join ! $ move ! (3 ∷ 0 ∷ []) $ join ! $ nothing ! $ move ! (3 ∷ 0 ∷ []) $ join ! $ move ! (3 ∷ 0 ∷ 1 ∷ []) $ join ! $ join ! $
      use0 𝓛 (raw (fact 𝓤 (IsMarkedIn m.now d))) (fact_i 𝓤 _ (emp 𝓤) marked) $ move ! (1 ∷ 0 ∷ []) $ use2 𝓛 (raw (G.pre z)) (id⊢ 𝓤 _) $
      calls_at ! (framed 𝓤 𝓛.H 𝓜 (tables 𝓤 𝓛.H 𝓜 𝓡 𝓡.env)) G (met 𝓤 𝓛 𝓜 𝓡 (code.calls-rhai_target::spent::reference_out 𝓡.env wired)) z
      (and_then ! (get ! refl) (and_then ! (get ! refl) (no_more !))) (λ u.
      use1 𝓛 (later (some (λ (x : Option (MutBor Tree) × Option (MutBor Tree)). ((‵ (flft κ q) ⊛ ‵ (flft (α ∷ []) full_share) ⊛ ‵ ftrue) ⊛ ‵ ((Beside R κ).own_val x (u ∷ []))) ⊛
      some (λ (ws : Lasts g.ended z.0.0 z.0.3). ‵ (lasts g.ended z.0.0 z.0.3 ws) ⊛ raw (fact 𝓤 (x.0 ≡ reference_in d)) ⊛ raw (fact 𝓤 (x.1 ≡ let_go (source_of d) x.0)) ⊛ raw (fact 𝓤 (ws.1.0 ≡ unmarked_from (mark_in d) m.now)))))) (id⊢ 𝓤 _) $
      await ! tt $ pick ! (λ x. split ! $ split ! $ split3 ! $ move ! (1 ∷ []) $ lft_end ! tt $ move ! (3 ∷ []) $
      -- [the call's result; α has ended; the token of κ; nothing; the rest; what m's holder keeps]
      peeks ! (Beside R κ) _ (shows 𝓛 (Beside R κ)) x (u ∷ []) (λ its.
      use1 𝓛 (‵ (Parts R κ x.0 x.1 u)) (opened 𝓛 R L κ x u) $ fpick ! (λ w. fsplit ! $ feq_l ! (λ shape. fsplit ! $
      peeks ! R _ (shows 𝓛 R) x.0 (w.0 ∷ []) (λ first.
      lands_as ! shape refl (typed 𝓛 R L κ x u _ shape its) $
      sets ! (of_opd ! (get_in ! (fld ! refl (stop !)) (sub ! 0 refl (whole !)))) refl ((L.lawful 𝓛).typed x.0 (w.0 ∷ []) first).0 $
      -- [the returned value; the released reference; α has ended; the token of κ; nothing; the
      -- rest; what m's holder keeps]
      move ! (5 ∷ []) $ pick ! (λ ws. split ! $ move ! (1 ∷ []) $ split ! $ heard ! _ (λ kept. split ! $ heard ! _ (λ gone. heard ! _ (λ cleared.
      fsplit ! $ move ! (1 ∷ []) $ fsplit ! $ fsplit ! $
      -- [m's last value; its borrow; nothing; the target's; the returned value; the released
      -- reference; α has ended; the token of κ; nothing; what m's holder keeps]
      move ! (6 ∷ 9 ∷ 0 ∷ []) $
      use3 𝓛 (later (‵ ((MutRef (named 1) μ store.the_row).own_val (record m { now = ws.1.0 }) ms) ⊛ ‵ (flft μ p)))
      (comes_back 𝓛 store.the_row (named 1) μ (α ∷ []) p m.ghost_name m.ref_ptr.0 m.ref_ptr.1 δ m.now ws.1.0) $ await ! tt $ split ! $
      -- [m; the token of μ; its borrow; nothing; the target's; the returned value; the released
      -- reference; the token of κ; nothing]
      move ! (6 ∷ []) $ use1 𝓛 (‵ (Leaves x.1 None)) (settled 𝓛 κ x.1 (w.1 ∷ [])) $ rewrite ! 0 (λ (o : Option (MutBor Tree)). ‵ (Leaves o None)) gone refl $
      use1 𝓛 (‵ (Leaves (source_of d) x.0)) (source_left 𝓛 (source_of d) x.0 (subst (IsKept (source_of d)) (sym kept) (reference_is_kept d))) $
      -- [the source's final value; m; the token of μ; its borrow; nothing; the target's; the
      -- returned value; the token of κ; nothing]
      returns ! (look_at ! 0 refl) $ free_all ! refl $ keep ! (1 ∷ 7 ∷ 2 ∷ 6 ∷ 0 ∷ []) $
      suffices ! _ (ends_at 𝓛 f.ended stayed c (At (v ∷ []) ms) w.0 x.0 (rest ((TargetOf κ).exit no) d, (ws.1.0, tt)) (tt, (tt, tt))) $
      -- [m; the token of κ; that of μ; the returned value; the source's final value]
      nothing ! $ move ! (1 ∷ 0 ∷ []) $ join ! $ nothing ! $ join ! $ nothing ! $ move ! (3 ∷ 0 ∷ []) $ join ! $ move ! (2 ∷ 0 ∷ []) $ join ! $ group ! 3 $ frame ! $ frame ! $
      says ! cleared $ by ! (fact_i 𝓤 _ _ kept)))))))))))))))

pub take_ref_spec : {M : Type 1} → statement M
take_ref_spec 𝓤 𝓛 𝓜 𝓡 wired =
    proved_at 𝓛 f.ended stayed (f.clauses 𝓛 𝓜.mem 𝓡.returns) 𝓜 𝓡
    ((λ κs x w vs fits. via 𝓤 _ (quiet 𝓛 κs.0 x w) (𝓛.laws.⇛_intro _)), (Goes-ref 𝓛 2 1 tt (plain (λ _. store.the_row)), tt))
    f.Key.name code.function (code.unfolded 𝓤 𝓛.H 𝓜 𝓡 wired) (λ y are.
    let κ = y.0.0.0 in let μ = y.0.0.1.0 in let q = y.0.1.0 in let p = y.0.1.1.0 in let d = y.0.3.0 in let m = y.0.3.1.0 in let vs = y.0.4.0 in
    let W = walk_of 𝓛 f.ended stayed (f.clauses 𝓛 𝓜.mem 𝓡.returns) in
    let at : List Val → W.Ghost = λ ms. (((κ, (μ, tt)), (q, (p, tt)), tt, (d, (m, tt)), (vs, (ms, tt))), tt) in
    subst (λ (ms : List Val). ent 𝓤 (W.pre (at ms)) (WpFn 𝓤 𝓛.H (tables 𝓤 𝓛.H 𝓜 𝓡 𝓡.env).C (tables 𝓤 𝓛.H 𝓜 𝓡 𝓡.env).Λ code.function (W.args (at ms)) (W.post (at ms))))
    (sym (mut_Tells (named 1) μ store.the_row m y.0.4.1.0 are.1.0)) (walk 𝓛 𝓜 𝓡 wired κ μ q p d m vs ((target_of_laws κ).single d vs are.0) are.0))
