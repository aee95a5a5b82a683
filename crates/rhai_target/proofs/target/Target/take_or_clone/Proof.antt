-- `take_or_clone` returns a target, or releases its reference and leaves the value unchanged.
use Rattle.rhai_target.proofs.Steps.{◌≡◌, [], ◌∷◌, List, Option, None, Result, IfOk, IfErr, refl, sym, subst, MutBor, proved_at, Ura, full_share, emp, id⊢, ent, via, Lft, GName, Share, ftrue, flft, named, Val, fact, fact_i, tables, Running, Model, Wired, WpFn, Logic, ‵, raw, ◌⊛◌, some, later, ◌$◌, ◌∵◌, !, qed, by, move, keep, use0, use1, use2, use3, split, split3, join, given, fsplit, fpick, feq_l, pick, await, rewrite, suffices, frame, group, whole, sub, enter, of_opd, addr, stop, fld, no_more, and_then, returns, alloc_all, pass_all, free_all, look_at, get, get_in, through, sets, lands_as, lft_new, lft_end, no, yes, rest, shows, Is, lends_again, comes_back, LentAgain, MutRef, mut_vals, mut_Tells, plain, nothing, heard, peeks, Lone, calls_at, Clauses, Lasts, lasts, triple_of, Contract, framed, Stays, says, stay_dropped, stay_ref, Goes-ref, Goes-dropped, walk_of, ends_at, OnOk, OnErr, IsOk, MatchOption}
use Rattle.std.specs.contracts.alloc.Global as heap
use Rattle.std.proofs.alloc.Global.TheLaws as heap_laws
use Rattle.std.specs.contracts.result.Result as result
use Rattle.std.proofs.result.Result.TheLaws as result_laws
use Rattle.rhai_value.specs.declared.cells.store.Cell.{Cell}
use Rattle.rhai_value.specs.Tree.{Tree, TakesNoMemory}
use Rattle.rhai_value.specs.contracts.value.dynamic.Dynamic as dynamic
use Rattle.rhai_value.proofs.value.dynamic.Dynamic.TheLaws as dynamic_laws
use Rattle.rhai_value.specs.contracts.cells.store.Store as store
use Rattle.rhai_target.specs.declared.target.Target.{Target}
use Rattle.rhai_target.specs.Target.{reference_in, mark_in, IsMarkedIn, unmarked_from, taken}
use Rattle.rhai_target.specs.Spent.{source_of, Leaves, let_go, kept_on_err}
use Rattle.rhai_target.proofs.LetGo.{TargetOf, target_of_laws, Beside, typed, Parts, opened, settled, err_is_kept, source_left, quiet}
use Rattle.rhai_target.specs.contracts.spent.value_out as h
use Rattle.rhai_target.proofs.spent.value_out.Met.{met}
use Rattle.rhai_target.specs.contracts.target.Target.take_or_clone as f
use Rattle.rhai_target.proofs.target.Target.take_or_clone.Statement.{statement}
use Rattle.rhai_target.proofs.target.Target.take_or_clone.Code as code

abbrev stayed : Stays f.ended.signature.params f.ended.kept
stayed = (stay_dropped _ no, (stay_dropped _ yes, (stay_ref (1 ∷ []) tt (plain (λ _. store.the_row)), tt)))

module _ {M : Type 1} {𝓤 : Ura M} (𝓛 : Logic 𝓤) (𝓜 : Model 𝓤 𝓛.H) (𝓡 : Running 𝓤 𝓛.H 𝓜) (wired : Wired 𝓡.env code.code) (κ μ : Lft) (q p : Share) (d : Target) (al : heap.the_row.Denot) (m : MutBor (List Cell)) where
  abbrev c : Clauses 𝓤 f.ended
  c = f.clauses 𝓛 𝓜.mem 𝓡.returns

  abbrev W : Contract 𝓤
  W = walk_of 𝓛 f.ended stayed c

  abbrev At : List Val → List Val → List Val → W.Ghost
  At vs gs ms = (((κ, (μ, tt)), (q, (p, tt)), tt, (d, (al, (m, tt))), (vs, (gs, (ms, tt)))), tt)

  walk : (vs gs : List Val) → Lone vs → Lone gs → Is (TargetOf κ) d vs → Is heap.the_row al gs
      → ent 𝓤 (W.pre (At vs gs (mut_vals m))) (WpFn 𝓤 𝓛.H (tables 𝓤 𝓛.H 𝓜 𝓡 𝓡.env).C (tables 𝓤 𝓛.H 𝓜 𝓡 𝓡.env).Λ code.function (W.args (At vs gs (mut_vals m))) (W.post (At vs gs (mut_vals m))))
  walk [] gs one two is its = absurd one
  walk (v ∷ u ∷ us) gs one two is its = absurd one
  walk (v ∷ []) [] one two is its = absurd two
  walk (v ∷ []) (g ∷ u ∷ us) one two is its = absurd two
  walk (v ∷ []) (g ∷ []) one two is its =
      let fits = (((target_of_laws κ).lawful 𝓛).typed d (v ∷ []) is).0 in
      let told = ((heap_laws.the_row_laws.lawful 𝓛).typed al (g ∷ []) its).0 in
      let ms = mut_vals m in
      let R = result.the_row dynamic.the_row (TargetOf κ) in let L = result_laws.the_row_laws dynamic.the_row (TargetOf κ) dynamic_laws.the_row_laws (target_of_laws κ) in
      let G = triple_of 𝓛 h.signature (h.spec 𝓛 𝓜.mem 𝓡.returns) in
      qed 𝓛 (((‵ (flft κ q) ⊛ ‵ (flft μ p) ⊛ ‵ ftrue) ⊛ ‵ ((TargetOf κ).own_val d (v ∷ [])) ⊛ ‵ (heap.the_row.own_val al (g ∷ [])) ⊛ ‵ ((MutRef (named 1) μ store.the_row).own_val m ms) ⊛ ‵ ftrue) ∷ raw (fact 𝓤 (IsMarkedIn m.now d)) ∷ []) ∵
      split ! $ split3 ! $ move ! (4 ∷ []) $ heard ! _ (λ marked. move ! (3 ∷ []) $ split3 ! $ move ! (2 ∷ []) $ split ! $ keep ! (2 ∷ 0 ∷ 4 ∷ 5 ∷ 3 ∷ []) $
      enter ! _ _ _ _ _ $ alloc_all ! (λ l. pass_all ! refl (fits, (told, ((tt, tt), tt))) $
      -- [the target; m; the token of κ; that of μ; the allocator]
      sets ! (of_opd ! (get ! refl)) refl fits $
      sets ! (addr ! (through ! refl (stop !))) refl (tt, tt) $
      lft_new ! tt (λ α. move ! (2 ∷ 4 ∷ []) $
      use2 𝓛 (later (some (λ (δ : GName). ‵ ((MutRef (named 1) (α ∷ []) store.the_row).own_val (record m { ghost_name = δ }) ms) ⊛ ‵ (LentAgain store.the_row μ (α ∷ []) p m.ghost_name m.ref_ptr.0 m.ref_ptr.1 δ m.now))))
      (lends_again 𝓛 store.the_row (named 1) μ (α ∷ []) p m.ghost_name m.ref_ptr.0 m.ref_ptr.1 (named 1) m.now) $ await ! tt $ pick ! (λ δ. split ! $
      -- [the loan; what m's holder keeps; the token of α; the target; the token of κ; the allocator]
      let z : G.Ghost = (((κ, (α ∷ [], tt)), (q, (full_share, tt)), tt, (d, (al, (record m { ghost_name = δ }, tt))), (v ∷ [], (g ∷ [], (ms, tt)))), tt) in
      nothing ! $ move ! (1 ∷ 0 ∷ []) $ join ! $ move ! (5 ∷ 0 ∷ []) $ join ! $ move ! (3 ∷ 0 ∷ []) $ join ! $
      nothing ! $ move ! (3 ∷ 0 ∷ []) $ join ! $ move ! (3 ∷ 0 ∷ 1 ∷ []) $ join ! $ join ! $
      use0 𝓛 (raw (fact 𝓤 (IsMarkedIn m.now d))) (fact_i 𝓤 _ (emp 𝓤) marked) $ move ! (1 ∷ 0 ∷ []) $ use2 𝓛 (raw (G.pre z)) (id⊢ 𝓤 _) $
      calls_at ! (framed 𝓤 𝓛.H 𝓜 (tables 𝓤 𝓛.H 𝓜 𝓡 𝓡.env)) G (met 𝓤 𝓛 𝓜 𝓡 (code.calls-rhai_target::spent::value_out 𝓡.env wired)) z
      (and_then ! (get ! refl) (and_then ! (get ! refl) (and_then ! (get ! refl) (no_more !)))) (λ u.
      use1 𝓛 (later (some (λ (x : Result Tree Target × Option (MutBor Tree)). ((‵ (flft κ q) ⊛ ‵ (flft (α ∷ []) full_share) ⊛ ‵ ftrue) ⊛ ‵ ((Beside R κ).own_val x (u ∷ []))) ⊛
      some (λ (ws : Lasts h.ended z.0.0 z.0.3). ‵ (lasts h.ended z.0.0 z.0.3 ws) ⊛ raw (fact 𝓤 (IfOk x.0 (λ w. w ≡ taken d)))
      ⊛ raw (fact 𝓤 (OnOk x.0 (ws.1.1.0 ≡ unmarked_from (mark_in d) m.now))) ⊛ raw (fact 𝓤 (IfErr x.0 (λ t. t ≡ d))) ⊛ raw (fact 𝓤 (OnErr x.0 (ws.1.1.0 ≡ m.now)))
      ⊛ raw (fact 𝓤 (MatchOption (reference_in d) (IsOk x.0) (λ r. TakesNoMemory r.now → IsOk x.0))) ⊛ raw (fact 𝓤 (x.1 ≡ let_go (source_of d) (kept_on_err x.0))))))) (id⊢ 𝓤 _) $
      await ! tt $ pick ! (λ x. split ! $ split ! $ split3 ! $ move ! (1 ∷ []) $ lft_end ! tt $ move ! (3 ∷ []) $
      -- [the call's result; α has ended; the token of κ; nothing; the rest; what m's holder keeps]
      peeks ! (Beside R κ) _ (shows 𝓛 (Beside R κ)) x (u ∷ []) (λ both.
      use1 𝓛 (‵ (Parts R κ x.0 x.1 u)) (opened 𝓛 R L κ x u) $ fpick ! (λ w. fsplit ! $ feq_l ! (λ shape. fsplit ! $
      peeks ! R _ (shows 𝓛 R) x.0 (w.0 ∷ []) (λ first.
      lands_as ! shape refl (typed 𝓛 R L κ x u _ shape both) $
      sets ! (of_opd ! (get_in ! (fld ! refl (stop !)) (sub ! 0 refl (whole !)))) refl ((L.lawful 𝓛).typed x.0 (w.0 ∷ []) first).0 $
      -- [the returned value; the released reference; α has ended; the token of κ; nothing; the
      -- rest; what m's holder keeps]
      move ! (5 ∷ []) $ pick ! (λ ws. split ! $ move ! (1 ∷ []) $ split ! $ heard ! _ (λ ok. split ! $ heard ! _ (λ cleared. split ! $ heard ! _ (λ err. split ! $ heard ! _ (λ same. split ! $ heard ! _ (λ free. heard ! _ (λ gone.
      fsplit ! $ move ! (1 ∷ []) $ fsplit ! $ move ! (1 ∷ []) $ fsplit ! $ fsplit ! $
      -- [m's last value; its borrow; nothing; the allocator's; the target's; the returned value;
      -- the released reference; α has ended; the token of κ; nothing; what m's holder keeps]
      move ! (7 ∷ 10 ∷ 0 ∷ []) $
      use3 𝓛 (later (‵ ((MutRef (named 1) μ store.the_row).own_val (record m { now = ws.1.1.0 }) ms) ⊛ ‵ (flft μ p)))
      (comes_back 𝓛 store.the_row (named 1) μ (α ∷ []) p m.ghost_name m.ref_ptr.0 m.ref_ptr.1 δ m.now ws.1.1.0) $ await ! tt $ split ! $
      -- [m; the token of μ; its borrow; nothing; the allocator's; the target's; the returned value;
      -- the released reference; the token of κ; nothing]
      move ! (7 ∷ []) $ use1 𝓛 (‵ (Leaves x.1 None)) (settled 𝓛 κ x.1 (w.1 ∷ [])) $ rewrite ! 0 (λ (o : Option (MutBor Tree)). ‵ (Leaves o None)) gone refl $
      use1 𝓛 (‵ (Leaves (source_of d) (kept_on_err x.0))) (source_left 𝓛 (source_of d) (kept_on_err x.0) (err_is_kept d x.0 err)) $
      -- [the source's final value; m; the token of μ; its borrow; nothing; the allocator's; the
      -- target's; the returned value; the token of κ; nothing]
      returns ! (look_at ! 0 refl) $ free_all ! refl $ keep ! (1 ∷ 8 ∷ 2 ∷ 7 ∷ 0 ∷ []) $
      suffices ! _ (ends_at 𝓛 f.ended stayed c (At (v ∷ []) (g ∷ []) ms) w.0 x.0 (rest ((TargetOf κ).exit no) d, (tt, (ws.1.1.0, tt))) (tt, (tt, (tt, tt)))) $
      -- [m; the token of κ; that of μ; the returned value; the source's final value]
      nothing ! $ move ! (1 ∷ 0 ∷ []) $ join ! $ nothing ! $ join ! $ nothing ! $ join ! $ nothing ! $ move ! (3 ∷ 0 ∷ []) $ join ! $ move ! (2 ∷ 0 ∷ []) $ join ! $ group ! 3 $ frame ! $ frame ! $
      use0 𝓛 (given _ (‵ ftrue)) (fact_i 𝓤 _ (emp 𝓤) ok) $ frame ! $ use0 𝓛 (given _ (‵ ftrue)) (fact_i 𝓤 _ (emp 𝓤) cleared) $ frame ! $
      use0 𝓛 (given _ (‵ ftrue)) (fact_i 𝓤 _ (emp 𝓤) err) $ frame ! $ says ! free $ by ! (fact_i 𝓤 _ _ same))))))))))))))))))

pub take_or_clone_spec : {M : Type 1} → statement M
take_or_clone_spec 𝓤 𝓛 𝓜 𝓡 wired =
    proved_at 𝓛 f.ended stayed (f.clauses 𝓛 𝓜.mem 𝓡.returns) 𝓜 𝓡
    ((λ κs x w vs fits. via 𝓤 _ (quiet 𝓛 κs.0 x w) (𝓛.laws.⇛_intro _)), (Goes-dropped 𝓛 2 (plain (λ _. heap.the_row)) yes (λ κs x w. refl), (Goes-ref 𝓛 2 1 tt (plain (λ _. store.the_row)), tt)))
    f.Key.name code.function (code.unfolded 𝓤 𝓛.H 𝓜 𝓡 wired) (λ y are.
    let κ = y.0.0.0 in let μ = y.0.0.1.0 in let q = y.0.1.0 in let p = y.0.1.1.0 in let d = y.0.3.0 in let al = y.0.3.1.0 in let m = y.0.3.1.1.0 in let vs = y.0.4.0 in let gs = y.0.4.1.0 in
    let W = walk_of 𝓛 f.ended stayed (f.clauses 𝓛 𝓜.mem 𝓡.returns) in
    let at : List Val → W.Ghost = λ ms. (((κ, (μ, tt)), (q, (p, tt)), tt, (d, (al, (m, tt))), (vs, (gs, (ms, tt)))), tt) in
    subst (λ (ms : List Val). ent 𝓤 (W.pre (at ms)) (WpFn 𝓤 𝓛.H (tables 𝓤 𝓛.H 𝓜 𝓡 𝓡.env).C (tables 𝓤 𝓛.H 𝓜 𝓡 𝓡.env).Λ code.function (W.args (at ms)) (W.post (at ms))))
    (sym (mut_Tells (named 1) μ store.the_row m y.0.4.1.1.0 are.1.1.0)) (walk 𝓛 𝓜 𝓡 wired κ μ q p d al m vs gs ((target_of_laws κ).single d vs are.0) (heap_laws.the_row_laws.single al gs are.1.0) are.0 are.1.0))
