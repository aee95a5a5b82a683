-- A box that is taken apart is a pair of its address and its handle, with what is at the address;
-- these make a box again.
use Rattle.std.proofs.Common.{◌≡◌, ℕ, List, [], ◌∷◌, ◌++◌, refl, ap, ◌∙◌}
use seplogic.Ra.Ura.{Ura}
use mir.Raw.{raw as bare}
use mir.Val.{Val, vstruct, of_list}
use base.Logic.{never, fst∗}
use types.Logic.{Logic, sem}
use types.Kit.{Item, Goal, Seq, ‵, ◌$◌, move, drop, rewrite, fsplit, fpick, feq_l}
use denote.RawPtr.{Ptr, RawPtr, block_ptr, null_ptr, ptr_val, in_a_block}
use denote.Steps.{only}
use denote.Struct.Tuple.{Tuple}
use Rattle.core.proofs.alloc.Calls.{Fits, token, handle_tells}
use Rattle.std_alloc.specs.Box.Ownership.{box_owns}
use Rattle.std_alloc.proofs.BoxSteps.Form.{Bx, X, R, P, B, τ, word}
use Rattle.std_alloc.proofs.BoxSteps.Steps.{box_in}

module _ (E : Bx) {M : Type 1} {𝓤 : Ura M} {𝓛 : Logic 𝓤} {K : Type 0} {Γ : List (Item 𝓤)} {G : Goal 𝓤 𝓛.H} where
  pub box_of_pair : K → (a : E.al.row.Denot) (x : X E) (r : Ptr × E.al.row.Denot) (u : Val) → r.1 ≡ a
      → ((b o : ℕ) (h : Val) → u ≡ word E h b o → Fits E.al h → Seq K 𝓛 (‵ ((B E).own_val (record { ptr = block_ptr b o; alloc = a; value = x }) (word E h b o ∷ [])) ∷ Γ) G)
      → Seq K 𝓛 (‵ ((Tuple (RawPtr ∷ P E ∷ [])).own_val r (u ∷ [])) ∷ ‵ (box_owns (token E.al a) (R E) r.0 x) ∷ Γ) G
  box_of_pair t a x r u same k =
      fpick t (λ vss. fsplit t $ feq_l t (λ struct_is. fsplit t $ feq_l t (λ address_is. fsplit t $
      rewrite t 0 (λ (s : E.al.row.Denot). ‵ (E.al.row.own_val s vss.1.0)) same refl $ handle_tells E.al t a vss.1.0 (λ h handle_is fits.
      -- [the handle; nothing; what is at the address]
      move t (2 ∷ []) $ in_a_block t r.0 (λ p. box_owns (token E.al a) (R E) p x) (fst∗ 𝓤 (never 𝓤) (sem 𝓛 (token E.al a (bare (τ E)) null_ptr))) (λ b o at_b.
      fsplit t $ box_in E t (record { ptr = block_ptr b o; alloc = a; value = x }) b o x refl refl $ move t (1 ∷ []) $ drop t $
      let word_is : u ∷ [] ≡ word E h b o ∷ [] = struct_is ∙ (λ i. vstruct (of_list ((address_is ∙ ap (λ (p : Ptr). ptr_val p ∷ []) at_b) i ++ (handle_is i ++ []))) ∷ []) in
      k b o h (ap only word_is) fits)))))
