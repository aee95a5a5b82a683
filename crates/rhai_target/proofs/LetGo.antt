-- Common parts of the proofs about targets: the types, and that a released reference leaves its
-- value unchanged, and a returned one follows itself.
use Rattle.std.proofs.Common.{◌≡◌, [], ◌∷◌, List, Option, Some, None, Result, Ok, Err, IfOk, IfErr, ◌++◌, refl, sym, ap, ◌∙◌, subst, MutBor}
use seplogic.Ra.Ura.{Ura}
use base.Logic.{emp, ent, id⊢}
use base.Fml.{Lft, Fml, ftrue, fsep, fex, feq, fres}
use mir.Syntax.{named}
use lib.Dec.{T}
use mir.Val.{Val, WT, has_ty, vstruct, of_list}
use types.Logic.{Logic, sem}
use types.Kit.{‵, ◌$◌, ◌∵◌, !, qed, done, move, keep, drop, use0, use1, rewrite, fsplit, fsplit3, fjoin, fpick, fpack, feq_l, feq_i}
use borrow.Follows.Kept.{follows_itself}
use denote.Exit.{no, left, Last}
use denote.Follow.{follows_by}
use denote.Laws.{Is, shows}
use denote.Param.{layout}
use denote.Param.Laws.{Laws, of_field, row_shared}
use denote.Param.Shared.{mut_ref_shared}
use denote.RattleType.{RattleType}
use denote.Ref.{NamedLft, MutRef}
use denote.Steps.{nothing, only, peeks}
use denote.Struct.Field.{mut_ref_field}
use denote.Struct.Laws.{mut_ref_laws}
use denote.Struct.Members.{Lone}
use denote.Struct.Tuple.{Tuple, tuple_laws}
use Rattle.std.specs.contracts.option.Option as option
use Rattle.std.proofs.option.Option.TheLaws as option_laws
use Rattle.rhai_value.specs.Tree.{Tree}
use Rattle.rhai_value.specs.contracts.value.dynamic.Dynamic as dynamic
use Rattle.rhai_value.proofs.value.dynamic.Dynamic.TheLaws as dynamic_laws
use Rattle.rhai_target.specs.declared.target.Target.{Target}
use Rattle.rhai_target.specs.declared.target.Target.TheVariants.{RefMut, SharedValue, TempValue, Bit, BitField, BlobByte, StringChar, StringSlice}
use Rattle.rhai_target.specs.contracts.target.Target as target
use Rattle.rhai_target.proofs.target.Target.TheLaws as target_laws
use Rattle.rhai_target.specs.Target.{reference_in, owned}
use Rattle.rhai_target.specs.Spent.{source_of, Leaves, kept_on_err, kept_in, let_go}

abbrev pub TargetOf : Lft → RattleType
TargetOf κ = target.the_row (record { mir = named 0; lft = κ })

abbrev pub target_of_laws : (κ : Lft) → Laws (TargetOf κ)
target_of_laws κ = target_laws.the_row_laws (record { mir = named 0; lft = κ })

abbrev pub Ref : Lft → RattleType
Ref κ = MutRef (named 0) κ dynamic.the_row

abbrev pub ref_laws : (κ : Lft) → Laws (Ref κ)
ref_laws κ = let a : NamedLft = record { mir = named 0; lft = κ } in
    of_field (mut_ref_field a dynamic.the_row tt) (mut_ref_laws a dynamic.the_row tt) refl (mut_ref_shared a dynamic.the_row tt (row_shared dynamic.the_row dynamic_laws.the_row_laws))

abbrev pub RefOf : Lft → RattleType
RefOf κ = option.the_row (Ref κ)

abbrev pub ref_of_laws : (κ : Lft) → Laws (RefOf κ)
ref_of_laws κ = option_laws.the_row_laws (Ref κ) (ref_laws κ)

-- the result of a call and the reference that it releases
abbrev pub Beside : RattleType → Lft → RattleType
Beside R κ = Tuple (R ∷ RefOf κ ∷ [])

abbrev pub beside_laws : (R : RattleType) (L : Laws R) (κ : Lft) → Laws (Beside R κ)
beside_laws R L κ = tuple_laws (R ∷ RefOf κ ∷ []) (L, (ref_of_laws κ, tt))

-- the returned reference is the one that was there
abbrev pub IsKept : Option (MutBor Tree) → Option (MutBor Tree) → Type 0
IsKept o None = Unit {0}
IsKept o (Some r) = o ≡ Some r

is_itself : (o : Option (MutBor Tree)) → IsKept o o
is_itself None = tt
is_itself (Some r) = refl

pub reference_is_kept : (t : Target) → IsKept (source_of t) (reference_in t)
reference_is_kept (RefMut r) = refl
reference_is_kept (SharedValue c v) = tt
reference_is_kept (TempValue v) = tt
reference_is_kept (Bit r v place) = tt
reference_is_kept (BitField r v mask shift) = tt
reference_is_kept (BlobByte r v index) = tt
reference_is_kept (StringChar r v index) = tt
reference_is_kept (StringSlice r v start end exclusive) = tt

same_is_kept : (t u : Target) → u ≡ t → IsKept (source_of t) (source_of u)
same_is_kept t u e = subst (λ w. IsKept (source_of t) (source_of w)) (sym e) (is_itself (source_of t))

pub err_is_kept : {A : Type 0} (t : Target) (r : Result A Target) → IfErr r (λ u. u ≡ t) → IsKept (source_of t) (kept_on_err r)
err_is_kept t (Ok x) e = tt
err_is_kept t (Err u) e = same_is_kept t u e

owned_is_kept : (t : Target) → IsKept (source_of t) (source_of (owned t))
owned_is_kept (RefMut r) = tt
owned_is_kept (SharedValue c v) = tt
owned_is_kept (TempValue v) = tt
owned_is_kept (Bit r v place) = refl
owned_is_kept (BitField r v mask shift) = refl
owned_is_kept (BlobByte r v index) = refl
owned_is_kept (StringChar r v index) = refl
owned_is_kept (StringSlice r v start end exclusive) = refl

pub either_is_kept : (t : Target) (r : Result Target Target) → IfOk r (λ u. u ≡ owned t) → IfErr r (λ u. u ≡ t) → IsKept (source_of t) (kept_in r)
either_is_kept t (Ok u) e h = subst (λ w. IsKept (source_of t) (source_of w)) (sym e) (owned_is_kept t)
either_is_kept t (Err u) e h = same_is_kept t u h

lone : (vs : List Val) → Lone vs → (v : Val) × (vs ≡ v ∷ [])
lone [] one = absurd one
lone (v ∷ []) one = (v, refl)
lone (v ∷ u ∷ us) one = absurd one

-- the two parts of a call's result
abbrev pub Parted : (R : RattleType) → Lft → R.Denot → Option (MutBor Tree) → Val → Val × Val → Fml
Parted R κ x o u v = fsep (feq Val u (vstruct (of_list (v.0 ∷ v.1 ∷ [])))) (fsep (R.own_val x (v.0 ∷ [])) ((RefOf κ).own_val o (v.1 ∷ [])))

abbrev pub Parts : (R : RattleType) → Lft → R.Denot → Option (MutBor Tree) → Val → Fml
Parts R κ x o u = fex (Val × Val) (Parted R κ x o u)

module _ {M : Type 1} {𝓤 : Ura M} (𝓛 : Logic 𝓤) where
  -- a released reference
  pub settled : (κ : Lft) (o : Option (MutBor Tree)) (vs : List Val) → ent 𝓤 (sem 𝓛 ((RefOf κ).own_val o vs)) (sem 𝓛 (Leaves o None))
  unfolding follows_by
  settled κ None vs = qed 𝓛 (‵ ((RefOf κ).own_val None vs) ∷ []) ∵ drop ! $ nothing ! $ done !
  settled κ (Some r) vs = qed 𝓛 (‵ ((RefOf κ).own_val (Some r) vs) ∷ []) ∵
      fpick ! (λ us. fsplit ! $ feq_l ! (λ e. fpick ! (λ vss. fsplit ! $ feq_l ! (λ h. fsplit ! $ fsplit3 ! $ move ! (1 ∷ []) $
      use1 𝓛 (‵ (fres r.ghost_name (dynamic.the_row.coded.code r.now))) (𝓛.names.obs-res r.ghost_name (dynamic.the_row.coded.code r.now)) $ keep ! (0 ∷ []) $ done !))))

  goes_on : (o : Option (MutBor Tree)) (r : MutBor Tree) → o ≡ Some r → ent 𝓤 (emp 𝓤) (sem 𝓛 (Leaves o (Some r)))
  unfolding follows_by
  goes_on o r e = subst (λ u. ent 𝓤 (emp 𝓤) (sem 𝓛 (Leaves u (Some r)))) (sym e) (follows_itself 𝓛 dynamic.the_row r.ghost_name)

  -- of two references the one that isn't returned is released
  pub source_left : (o kept : Option (MutBor Tree)) → IsKept o kept → ent 𝓤 (sem 𝓛 (Leaves (let_go o kept) None)) (sem 𝓛 (Leaves o kept))
  source_left o None h = id⊢ 𝓤 _
  source_left o (Some r) h = qed 𝓛 (‵ ftrue ∷ []) ∵ drop ! $ use0 𝓛 (‵ (Leaves o (Some r))) (goes_on o r h) $ done !

  pub opened : (R : RattleType) (L : Laws R) (κ : Lft) (x : R.Denot × Option (MutBor Tree)) (u : Val) → ent 𝓤 (sem 𝓛 ((Beside R κ).own_val x (u ∷ []))) (sem 𝓛 (Parts R κ x.0 x.1 u))
  opened R L κ x u = qed 𝓛 (‵ ((Beside R κ).own_val x (u ∷ [])) ∷ []) ∵
      fpick ! (λ vss. fsplit ! $ feq_l ! (λ shape. fsplit ! $ peeks ! R _ (shows 𝓛 R) x.0 vss.0 (λ is. move ! (1 ∷ []) $ fsplit ! $
      peeks ! (RefOf κ) _ (shows 𝓛 (RefOf κ)) x.1 vss.1.0 (λ its.
      let one = lone vss.0 (L.single x.0 vss.0 is) in let two = lone vss.1.0 ((ref_of_laws κ).single x.1 vss.1.0 its) in
      rewrite ! 0 (λ (vs : List Val). ‵ ((RefOf κ).own_val x.1 vs)) two.1 refl $
      rewrite ! 2 (λ (vs : List Val). ‵ (R.own_val x.0 vs)) one.1 refl $ keep ! (2 ∷ 0 ∷ []) $ fjoin ! $
      feq_i ! Val u (vstruct (of_list (one.0 ∷ two.0 ∷ [])))
      (ap only shape ∙ ap (λ (vs : List Val). vstruct (of_list (vs ++ (vss.1.0 ++ [])))) one.1 ∙ ap (λ (vs : List Val). vstruct (of_list (one.0 ∷ (vs ++ [])))) two.1) $
      fjoin ! $ fpack ! (Val × Val) (Parted R κ x.0 x.1 u) (one.0, two.0) $ done !))))

  -- it has its type, however it is represented
  pub typed : (R : RattleType) (L : Laws R) (κ : Lft) (x : R.Denot × Option (MutBor Tree)) (u w : Val) → u ≡ w → Is (Beside R κ) x (u ∷ []) → T (has_ty (layout (Beside R κ)) w) × WT w
  typed R L κ x u w e is = subst (λ v. T (has_ty (layout (Beside R κ)) v) × WT v) e (((beside_laws R L κ).lawful 𝓛).typed x (u ∷ []) is).0

-- nothing is claimed about a consumed target
pub quiet : {M : Type 1} {𝓤 : Ura M} (𝓛 : Logic 𝓤) (κ : Lft) (x : Target) (w : Last ((TargetOf κ).exit no) x) → ent 𝓤 (emp 𝓤) (sem 𝓛 (left ((TargetOf κ).exit no) x w))
quiet 𝓛 κ (RefMut r) w = qed 𝓛 [] ∵ nothing ! $ nothing ! $ fjoin ! $ done !
quiet 𝓛 κ (SharedValue c v) w = qed 𝓛 [] ∵ nothing ! $ nothing ! $ fjoin ! $ nothing ! $ fjoin ! $ done !
quiet 𝓛 κ (TempValue v) w = qed 𝓛 [] ∵ nothing ! $ nothing ! $ fjoin ! $ done !
quiet 𝓛 κ (Bit r v place) w = qed 𝓛 [] ∵ nothing ! $ nothing ! $ fjoin ! $ nothing ! $ fjoin ! $ done !
quiet 𝓛 κ (BitField r v mask shift) w = qed 𝓛 [] ∵ nothing ! $ nothing ! $ fjoin ! $ nothing ! $ fjoin ! $ done !
quiet 𝓛 κ (BlobByte r v index) w = qed 𝓛 [] ∵ nothing ! $ nothing ! $ fjoin ! $ nothing ! $ fjoin ! $ done !
quiet 𝓛 κ (StringChar r v index) w = qed 𝓛 [] ∵ nothing ! $ nothing ! $ fjoin ! $ nothing ! $ fjoin ! $ done !
quiet 𝓛 κ (StringSlice r v start end exclusive) w = qed 𝓛 [] ∵ nothing ! $ nothing ! $ fjoin ! $ nothing ! $ fjoin ! $ done !
