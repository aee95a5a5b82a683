-- The contract of a command on two states that are equal up to a renaming, and one lemma for each component of steps.
use Rattle.std.proofs.Common.{◌≡◌, ℕ, ◌+◌, ◌-◌, Bool, true, false, cond, nat_eq, nat_le, List, [], ◌∷◌, length, take, drop, slice_get, slice_set, Option, Some, None, refl, sym, ap, ◌∙◌, subst, arith, append-nil}
use Rattle.std.proofs.lemmas.Option.{same_Some}
use Rattle.std.specs.List.{AllZip}
use Rattle.rhai_value.specs.declared.cells.store.Cell.{Cell}
use Rattle.rhai_value.specs.End.{End, end_type, held_part}
use Rattle.rhai_value.specs.Tree.{Tree, unit, fresh}
use Rattle.rhai_value.specs.Types.{type_name}
use Rattle.rhai_value.specs.Store.{is_marked_at}
use Rattle.rhai_value.specs.Relation.{Renaming, Related, RelatedCells, Alike}
use Rattle.rhai_value.proofs.ForCallers.{zip_get, zip_append, zip_set, zip_take, zip_drop, zip_length}
use Rattle.rhai_scope.specs.Entry.{Entry}
use Rattle.rhai_run.specs.Fits.{MarksAre}
use Rattle.rhai_run.specs.State.{State, with_hand, with_entries, with_scope, with_cells, appended, moved_from, last_values, values_before}
use Rattle.rhai_run.specs.declared.answer.Answer.{Answer}
use Rattle.rhai_run.specs.declared.answer.Refusal.{Refusal}
use Rattle.rhai_run.specs.declared.answer.Answer.TheVariants.{Done, Refused}
use Rattle.rhai_run.specs.declared.answer.Refusal.TheVariants.{Mismatch, NoValue, SameValue}
use Rattle.rhai_run.specs.Outcome.{Outcome, growing_if, unless, given, of_held, with_value, with_two, replaced, gathered, taken_off}
use Rattle.rhai_scope.specs.Relation.{RelatedEntry}
use Rattle.rhai_run.specs.Correspondence.{RelatedStates, grown}

-- the marks of x are its marked cells if those of w are
abbrev pub Keeps : State → State → Type 0
Keeps w x = MarksAre w.store w.marks → MarksAre x.store x.marks

-- the same cells are marked
pub same_marked : (s z : List Cell) (ms : List ℕ) → ((c : ℕ) → is_marked_at z c ≡ is_marked_at s c) → MarksAre s ms → MarksAre z ms
same_marked s z ms e h = λ c. h c ∙ ap (λ b. cond b 1 0) (sym (e c))

-- Equal answers and the same number of new cells; the states after it are equal up to the grown
-- renaming, and the marks are still the marked cells.
pub record Matches (r : Renaming) (w v : State) (o p : Outcome) : Type 0 where
  pub reply : o.reply ≡ p.reply
  pub made : ℕ
  pub first : length o.after.store ≡ length w.store + made
  pub second : length p.after.store ≡ length v.store + made
  pub after : RelatedStates (grown r w v made) o.after p.after
  pub keeps : Keeps w o.after

-- lists without their last items
pub same_without_last : {X : Type 0} (R : X → X → Type 0) (xs ys : List X) → AllZip R xs ys → AllZip R (take (length xs - 1) xs) (take (length ys - 1) ys)
same_without_last R xs ys h = subst (λ n. AllZip R (take (length xs - 1) xs) (take (n - 1) ys)) (zip_length R xs ys h) (zip_take R (length xs - 1) xs ys h)

-- equal options both exist or neither
pub alike_same : {X : Type 0} (o p : Option X) → o ≡ p → Alike (λ a b. a ≡ b) o p
alike_same None None e = tt
alike_same (Some a) (Some b) e = same_Some a b e
alike_same None (Some b) e = cc
alike_same (Some a) None e = cc

module _ (r : Renaming) (w v : State) (h : RelatedStates r w v) where
  -- no cell is made
  pub no_cell : {c d : Bool} (x y : State) (a b : Answer) → a ≡ b → length x.store ≡ length w.store → length y.store ≡ length v.store → RelatedStates r x y → Keeps w x → Matches r w v (growing_if c a x) (growing_if d b y)
  no_cell x y a b e f g s k = record { reply = e; made = 0; first = omega arith; second = omega arith; after = subst (λ q. RelatedStates q x y) (sym (append-nil r)) s; keeps = k }

  -- nothing changes
  pub m_stays : {c d : Bool} (a b : Answer) → a ≡ b → Matches r w v (growing_if c a w) (growing_if d b v)
  m_stays a b e = no_cell w v a b e refl refl h (λ k. k)

  -- either of two, by a test with the same result in both states
  pub m_either : (b d : Bool) {o p q s : Outcome} → b ≡ d → Matches r w v o p → Matches r w v q s → Matches r w v (cond b o q) (cond d p s)
  m_either true true e m n = m
  m_either false false e m n = n
  m_either true false e m n = cc
  m_either false true e m n = cc

  pub m_unless : (why : Refusal) (b d : Bool) (o p : Outcome) → b ≡ d → Matches r w v o p → Matches r w v (unless b why w o) (unless d why v p)
  m_unless why b d o p e k = m_either b d e (m_stays (Refused why) (Refused why) refl) k

  -- something that exists in both states
  pub m_there : {X : Type 0} (R : X → X → Type 0) (why : Refusal) (o p : Option X) (f g : X → Outcome) → Alike R o p → ((t u : X) → o ≡ Some t → R t u → Matches r w v (f t) (g u)) → Matches r w v (given o why w f) (given p why v g)
  m_there R why None None f g a k = m_stays (Refused why) (Refused why) refl
  m_there R why (Some t) (Some u) f g a k = k t u refl a
  m_there R why None (Some u) f g a k = absurd a
  m_there R why (Some t) None f g a k = absurd a

  pub m_given : {X : Type 0} (R : X → X → Type 0) (why : Refusal) (o p : Option X) (f g : X → Outcome) → Alike R o p → ((t u : X) → R t u → Matches r w v (f t) (g u)) → Matches r w v (given o why w f) (given p why v g)
  m_given R why o p f g a k = m_there R why o p f g a (λ t u _ e. k t u e)

  -- a part held at two ends that have it alike
  pub m_of_held : {A : Type 0} (part : Tree → Option A) (e f : End) (go other : A → Outcome) → held_part part e ≡ held_part part f → end_type e ≡ end_type f
      → ((a : A) → Matches r w v (go a) (other a)) → Matches r w v (of_held w part e go) (of_held v part f other)
  m_of_held part e f go other k kind m =
      subst (λ n. Matches r w v (of_held w part e go) (given (held_part part f) (Mismatch (type_name n)) v other)) kind
      (m_given (λ a b. a ≡ b) _ _ _ _ _ (alike_same _ _ k) (λ a b same. subst (λ x. Matches r w v (go a) (other x)) same (m a)))

  pub m_value : (i : ℕ) (f g : Tree → Outcome) → ((t u : Tree) → Related r t u → Matches r w v (f t) (g u)) → Matches r w v (with_value w i f) (with_value v i g)
  m_value i f g k = m_given (Related r) NoValue (slice_get w.hand i) (slice_get v.hand i) f g (zip_get (Related r) w.hand v.hand i h.hand) k

  pub m_two : (i j : ℕ) (f g : Tree → Tree → Outcome) → ((t u x y : Tree) → Related r t u → Related r x y → Matches r w v (f t x) (g u y)) → Matches r w v (with_two w i j f) (with_two v i j g)
  m_two i j f g k = m_value i _ _ (λ t u e. m_value j _ _ (λ x y d. m_unless SameValue (nat_eq i j) (nat_eq i j) _ _ refl (k t u x y e d)))

  -- another hand, other entries
  pub m_hand : {c d : Bool} (ts us : List Tree) → AllZip (Related r) ts us → Matches r w v (growing_if c Done (with_hand w ts)) (growing_if d Done (with_hand v us))
  m_hand ts us e = no_cell _ _ Done Done refl refl refl (record { one = h.one; cells = h.cells; entries = h.entries; marks = h.marks; hand = e; limits = h.limits }) (λ k. k)

  pub m_entries : {c d : Bool} (es fs : List Entry) → AllZip (RelatedEntry r) es fs → Matches r w v (growing_if c Done (with_entries w es)) (growing_if d Done (with_entries v fs))
  m_entries es fs e = no_cell _ _ Done Done refl refl refl (record { one = h.one; cells = h.cells; entries = e; marks = h.marks; hand = h.hand; limits = h.limits }) (λ k. k)

  pub m_scope : {c d : Bool} (es fs : List Entry) (ts us : List Tree) → AllZip (RelatedEntry r) es fs → AllZip (Related r) ts us → Matches r w v (growing_if c Done (with_scope w es ts)) (growing_if d Done (with_scope v fs us))
  m_scope es fs ts us e d = no_cell _ _ Done Done refl refl refl (record { one = h.one; cells = h.cells; entries = e; marks = h.marks; hand = d; limits = h.limits }) (λ k. k)

  -- another store with the same number of cells and the same marks, and another hand
  pub m_cells : {a b : Bool} (s z : List Cell) (ts us : List Tree) → length s ≡ length w.store → length z ≡ length v.store → ((c : ℕ) → is_marked_at s c ≡ is_marked_at w.store c) → RelatedCells r s z → AllZip (Related r) ts us
      → Matches r w v (growing_if a Done (with_cells w s ts)) (growing_if b Done (with_cells v z us))
  m_cells s z ts us f g m c e =
      no_cell _ _ Done Done refl f g (record { one = h.one; cells = c; entries = h.entries; marks = h.marks; hand = e; limits = h.limits }) (same_marked w.store s w.marks m)

  -- hands after a value is written at a place, moved from it, or appended
  pub set_hand : (i : ℕ) (t u : Tree) → Related r t u → AllZip (Related r) (slice_set w.hand i t) (slice_set v.hand i u)
  set_hand i t u e = zip_set (Related r) w.hand v.hand i t u h.hand e

  pub moved_hand : (i : ℕ) → AllZip (Related r) (moved_from w.hand i) (moved_from v.hand i)
  moved_hand i = set_hand i (fresh unit) (fresh unit) (refl, refl, refl)

  pub m_appended : {c d : Bool} (t u : Tree) → Related r t u → Matches r w v (growing_if c Done (appended w t)) (growing_if d Done (appended v u))
  m_appended t u e = m_hand _ _ (zip_append (Related r) w.hand (t ∷ []) v.hand (u ∷ []) h.hand (e, tt))

  pub m_replaced : (i : ℕ) (f g : Tree → Tree) → ((t u : Tree) → Related r t u → Related r (f t) (g u)) → Matches r w v (replaced w i f) (replaced v i g)
  m_replaced i f g k = m_value i _ _ (λ t u e. m_hand _ _ (set_hand i (f t) (g u) (k t u e)))

  pub m_taken_off : (n : ℕ) (f g : List Tree → List Tree → Outcome) → ((ts us xs ys : List Tree) → AllZip (Related r) ts us → AllZip (Related r) xs ys → Matches r w v (f ts xs) (g us ys))
      → Matches r w v (taken_off w n f) (taken_off v n g)
  m_taken_off n f g k =
      let long = zip_length (Related r) w.hand v.hand h.hand in
      let last : AllZip (Related r) (last_values n w.hand) (last_values n v.hand) =
      subst (λ m. AllZip (Related r) (last_values n w.hand) (drop (m - n) v.hand)) long (zip_drop (Related r) (length w.hand - n) w.hand v.hand h.hand) in
      let before : AllZip (Related r) (values_before n w.hand) (values_before n v.hand) =
      subst (λ m. AllZip (Related r) (values_before n w.hand) (take (m - n) v.hand)) long (zip_take (Related r) (length w.hand - n) w.hand v.hand h.hand) in
      m_either (nat_le n (length w.hand)) (nat_le n (length v.hand)) (ap (nat_le n) long) (k _ _ _ _ before last) (m_stays (Refused NoValue) (Refused NoValue) refl)

  pub m_gathered : (n : ℕ) (make : List Tree → Tree) → ((ts us : List Tree) → AllZip (Related r) ts us → Related r (make ts) (make us)) → Matches r w v (gathered w n make) (gathered v n make)
  m_gathered n make k = m_taken_off n _ _ (λ ts us xs ys before last. m_hand {c = true} {d = true} _ _ (zip_append (Related r) ts (make xs ∷ []) us (make ys ∷ []) before (k xs ys last, tt)))
