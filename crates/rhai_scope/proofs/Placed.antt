-- The places of all names, after a name is added or removed.
use Rattle.std.proofs.Common.{◌≡◌, ℕ, ◌+◌, ◌-◌, Bool, true, false, cond, nat_eq, List, [], ◌∷◌, ◌++◌, length, map, take, Option, option_map, refl, sym, ap, ap₂, ◌∙◌, subst, arith}
use Rattle.std.proofs.lemmas.List.{length-append, length-map, map-append}
use Rattle.std.proofs.lemmas.Slice.Eq.{bytes_eq-Decides}
use Rattle.std.proofs.Math.Seq.{take-append_seam}
use Rattle.std.specs.Cmp.Lexicographic.{pointwise, bytes_decides}
use Rattle.std.specs.Str.{IsUtf8, bytes_eq, chars}
use Rattle.rhai_value.specs.Reach.{trues_from}
use Rattle.rhai_scope.specs.NameIndex.{listed, unless_empty, with_place, shortened, front, others, lowered, AllPass, Relists, Lists, are_named, with_gap, ListsNames}
use Rattle.rhai_scope.specs.declared.name_index.NameIndex.{NameIndex}
use Rattle.rhai_scope.proofs.Filtered.{still_pass, relisted_pass}
use Rattle.rhai_scope.proofs.Names.{same_bytes}
use Rattle.rhai_value.proofs.ForCallers.{false_more, true_more}
use Rattle.rhai_scope.proofs.Trues.{gap_made, gap_closed}

-- ---- lists, one of which is changed by f

module _ (text : List ℕ) (utf8 : IsUtf8 text) (p r : NameIndex) where
  relisted : (f : Option (List ℕ) → Option (List ℕ)) (stood stand : List ℕ → List Bool) → Lists p stood
      → f (unless_empty (trues_from 0 (stood (chars text)))) ≡ unless_empty (trues_from 0 (stand (chars text)))
      → ((name : List ℕ) → pointwise nat_eq (chars text) name ≡ false → trues_from 0 (stood name) ≡ trues_from 0 (stand name))
      → AllPass r → Relists f text (listed p) (listed r) → Lists r stand
  relisted f stood stand old here there pass new = record { pass = pass; places = λ q u. new q ∙ at q u (bytes_eq text q) refl }
    where
      at : (q : List ℕ) → IsUtf8 q → (b : Bool) → bytes_eq text q ≡ b → cond b (f (listed p q)) (listed p q) ≡ unless_empty (trues_from 0 (stand (chars q)))
      at q u true e = ap f (old.places q u) ∙ subst (λ t. f (unless_empty (trues_from 0 (stood (chars t)))) ≡ unless_empty (trues_from 0 (stand (chars t)))) ((bytes_eq-Decides text q).0 e) here
      at q u false e = old.places q u ∙ ap unless_empty (there (chars q) (sym (same_bytes text q utf8 u) ∙ e))

  named_more : (ns : List (List ℕ)) (n q : List ℕ) (b : Bool) → pointwise nat_eq n q ≡ b → are_named (ns ++ n ∷ []) q ≡ are_named ns q ++ b ∷ []
  named_more ns n q b e = map-append (λ m. pointwise nat_eq m q) ns (n ∷ []) ∙ ap (λ c. are_named ns q ++ c ∷ []) e

  named_between : (ms ns : List (List ℕ)) (n q : List ℕ) (b : Bool) → pointwise nat_eq n q ≡ b → are_named (ms ++ n ∷ ns) q ≡ are_named ms q ++ b ∷ are_named ns q
  named_between ms ns n q b e = map-append (λ m. pointwise nat_eq m q) ms (n ∷ ns) ∙ ap (λ c. are_named ms q ++ c ∷ are_named ns q) e

  itself : (n : List ℕ) → pointwise nat_eq n n ≡ true
  itself n = (bytes_decides n n).1 refl

  -- a name is added
  added : (place : ℕ) (ps : List ℕ) → with_place place (unless_empty ps) ≡ unless_empty (ps ++ place ∷ [])
  added place [] = refl
  added place (q ∷ ps) = refl

  pub names_pushed : (place : ℕ) (ns : List (List ℕ)) → length ns ≡ place → ListsNames p ns
      → (AllPass p → AllPass r × Relists (with_place place) text (listed p) (listed r)) → ListsNames r (ns ++ chars text ∷ [])
  names_pushed place ns is old more =
      let stood = are_named ns (chars text) in
      relisted (with_place place) (are_named ns) (are_named (ns ++ chars text ∷ [])) old
      (added place (trues_from 0 stood)
      ∙ ap (λ n. unless_empty (trues_from 0 stood ++ n ∷ [])) (sym (length-map ns (λ m. pointwise nat_eq m (chars text)) ∙ is))
      ∙ ap unless_empty (sym (ap (trues_from 0) (named_more ns (chars text) (chars text) true (itself (chars text))) ∙ true_more stood)))
      (λ q other. sym (ap (trues_from 0) (named_more ns (chars text) q false other) ∙ false_more (are_named ns q)))
      (more old.pass).0 (more old.pass).1

  -- the last name is removed
  without_last : (ps : List ℕ) (place : ℕ) → shortened front (unless_empty (ps ++ place ∷ [])) ≡ unless_empty ps
  without_last ps place = at (ps ++ place ∷ []) refl
    where
      at : (qs : List ℕ) → qs ≡ ps ++ place ∷ [] → shortened front (unless_empty qs) ≡ unless_empty ps
      at [] e = let long : 0 ≡ length ps + 1 = ap length e ∙ length-append ps (place ∷ []) in absurd (omega arith)
      at (q ∷ qs) e =
          let long : length (q ∷ qs) - 1 ≡ length ps = (let l : length (q ∷ qs) ≡ length ps + 1 = ap length e ∙ length-append ps (place ∷ []) in omega arith) in
          ap unless_empty (ap₂ take long e ∙ take-append_seam ps (place ∷ []))

  pub names_popped : (ns : List (List ℕ)) → ListsNames p (ns ++ chars text ∷ [])
      → Relists (shortened front) text (listed p) (listed r) → r.filter ≡ p.filter → ListsNames r ns
  names_popped ns old new same =
      relisted (shortened front) (are_named (ns ++ chars text ∷ [])) (are_named ns) old
      (ap (λ bs. shortened front (unless_empty (trues_from 0 bs))) (named_more ns (chars text) (chars text) true (itself (chars text)))
      ∙ ap (λ ps. shortened front (unless_empty ps)) (true_more (are_named ns (chars text)))
      ∙ without_last (trues_from 0 (are_named ns (chars text))) (length (are_named ns (chars text))))
      (λ q other. ap (trues_from 0) (named_more ns (chars text) q false other) ∙ false_more (are_named ns q))
      (relisted_pass p r old.pass (shortened front) text new refl same) new

  -- a name is removed, and leaves a gap
  fewer : (place : ℕ) (ps : List ℕ) → shortened (others place) (unless_empty ps) ≡ unless_empty (others place ps)
  fewer place [] = refl
  fewer place (q ∷ ps) = refl

  pub gap_left : (place : ℕ) (ms ns : List (List ℕ)) → length ms ≡ place → ListsNames p (ms ++ chars text ∷ ns)
      → Relists (shortened (others place)) text (listed p) (listed r) → r.filter ≡ p.filter → Lists r (with_gap ms ns)
  gap_left place ms ns is old new same =
      let before = are_named ms (chars text) in
      let after = are_named ns (chars text) in
      relisted (shortened (others place)) (are_named (ms ++ chars text ∷ ns)) (with_gap ms ns) old
      (ap (λ bs. shortened (others place) (unless_empty (trues_from 0 bs))) (named_between ms ns (chars text) (chars text) true (itself (chars text)))
      ∙ fewer place (trues_from 0 (before ++ true ∷ after))
      ∙ ap (λ n. unless_empty (others n (trues_from 0 (before ++ true ∷ after)))) (sym (length-map ms (λ m. pointwise nat_eq m (chars text)) ∙ is))
      ∙ ap unless_empty (gap_made before after))
      (λ q other. ap (trues_from 0) (named_between ms ns (chars text) q false other))
      (relisted_pass p r old.pass (shortened (others place)) text new refl same) new

-- the gap is closed
lowered_lists : (f : ℕ → ℕ) (ps : List ℕ) → option_map (map f) (unless_empty ps) ≡ unless_empty (map f ps)
lowered_lists f [] = refl
lowered_lists f (q ∷ ps) = refl

pub gap_gone : (p r : NameIndex) (place : ℕ) (ms ns : List (List ℕ)) → length ms ≡ place → Lists p (with_gap ms ns) → ((q : List ℕ) → listed r q ≡ option_map (map (lowered place)) (listed p q)) → r.filter ≡ p.filter → ListsNames r (ms ++ ns)
gap_gone p r place ms ns is old new same = record { pass = still_pass p r old.pass (option_map (map (lowered place))) refl new same; places = closed }
  where
    closed : (q : List ℕ) → IsUtf8 q → listed r q ≡ unless_empty (trues_from 0 (are_named (ms ++ ns) (chars q)))
    closed q u =
        let before = are_named ms (chars q) in
        let after = are_named ns (chars q) in
        new q ∙ ap (option_map (map (lowered place))) (old.places q u)
        ∙ lowered_lists (lowered place) (trues_from 0 (before ++ false ∷ after))
        ∙ ap (λ n. unless_empty (map (lowered n) (trues_from 0 (before ++ false ∷ after)))) (sym (length-map ms (λ m. pointwise nat_eq m (chars q)) ∙ is))
        ∙ ap unless_empty (gap_closed before after ∙ ap (trues_from 0) (sym (map-append (λ m. pointwise nat_eq m (chars q)) ms ns)))

-- nothing changed
pub same_names : (p r : NameIndex) (ns : List (List ℕ)) → ListsNames p ns → ((q : List ℕ) → listed r q ≡ listed p q) → r.filter ≡ p.filter → ListsNames r ns
same_names p r ns old new same = record { pass = still_pass p r old.pass (λ o. o) refl new same; places = λ q u. new q ∙ old.places q u }
