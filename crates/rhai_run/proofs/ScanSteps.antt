-- Scans, on two states that are equal up to a renaming.
use Rattle.std.proofs.Common.{◌≡◌, ℕ, ℤ, zero, suc, pos, Bool, true, false, cond, refl, ap}
use Rattle.rhai_value.specs.declared.value.access_mode.AccessMode.{AccessMode}
use Rattle.rhai_value.specs.Relation.{Renaming, Related, AllRelated}
use Rattle.rhai_value.specs.Scan.{SameVisits}
use Rattle.rhai_value.specs.Tree.{Tree, node, branch, Kind, array, function, Trees, no_trees, tree_then, fresh, unit}
use Rattle.rhai_value.proofs.ForCallers.{by_trees, same_shared, same_visits, same_with_int, same_with_tag}
use Rattle.rhai_run.specs.declared.command.Scanner.{Scanner}
use Rattle.rhai_run.specs.declared.command.Scanner.TheVariants as scanner
use Rattle.rhai_run.specs.Correspondence.{RelatedStates}
use Rattle.rhai_run.specs.declared.answer.Answer.TheVariants as answer
use Rattle.rhai_run.specs.Scanners.{first_trees, scanned, visited, unvisited}
use Rattle.rhai_run.specs.State.{State}
use Rattle.rhai_run.proofs.Outcome.{Matches, no_cell, m_value, set_hand}
use Rattle.rhai_run.specs.declared.command.Command.TheVariants as command
use Rattle.rhai_run.specs.Step.{step}

module _ (r : Renaming) where
  same_first_trees : (n : ℕ) (ts us : Trees) → AllRelated r ts us → AllRelated r (first_trees n ts) (first_trees n us)
  same_first_trees zero ts us h = tt
  same_first_trees (suc n) no_trees no_trees h = tt
  same_first_trees (suc n) (tree_then t ts) (tree_then u us) h = (h.0, same_first_trees n ts us h.1)
  same_first_trees (suc n) no_trees (tree_then u us) h = absurd h
  same_first_trees (suc n) (tree_then t ts) no_trees h = absurd h

  unless_holder : (b d : Bool) (t u : Tree) → b ≡ d → Related r t u → Related r (cond b (fresh unit) t) (cond d (fresh unit) u)
  unless_holder true true t u e h = (refl, refl, refl)
  unless_holder false false t u e h = h
  unless_holder true false t u e h = cc
  unless_holder false true t u e h = cc

  same_scanned : (k : Scanner) (t u : Tree) → Related r t u → Related r (scanned k t) (scanned k u)
  same_scanned (scanner.Tags g) t u h = same_with_tag r g t u h
  same_scanned scanner.Zero t u h = same_with_int r (pos 0) t u h
  same_scanned scanner.NoShare t u h = unless_holder _ _ t u (same_shared r t u h) h
  same_scanned (scanner.Cut n) t u h =
      by_trees r (λ t u. Related r (scanned (scanner.Cut n) t) (scanned (scanner.Cut n) u))
      (λ l g m. (refl, refl, refl))
      cut
      (λ fs hs g m e. (e, refl, refl))
      (λ c d g m p. (p, refl, refl))
      t u h
    where
      cut : (k : Kind) (ts us : Trees) (g : ℤ) (m : AccessMode) → AllRelated r ts us → Related r (scanned (scanner.Cut n) (node (branch k ts) g m)) (scanned (scanner.Cut n) (node (branch k us) g m))
      cut array ts us g m e = ((refl, same_first_trees n ts us e), refl, refl)
      cut (function f) ts us g m e = ((refl, e), refl, refl)

  pub scanners_same : SameVisits r visited
  scanners_same v t u h = (refl, same_scanned v.scanner t u h)

module _ (r : Renaming) (w v : State) (h : RelatedStates r w v) where
  pub same_scan_step : (i : ℕ) (k : Scanner) → Matches r w v (step w (command.Scan i k)) (step v (command.Scan i k))
  same_scan_step i k =
      m_value r w v h i _ _ (λ t u e.
      let o = same_visits r visited (scanners_same r) (unvisited k) t u e in
      no_cell r w v h _ _ _ _ (ap (λ x. answer.Int (pos x.visits)) o.0) refl refl
      (record { one = h.one; cells = h.cells; entries = h.entries; marks = h.marks; hand = set_hand r w v h i _ _ o.1; limits = h.limits })
      (λ m. m))

-- the steps in this file
pub ruleset scan_steps = (same_scan_step)
