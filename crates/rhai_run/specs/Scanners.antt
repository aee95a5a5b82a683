-- The effect of the scanners on a value, and that they add no nodes.
use Rattle.std.specs.Prelude.{ℕ, zero, suc, ◌+◌, ◌-◌, ◌^◌, ◌≤◌, pos, min, slice_set, if◌then◌else◌, is_some}
use Rattle.std.proofs.Common.{arith, refl}
use Rattle.std.specs.Option.{option_map_or}
use Rattle.rhai_value.specs.Parts.{array_of, with_content, with_int}
use Rattle.rhai_value.specs.Scan.{Visiting, AddsNoNodes, nodes_kept, nodes_unit}
use Rattle.rhai_value.specs.Tree.{Tree, node, leaf, branch, fields, holder, array, function, Trees, no_trees, tree_then, nodes, nodes_trees, fresh, unit, cell_of, with_tag}
use Rattle.rhai_run.specs.declared.command.Scanner.{Scanner}
use Rattle.rhai_run.specs.declared.command.Scanner.TheVariants as scanner
use Rattle.rhai_run.specs.declared.scanners.Visits.{Visits}
use Rattle.rhai_run.specs.declared.answer.Answer.TheVariants as answer
use Rattle.rhai_run.specs.Outcome.{Outcome, free}
use Rattle.rhai_run.specs.State.{State, with_hand}

-- the first n of these
abbrev pub first_trees : ℕ → Trees → Trees
first_trees zero ts = no_trees
first_trees (suc n) no_trees = no_trees
first_trees (suc n) (tree_then t ts) = tree_then t (first_trees n ts)

-- the effect of a scanner on one value: another tag; 0 for an int; unit for a holder; fewer items of an array
abbrev pub scanned : Scanner → Tree → Tree
scanned (scanner.Tags g) t = with_tag g t
scanned scanner.Zero t = with_int (pos 0) t
scanned scanner.NoShare t = if is_some (cell_of t) then fresh unit else t
scanned (scanner.Cut n) t = option_map_or (λ ts. with_content (branch array (first_trees n ts)) t) (array_of t) t

-- each visit counts, saturating at the greatest 64-bit number
abbrev pub visited : Visiting Visits
visited v t = (record v { visits = min (v.visits + 1) (2 ^ 64 - 1) }, scanned v.scanner t)

-- before the first visit
abbrev pub unvisited : Scanner → Visits
unvisited k = record { scanner = k; visits = 0 }

-- a scanner scans the value at i; the answer is the number of visited values
abbrev pub scan_done : State → ℕ → Visits × Tree → Outcome
scan_done w i o = free (answer.Int (pos o.0.visits)) (with_hand w (slice_set w.hand i o.1))

fewer_trees : (n : ℕ) (ts : Trees) → nodes_trees (first_trees n ts) ≤ nodes_trees ts
fewer_trees zero ts = omega arith
fewer_trees (suc n) no_trees = omega arith
fewer_trees (suc n) (tree_then t ts) = omega (arith, fewer_trees n ts)

pub no_more_nodes : AddsNoNodes visited
no_more_nodes v t = by v.scanner t
  where
    by : (k : Scanner) (t : Tree) → nodes (scanned k t) ≤ nodes t
    by (scanner.Tags g) (node c h m) = omega arith
    by scanner.Zero t = nodes_kept _ _ t refl
    by scanner.NoShare t = nodes_unit _ t
    by (scanner.Cut n) (node (leaf l) g m) = omega arith
    by (scanner.Cut n) (node (branch array ts) g m) = omega (arith, fewer_trees n ts)
    by (scanner.Cut n) (node (branch (function f) ts) g m) = omega arith
    by (scanner.Cut n) (node (fields fs) g m) = omega arith
    by (scanner.Cut n) (node (holder c) g m) = omega arith
