use denote.Shadow.{shadow}
use denote.Text.{Utf8}
use Rattle.std.proofs.Common.{◌≡◌, ◌++◌, List, ℕ, length, map}
use Rattle.rhai_value.specs.Tree.{fresh, text}
use Rattle.rhai_packs.specs.Splits.{AreCutOff}
use Rattle.rhai_packs.proofs.texts.cuts.split_at_each.Given as goal

abbrev pub invariant-loop-part : goal.invariant-loop-part
invariant-loop-part l = record {
  spelled : shadow (Utf8 l.rest);
  done : List (List ℕ);
  made : l.parts.items ≡ map (λ t. fresh (text t)) done;
  more : (others : List (List ℕ)) → AreCutOff l.side l.separator l.left l.rest others → AreCutOff l.side l.separator l.fn.most l.fn.text (done ++ others);
}

abbrev pub decreases-loop-part : goal.decreases-loop-part
decreases-loop-part l = length l.rest
