use Rattle.std.proofs.Common.{◌≡◌, ◌++◌, List, ℕ, map}
use Rattle.std.specs.Str.Iter.{split_whitespace_rest}
use Rattle.rhai_value.specs.Tree.{fresh, text}
use Rattle.rhai_packs.specs.Splits.{AreWords}
use Rattle.rhai_packs.proofs.texts.cuts.words.Given as goal

abbrev pub invariant-loop-word : goal.invariant-loop-word
invariant-loop-word l = record {
  done : List (List ℕ);
  made : l.parts.items ≡ map (λ t. fresh (text t)) done;
  more : (others : List (List ℕ)) → AreWords (split_whitespace_rest l.word-iterator) others → AreWords l.text (done ++ others);
}
