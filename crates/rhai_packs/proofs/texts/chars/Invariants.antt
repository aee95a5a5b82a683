use Rattle.std.proofs.Common.{◌≡◌, ◌≤◌, length, map, take, vec_capacity}
use Rattle.rhai_value.specs.Tree.{char, fresh}
use Rattle.rhai_packs.proofs.texts.chars.Given as goal

abbrev pub invariant-loop-character : goal.invariant-loop-character
invariant-loop-character l = record {
  room : length l.character-items ≤ vec_capacity l.items;
  copied : l.items.items ≡ map (λ c. fresh (char c)) (take l.character-index l.character-items);
}
