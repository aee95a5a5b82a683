-- The state of a search through the chunks and through one list.
use Rattle.std.proofs.Common.{◌≡◌, ℕ, zero, suc, ◌+◌, ◌<◌, ◌≤◌, List, [], ◌++◌, length, map, take, drop, refl, ap, sym, subst, arith}
use Rattle.std.proofs.lemmas.List.{length-map}
use Rattle.rhai_value.specs.Lists.{rows, chunk_rows, joined, lists_of, rows_of, AreAbove, AreBelow, IsGap, IsHit}
use Rattle.rhai_value.specs.Rows.{Rows, bytes_cmp, AreRising}
use Rattle.rhai_value.specs.Seats.{list_at, IsFound, IsMissing}
use Rattle.rhai_value.specs.Tree.{fresh, unit}
use Rattle.rhai_value.specs.declared.map.Chunk.{Chunk}
use Rattle.rhai_value.specs.declared.map.Entry.{Entry}
use Rattle.rhai_value.specs.declared.map.MapParts.{MapParts}
use Rattle.rhai_value.proofs.Lists.{above_both, below_both}

module _ (k : List ℕ) (p : MapParts) (rising : AreRising (rows_of p)) (cs : List Chunk) (same : cs ≡ p.rest.items) (n : ℕ) (bound : n ≤ length cs)
    (above : AreAbove bytes_cmp k (joined (drop n (map chunk_rows cs))))
    (below : (m : ℕ) → n ≡ m + 1 → (xs : Rows) → AreRising (xs ++ joined (map chunk_rows cs)) → AreBelow bytes_cmp k (xs ++ joined (take m (map chunk_rows cs)))) where
  -- the keys in the lists before
  before : (j : ℕ) → n ≡ j → AreBelow bytes_cmp k (joined (take j (lists_of p)))
  before zero is = tt
  before (suc m) is =
      subst (λ ds. AreBelow bytes_cmp k (rows p.first.items ++ joined (take m (map chunk_rows ds)))) same
      (below m (omega (arith, is)) (rows p.first.items) (subst (λ ds. AreRising (rows p.first.items ++ joined (map chunk_rows ds))) (sym same) rising))

  pub inside : n < length (lists_of p)
  inside = omega (arith, bound, ap length same, length-map p.rest.items chunk_rows)

  -- in the list of this number
  module _ (es : List Entry) (is : rows es ≡ list_at p n) (i : ℕ) where
    pub seat_found : IsHit k (rows es) i → IsFound k p (record { list = n; at = i })
    seat_found here =
        let hit = subst (λ rs. IsHit k rs i) is here in
        record {
          seated = record { list = inside; within = hit.0 };
          below = below_both bytes_cmp k (joined (take n (lists_of p))) (take i (list_at p n)) (before n refl) hit.1;
          same = hit.2 ([], fresh unit);
        }

    pub seat_missing : IsGap k (rows es) i → IsMissing k p (record { list = n; at = i })
    seat_missing here =
        let gap = subst (λ rs. IsGap k rs i) is here in
        record {
          seat = record { list = inside; within = gap.0 };
          below = below_both bytes_cmp k (joined (take n (lists_of p))) (take i (list_at p n)) (before n refl) gap.1;
          above = above_both bytes_cmp k (drop i (list_at p n)) (joined (drop (suc n) (lists_of p))) gap.2 (subst (λ ds. AreAbove bytes_cmp k (joined (drop n (map chunk_rows ds)))) same above);
        }
