-- The rows of a map that a command makes have at each key the last value given for it.
use Rattle.std.proofs.Common.{◌≡◌, ℕ, cond, List, [], ◌∷◌, ◌++◌, map, Some, refl, sym, ap, ◌∙◌, subst}
use Rattle.std.proofs.lemmas.Cmp.{nat_list_cmp_total}
use Rattle.std.proofs.lemmas.List.{append_assoc, append-nil, reverse-append}
use Rattle.std.specs.BTreeMap.{insert_entry, is_at}
use Rattle.std.specs.List.{zip}
use Rattle.std.specs.Map.{lookup}
use Rattle.std.specs.Prelude.{reverse}
use Rattle.std.specs.Str.{encode_utf8_all}
use Rattle.rhai_value.proofs.ForCallers.{found_inserted}
use Rattle.rhai_value.specs.Rows.{Rows, bytes_cmp}
use Rattle.rhai_value.specs.Tree.{Tree}
use Rattle.rhai_run.specs.Made.{rows_with}

-- a look-up in rows finds the last one among the pairs
abbrev FindsLast : Rows → Rows → Type 0
FindsLast ps rs = (q : List ℕ) → lookup (is_at (bytes_cmp q)) rs ≡ lookup (is_at (bytes_cmp q)) (reverse ps)

one_more : (ps rs : Rows) (k : List ℕ) (t : Tree) → FindsLast ps rs → FindsLast (ps ++ (k, t) ∷ []) (insert_entry bytes_cmp rs k t)
one_more ps rs k t h q =
    found_inserted nat_list_cmp_total q k t rs ∙ ap (cond (is_at (bytes_cmp q) k) (Some t)) (h q) ∙ sym (ap (lookup (is_at (bytes_cmp q))) (reverse-append ps ((k, t) ∷ [])))

more : (ps rs : Rows) (ks : List (List ℕ)) (ts : List Tree) → FindsLast ps rs → FindsLast (ps ++ zip (map encode_utf8_all ks) ts) (rows_with rs ks ts)
more ps rs [] ts h = subst (λ xs. FindsLast xs rs) (sym (append-nil ps)) h
more ps rs (k ∷ ks) [] h = subst (λ xs. FindsLast xs rs) (sym (append-nil ps)) h
more ps rs (k ∷ ks) (t ∷ ts) h =
    subst (λ xs. FindsLast xs (rows_with rs (k ∷ ks) (t ∷ ts))) (append_assoc ps ((encode_utf8_all k, t) ∷ []) (zip (map encode_utf8_all ks) ts))
    (more (ps ++ (encode_utf8_all k, t) ∷ []) (insert_entry bytes_cmp rs (encode_utf8_all k) t) ks ts (one_more ps rs (encode_utf8_all k) t h))

pub last_found : (ks : List (List ℕ)) (ts : List Tree) (q : List ℕ) → lookup (is_at (bytes_cmp q)) (rows_with [] ks ts) ≡ lookup (is_at (bytes_cmp q)) (reverse (zip (map encode_utf8_all ks) ts))
last_found ks ts q = more [] [] ks ts (λ p. refl) q
