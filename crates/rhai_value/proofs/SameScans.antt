-- Scans by visitors that map related values to related ones.
use Rattle.std.proofs.Common.{◌≡◌, ℕ, zero, suc, ◌+◌, refl, sym, ap, ap₂, ◌∙◌, subst}
use Rattle.rhai_value.specs.Tree.{Tree, Trees, no_trees, tree_then, Fields, no_fields, field_then, nodes, nodes_trees, nodes_fields}
use Rattle.rhai_value.specs.Relation.{Renaming, Related, AllRelated, RelatedFields}
use Rattle.rhai_value.specs.Scan.{Visiting, SameVisits, each_scanned, fields_scanned, children_scanned, scan_in, scan}
use Rattle.rhai_value.proofs.SameTrees.{by_related, by_trees}

-- two visitors map related states and values to related ones
abbrev pub RelatedVisits : {S Z : Type 0} → Renaming → (S → Z → Type 0) → Visiting S → Visiting Z → Type 0
RelatedVisits {S} {Z} r R f h = (v : S) (w : Z) (t u : Tree) → R v w → Related r t u → R (f v t).0 (h w u).0 × Related r (f v t).1 (h w u).1

-- related values have equally many nodes
pub same_nodes : (r : Renaming) (t u : Tree) → Related r t u → nodes t ≡ nodes u
same_nodes r = by_related r (λ t u. nodes t ≡ nodes u) (λ ts us. nodes_trees ts ≡ nodes_trees us) (λ fs hs. nodes_fields fs ≡ nodes_fields hs)
    (λ l g m. refl) (λ k ts us g m e h. ap suc h) (λ fs hs g m e h. ap suc h) (λ c d g m e. refl) refl (λ t u ts us p q. ap₂ (λ a b. a + b) p q) refl (λ k t u fs hs p q. ap₂ (λ a b. a + b) p q)

module _ {S Z : Type 0} (r : Renaming) (R : S → Z → Type 0) where
  module _ (f : Visiting S) (h : Visiting Z) (same : RelatedVisits r R f h) where
    each : (v : S) (w : Z) (ts us : Trees) → R v w → AllRelated r ts us → R (each_scanned f v ts).0 (each_scanned h w us).0 × AllRelated r (each_scanned f v ts).1 (each_scanned h w us).1
    each v w no_trees no_trees p e = (p, tt)
    each v w (tree_then t ts) (tree_then u us) p e =
        let one = same v w t u p e.0 in
        let others = each (f v t).0 (h w u).0 ts us one.0 e.1 in
        (others.0, (one.1, others.1))
    each v w _ _ p e = absurd e

    each_field : (v : S) (w : Z) (fs hs : Fields) → R v w → RelatedFields r fs hs → R (fields_scanned f v fs).0 (fields_scanned h w hs).0 × RelatedFields r (fields_scanned f v fs).1 (fields_scanned h w hs).1
    each_field v w no_fields no_fields p e = (p, tt)
    each_field v w (field_then k t fs) (field_then j u hs) p e =
        let one = same v w t u p e.1 in
        let others = each_field (f v t).0 (h w u).0 fs hs one.0 e.2 in
        (others.0, (e.0, one.1, others.1))
    each_field v w _ _ p e = absurd e

    children : (v : S) (w : Z) (t u : Tree) → R v w → Related r t u → R (children_scanned f v t).0 (children_scanned h w u).0 × Related r (children_scanned f v t).1 (children_scanned h w u).1
    children v w t u p =
        by_trees r (λ t u. R (children_scanned f v t).0 (children_scanned h w u).0 × Related r (children_scanned f v t).1 (children_scanned h w u).1)
        (λ l g m. (p, (refl, refl, refl)))
        (λ k ts us g m e. let all = each v w ts us p e in (all.0, ((refl, all.1), refl, refl)))
        (λ fs hs g m e. let all = each_field v w fs hs p e in (all.0, (all.1, refl, refl)))
        (λ c d g m e. (p, (e, refl, refl))) t u

  same_scan_in : (f : Visiting S) (h : Visiting Z) → RelatedVisits r R f h → (n : ℕ) → RelatedVisits r R (scan_in f n) (scan_in h n)
  same_scan_in f h same zero v w t u p e = (p, e)
  same_scan_in f h same (suc n) v w t u p e =
      let one = same v w t u p e in
      children (scan_in f n) (scan_in h n) (same_scan_in f h same n) (f v t).0 (h w u).0 (f v t).1 (h w u).1 one.0 one.1

  pub same_scan : (f : Visiting S) (h : Visiting Z) → RelatedVisits r R f h → RelatedVisits r R (scan f) (scan h)
  unfolding scan
  same_scan f h same v w t u p e =
      let it = same_scan_in f h same (nodes t) v w t u p e in
      rw (sym (same_nodes r t u e)) it

-- the same for one visitor, whose state has no cell numbers
pub same_visits : {S : Type 0} (r : Renaming) (f : Visiting S) → SameVisits r f → SameVisits r (scan f)
same_visits {S} r f same v t u e =
    same_scan r (λ (a : S) (b : S). a ≡ b) f f (λ v w t u p e. let one = same v t u e in (one.0 ∙ ap (λ a. (f a u).0) p, subst (λ a. Related r (f v t).1 (f a u).1) p one.1)) v v t u refl e
