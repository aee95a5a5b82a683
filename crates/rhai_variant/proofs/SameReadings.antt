-- Reads and writes as a type don't depend on cell numbers.
use Rattle.std.proofs.Common.{Bool, true, false, Some, None, option_map, cond, refl, subst}
use Rattle.rhai_value.specs.declared.cells.chain.Site.TheVariants.{Here}
use Rattle.rhai_value.specs.declared.value.type_id.TypeId.{TypeId}
use Rattle.rhai_value.specs.declared.value.type_id.TypeId.TheVariants as id
use Rattle.rhai_value.specs.End.{held}
use Rattle.rhai_value.specs.Relation.{Renaming, Related, RelatedContent, Respect, Alike}
use Rattle.rhai_value.specs.Tree.{Tree, node, Content, content_of, made}
use Rattle.rhai_value.specs.Types.{is_type, tree_type, typed_content}
use Rattle.rhai_value.proofs.ForCallers.{same_end_type}
use Rattle.rhai_variant.specs.Reads.{read, viewed, written_as}

same_if : (r : Renaming) (b : Bool) (c d : Content) → RelatedContent r c d → Alike (Related r) (option_map made (cond b (Some c) None)) (option_map made (cond b (Some d) None))
same_if r true c d e = (e, refl, refl)
same_if r false c d e = tt

same_content : (r : Renaming) (t u : Tree) → Related r t u → RelatedContent r (content_of t) (content_of u)
same_content r (node c g m) (node d h n) e = e.0

same_typed : (r : Renaming) (k : TypeId) (t u : Tree) → Related r t u → Alike (Related r) (option_map made (typed_content k t)) (option_map made (typed_content k u))
same_typed r k t u e =
    subst (λ o. Alike (Related r) (option_map made (typed_content k t)) (option_map made (cond (is_type k o) (Some (content_of u)) None)))
    (same_end_type r (held Here t) (held Here u) (tt, e)) (same_if r (is_type k (tree_type t)) (content_of t) (content_of u) (same_content r t u e))

pub same_read : (r : Renaming) (k : TypeId) (t u : Tree) → Related r t u → Alike (Related r) (read k t) (read k u)
same_read r id.Dynamic t u e = e
same_read r id.String t u e = same_typed r id.ImmutableString t u e
same_read r k t u e = same_typed r k t u e

pub same_viewed : (r : Renaming) (k : TypeId) (t u : Tree) → Related r t u → Alike (Related r) (viewed k t) (viewed k u)
same_viewed r id.String t u e = tt
same_viewed r id.Dynamic t u e = e
same_viewed r k t u e = same_typed r k t u e

same_over : (r : Renaming) (v w : Tree) → Related r v w → (t u : Tree) → Related r t u → Related r (written_as id.Unit v t) (written_as id.Unit w u)
same_over r (node a f l) (node b i p) h (node c g m) (node d j n) e = (h.0, e.1, e.2)

pub same_written_as : (r : Renaming) (k : TypeId) (v w : Tree) → Related r v w → Respect r (written_as k v) (written_as k w)
same_written_as r id.Dynamic v w h t u e = h
same_written_as r k v w h t u e = same_over r v w h t u e
