-- What a copy keeps.
use Rattle.std.proofs.Common.{refl}
use Rattle.rhai_value.specs.Tree.{Tree, copy, copy_trees, copy_fields}
use Rattle.rhai_value.specs.Copied.{SameButModes, AllSameButModes, SameFieldsButModes, IsWritable, AreWritable, AreFieldsWritable}
use Rattle.rhai_value.proofs.Trees.{by_value}

pub same_but_modes : (t : Tree) → SameButModes (copy t) t
same_but_modes = by_value (λ t. SameButModes (copy t) t) (λ ts. AllSameButModes (copy_trees ts) ts) (λ fs. SameFieldsButModes (copy_fields fs) fs)
    (λ l g m. (refl, refl)) (λ k ts g m h. ((refl, h), refl)) (λ fs g m h. (h, refl)) (λ c g m. (refl, refl)) tt (λ t ts p q. (p, q)) tt (λ k t fs p q. (refl, p, q))

pub all_writable : (t : Tree) → IsWritable (copy t)
all_writable = by_value (λ t. IsWritable (copy t)) (λ ts. AreWritable (copy_trees ts)) (λ fs. AreFieldsWritable (copy_fields fs))
    (λ l g m. (refl, tt)) (λ k ts g m h. (refl, h)) (λ fs g m h. (refl, h)) (λ c g m. (refl, tt)) tt (λ t ts p q. (p, q)) tt (λ k t fs p q. (p, q))
