use Rattle.std.proofs.Common.{◌++◌, Some, IfSome, option_map, ap, ◌∙◌, subst}
use Rattle.rhai_show.specs.HashBytes.{plain_bytes}
use Rattle.rhai_show.specs.InRange.{IsInRange}
use Rattle.rhai_show.specs.Plain.{plain}
use Rattle.rhai_show.specs.Shape.{leaf_of}
use Rattle.rhai_show.proofs.Barred.{read_plain}
use Rattle.rhai_show.proofs.Hashes.{leaf_made}
use Rattle.rhai_show.proofs.Ranges.{is_hashed, leaf_ranged}
use Rattle.rhai_show.proofs.hash.hashed_content.Goals as goal

pub returns-clause-bytes : goal.returns-clause-bytes
returns-clause-bytes c =
    let read = read_plain c.args.store.now c.args.value.now c.args.content.now c.requires in
    let h = c.in-Leaf.ensures in
    ap Some c.from_bytes.ensures
    ∙ leaf_made c.args.store.now read.0 c.args.content.now (leaf_of c.in-Leaf.leaf) h.0 h.1 _ _ h.2 c.in_ok-add_leaf.ensures.bytes
    ∙ ap (λ xs. option_map (λ p. xs ++ plain_bytes p) (plain c.args.store.now read.0 c.args.content.now)) c.new-bytes.ensures.items
    ∙ ap (option_map plain_bytes) read.1

pub returns-clause-told : goal.returns-clause-told
returns-clause-told c =
    let read = read_plain c.args.store.now c.args.value.now c.args.content.now c.requires in
    let h = c.in-Leaf.ensures in
    is_hashed c.args.store.now c.args.value.now (Some c.from_bytes.result) (returns-clause-bytes c) (subst (λ o. IfSome o IsInRange) read.1 (leaf_ranged c.args.store.now read.0 c.args.content.now (leaf_of c.in-Leaf.leaf) h.0 h.1 h.2 c.in_ok-add_leaf.ensures.range))
