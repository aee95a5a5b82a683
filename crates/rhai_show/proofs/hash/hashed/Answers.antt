use Rattle.std.proofs.Common.{[], Some, IfSome, option_copied, option_map, ap, sym, ◌∙◌, subst}
use Rattle.rhai_show.specs.HashBytes.{plain_bytes}
use Rattle.rhai_show.specs.InRange.{IsInRange}
use Rattle.rhai_value.specs.Tree.{int}
use Rattle.rhai_show.proofs.Barred.{read_plain}
use Rattle.rhai_show.proofs.Hashes.{leaf_made}
use Rattle.rhai_show.proofs.Ints.{int_tree}
use Rattle.rhai_show.proofs.Ranges.{is_hashed, leaf_ranged}
use Rattle.rhai_show.proofs.hash.hashed.Goals as goal

pub returns-in-Some-own-clause-bytes : goal.returns-in-Some-own-clause-bytes
returns-in-Some-own-clause-bytes c =
    let read = read_plain c.args.store.now c.args.value.now c.in-Some.content.now (ap option_copied (sym c.in-Some.is) ∙ c.read_whole.ensures) in
    let made = int_tree c.in-Some.content.now c.in-Some-own.number.now (sym c.in-Some-own.ensures) in
    leaf_made c.args.store.now read.0 c.in-Some.content.now (int c.in-Some-own.number.now) made.0 made.1 c.of_int.result [] made.2 c.of_int.ensures.bytes ∙ ap (option_map plain_bytes) read.1

pub returns-in-Some-own-clause-told : goal.returns-in-Some-own-clause-told
returns-in-Some-own-clause-told c =
    let read = read_plain c.args.store.now c.args.value.now c.in-Some.content.now (ap option_copied (sym c.in-Some.is) ∙ c.read_whole.ensures) in
    let made = int_tree c.in-Some.content.now c.in-Some-own.number.now (sym c.in-Some-own.ensures) in
    is_hashed c.args.store.now c.args.value.now (Some c.of_int.result) (returns-in-Some-own-clause-bytes c)
    (subst (λ o. IfSome o IsInRange) read.1 (leaf_ranged c.args.store.now read.0 c.in-Some.content.now (int c.in-Some-own.number.now) made.0 made.1 made.2 c.of_int.ensures.range))
