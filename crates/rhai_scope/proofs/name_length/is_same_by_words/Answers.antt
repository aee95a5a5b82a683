use Rattle.std.proofs.Common.{◌≡◌, ◌-◌, nat_eq, length, ap₂, sym, ◌∙◌, arith}
use Rattle.rhai_scope.specs.NameFilter.{word_at}
use Rattle.rhai_scope.proofs.Words.{first_tell}
use Rattle.rhai_scope.proofs.name_length.is_same_by_words.Goals as goal

pub returns-then-word_at : goal.returns-then-word_at
returns-then-word_at c =
    let xs = c.args.own.now in
    let ys = c.args.name.now in
    let back : word_at xs (length ys - 4) ≡ word_at ys (length ys - 4) = sym c.word_at.ensures ∙ c.if-word_at.true ∙ c.word_at-2.ensures in
    ap₂ nat_eq c.word_at-then-word_at.ensures c.word_at-then-word_at-2.ensures
    ∙ first_tell xs ys (λ i. omega (arith, c.type_inv.own i)) (λ i. omega (arith, c.type_inv.name i)) c.requires.2 c.requires.0 c.requires.1 back
