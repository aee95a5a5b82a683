use Rattle.std.proofs.Common.{rules, ◌≡◌, ◌∷◌, [], ap₂, ◌∙◌}
use Rattle.std.specs.Cmp.Lexicographic.{slice_cmp}
use Rattle.std.specs.Ordering.{nat_cmp}
use Rattle.rhai_ops.specs.Results.{text_order}
use Rattle.rhai_ops.proofs.chars.text_order_of.Goals as goal

pub returns : goal.returns
returns c =
    let order : c.cmp.result ≡ text_order (c.args.a ∷ []) c.args.b.now = c.cmp.ensures ∙ ap₂ (slice_cmp nat_cmp) c.spelled-a.ensures.bytes c.as_str.ensures.bytes ∙ c.byte_order_is_character_order.ensures (c.args.a ∷ []) c.args.b.now in
    search (rules, order)
