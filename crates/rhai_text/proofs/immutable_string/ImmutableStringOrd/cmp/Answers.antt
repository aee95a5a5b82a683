use Rattle.std.proofs.Common.{◌∙◌, ap}
use Rattle.std.specs.Cmp.Lexicographic.{slice_cmp}
use Rattle.std.specs.Ordering.{nat_cmp}
use Rattle.std.specs.Str.{encode_utf8_all}
use Rattle.rhai_text.proofs.Order.{slice_cmp-encodes}
use Rattle.rhai_text.proofs.immutable_string.ImmutableStringOrd.cmp.Goals as goal

pub returns : goal.returns
returns c =
    c.order_of_texts.ensures
    ∙ ap (λ bs. slice_cmp nat_cmp bs c.as_str-2.result.now) c.as_str.ensures.bytes
    ∙ ap (λ bs. slice_cmp nat_cmp (encode_utf8_all c.args.self.now) bs) c.as_str-2.ensures.bytes
    ∙ slice_cmp-encodes c.args.self.now c.args.other.now
