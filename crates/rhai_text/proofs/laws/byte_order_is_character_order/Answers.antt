use Rattle.rhai_text.proofs.Order.{slice_cmp-encodes}
use Rattle.rhai_text.proofs.laws.byte_order_is_character_order.Goals as goal

pub returns : goal.returns
returns c = slice_cmp-encodes
