use Rattle.std.proofs.Common.{subst}
use Rattle.std.proofs.lemmas.Str.{IsUtf8-had}
use Rattle.rhai_value.specs.Keys.{IsKey}
use Rattle.rhai_value.proofs.map.key.Key.as_str.Goals as goal

pub from_utf8_unchecked-requires : goal.from_utf8_unchecked-requires
from_utf8_unchecked-requires c = IsUtf8-had _ (subst IsKey c.in-Short.is c.self.invariant).text
