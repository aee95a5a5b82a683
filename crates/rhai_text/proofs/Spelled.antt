-- What a tactic needs about the bytes of concatenated characters.
use Rattle.std.proofs.lemmas.Str.{encodes-append}

pub ruleset spelled = (encodes-append)
