use Rattle.std.proofs.Common.{◌≡◌, drop}
use Rattle.std.specs.Str.{chars, encode_utf8_all}
use Rattle.rhai_packs.proofs.texts.split_at_character.Given as goal

-- the rest is the bytes of the remaining characters
abbrev pub invariant-loop : goal.invariant-loop
invariant-loop l = l.rest.rest.now ≡ encode_utf8_all (drop l.counter (chars l.text))
