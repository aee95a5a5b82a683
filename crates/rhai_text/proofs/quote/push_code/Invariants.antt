use Rattle.std.proofs.Common.{◌≡◌, ◌++◌, string_bytes}
use Rattle.std.specs.Char.Escape.{escape_unicode}
use Rattle.std.specs.Char.Iter.{escape_rest}
use Rattle.std.specs.Str.{encode_utf8_all}
use Rattle.rhai_text.proofs.quote.push_code.Given as goal

abbrev pub invariant-loop-escape : goal.invariant-loop-escape
invariant-loop-escape l = record {
  written : string_bytes l.out ≡ string_bytes l.fn.out ++ encode_utf8_all l.yielded;
  left : l.yielded ++ escape_rest l.escape-iterator ≡ escape_unicode l.fn.c;
}
