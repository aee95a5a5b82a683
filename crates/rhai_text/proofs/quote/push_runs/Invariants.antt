use Rattle.std.proofs.Common.{◌≡◌, ℕ, List, ◌++◌, length, string_bytes}
use Rattle.std.specs.List.{flat_map}
use Rattle.std.specs.Str.{chars, encode_utf8_all, IsUtf8}
use Rattle.rhai_text.specs.Quote.{Extends, escaped}
use Rattle.rhai_text.proofs.quote.push_runs.Given as goal

-- the rest of the run follows unescaped characters
abbrev pub invariant-loop-c : goal.invariant-loop-c
invariant-loop-c l = record {
  run_text : IsUtf8 l.run;
  rest_text : IsUtf8 l.rest.rest.now;
  plain : (cs : List ℕ) × (l.run ≡ encode_utf8_all cs ++ l.rest.rest.now) × (flat_map (escaped l.quote) cs ≡ cs);
  more : Extends (string_bytes l.fn.out) (string_bytes l.out);
  left : string_bytes l.out ++ encode_utf8_all (flat_map (escaped l.quote) (chars l.run)) ≡ string_bytes l.fn.out ++ encode_utf8_all (flat_map (escaped l.quote) (chars l.text));
}

abbrev pub decreases-loop-c : goal.decreases-loop-c
decreases-loop-c l = length l.rest.rest.now
