use Rattle.std.proofs.Common.{◌≡◌, ◌++◌, IfOk, string_bytes, is_some, sym, ◌∙◌, ap, subst, append_assoc}
use Rattle.std.proofs.lemmas.List.{append-nil}
use Rattle.std.proofs.lemmas.Str.{chars-nil, chars_from_encodes, IsUtf8-string_bytes}
use Rattle.std.specs.Str.{chars, encode_utf8_all}
use Rattle.std.specs.Str.Iter.{split_text, text_or_empty}
use Rattle.std.specs.Str.Pattern.{FindsChar, IsSplitAtFirstMatch}
use Rattle.rhai_text.specs.Text.{minus_char}
use Rattle.rhai_text.proofs.Runs.{minus_char-split, nothing_more}
use Rattle.rhai_text.proofs.immutable_string.ImmutableString.minus_char.Goals as goal

pub loop-run-preserved : goal.loop-run-preserved
loop-run-preserved c =
    let rest = c.next.new.self.rest in
    let before = split_text c.loop-run.run-iterator in
    let found = subst (λ d. IsSplitAtFirstMatch (FindsChar d) before c.in-Some.run'.now (is_some rest) (text_or_empty rest)) c.loop-run.invariant.pattern c.in-Some.ensures.steps.1.1 in
    let split = minus_char-split c.args.character before c.in-Some.run'.now rest c.loop-run.invariant.utf8 found in
    record {
      pattern = c.in-Some.ensures.steps.1.0 ∙ c.loop-run.invariant.pattern;
      utf8 = split.0;
      left =
          ap (λ bs. bs ++ encode_utf8_all (minus_char (chars (text_or_empty rest)) c.args.character)) c.in_ok-push_str.ensures.bytes
          ∙ append_assoc (string_bytes c.loop-run.text) c.in-Some.run'.now (encode_utf8_all (minus_char (chars (text_or_empty rest)) c.args.character))
          ∙ ap (λ bs. string_bytes c.loop-run.text ++ bs) (sym split.1)
          ∙ c.loop-run.invariant.left;
    }

pub returns : goal.returns
returns c =
    let text = c.loop-run.text in
    let empty = nothing_more c.loop-run.run-iterator.rest c.in-None.ensures.steps.0 in
    let bytes =
    sym (append-nil (string_bytes text))
    ∙ ap (λ bs. string_bytes text ++ encode_utf8_all (minus_char bs c.args.character)) (sym (ap chars empty ∙ chars-nil))
    ∙ c.loop-run.invariant.left
    in
    subst (λ cs. IfOk c.from_string.result (λ t. t ≡ cs))
    (sym (chars_from_encodes (minus_char c.args.self.now c.args.character) (string_bytes text) (IsUtf8-string_bytes text) (sym bytes)))
    c.from_string.ensures
