use Rattle.std.proofs.Common.{◌≡◌, [], ◌∷◌, ◌++◌, length, string_bytes, refl, sym, ◌∙◌, ap, subst}
use Rattle.std.proofs.lemmas.List.{append-nil, nil_from_length}
use Rattle.std.proofs.lemmas.Result.{on_ok_weaker}
use Rattle.std.proofs.lemmas.Str.{encodes-chars, encodes_same, IsUtf8-past_char}
use Rattle.std.specs.List.{flat_map}
use Rattle.std.specs.Str.{chars, encode_utf8_all, IsUtf8}
use Rattle.rhai_text.specs.Quote.{escaped}
use Rattle.rhai_text.proofs.Quotes.{Extends-trans, IsCharBoundary-run, OnOk-appended, run-more, run-written, take-run, unescaped-more}
use Rattle.rhai_text.proofs.quote.push_runs.Goals as goal

pub split_at-requires : goal.split_at-requires
split_at-requires c =
    let run = c.loop-c.invariant.plain in
    let rest = c.next.new.self.rest.now in
    let split = run.1 ∙ ap (λ bs. encode_utf8_all run.0 ++ bs) c.in-Some.ensures.steps.0 in
    IsCharBoundary-run c.args.quote c.loop-c.run.now run.0 rest c.in-Some.c split c.len_utf8.result (length c.as_str.result.now) c.len_utf8.ensures.len (ap length c.as_str.ensures)
    (subst IsUtf8 c.in-Some.ensures.steps.0 c.loop-c.invariant.rest_text)

pub loop-c-preserved-then-not-stands_as_itself : goal.loop-c-preserved-then-not-stands_as_itself
loop-c-preserved-then-not-stands_as_itself c =
    let run = c.loop-c.invariant.plain in
    let rest = c.next.new.self.rest.now in
    let split = run.1 ∙ ap (λ bs. encode_utf8_all run.0 ++ bs) c.in-Some.ensures.steps.0 in
    let rest_text = IsUtf8-past_char c.loop-c.rest.rest.now rest c.in-Some.c c.loop-c.invariant.rest_text c.in-Some.ensures.steps.0 in
    let front = c.split_at.ensures.front ∙ take-run c.args.quote c.loop-c.run.now run.0 rest c.in-Some.c split c.len_utf8.result (length c.as_str.result.now) c.len_utf8.ensures.len (ap length c.as_str.ensures) in
    record {
      run_text = c.as_str-run.utf8;
      rest_text = rest_text;
      plain = ([], c.as_str-run.ensures, refl);
      more = Extends-trans (string_bytes c.args.out.now) (string_bytes c.loop-c.out) (string_bytes c.push_escaped.new.out) c.loop-c.invariant.more
          (Extends-trans (string_bytes c.loop-c.out) (string_bytes c.push_str.new.self) (string_bytes c.push_escaped.new.out) (c.split_at.result.0.now, c.in_ok-push_str.ensures.bytes) (encode_utf8_all (escaped c.args.quote c.in-Some.c), c.in_ok-push_escaped.ensures.ok));
      left =
          ap (λ bs. string_bytes c.push_escaped.new.out ++ encode_utf8_all (flat_map (escaped c.args.quote) (chars bs))) c.as_str-run.ensures
          ∙ run-written c.args.quote c.loop-c.run.now run.0 rest c.in-Some.c split c.loop-c.invariant.run_text rest_text run.2 (string_bytes c.loop-c.out) (string_bytes c.push_str.new.self) (string_bytes c.push_escaped.new.out)
          (c.in_ok-push_str.ensures.bytes ∙ ap (λ bs. string_bytes c.loop-c.out ++ bs) front) c.in_ok-push_escaped.ensures.ok
          ∙ c.loop-c.invariant.left;
    }

pub loop-c-preserved : goal.loop-c-preserved
loop-c-preserved c =
    let run = c.loop-c.invariant.plain in
    let split = run.1 ∙ ap (λ bs. encode_utf8_all run.0 ++ bs) c.in-Some.ensures.steps.0 in
    record {
      run_text = c.loop-c.invariant.run_text;
      rest_text = IsUtf8-past_char c.loop-c.rest.rest.now c.next.new.self.rest.now c.in-Some.c c.loop-c.invariant.rest_text c.in-Some.ensures.steps.0;
      plain = (run.0 ++ c.in-Some.c ∷ [], run-more c.args.quote c.loop-c.run.now run.0 c.next.new.self.rest.now c.in-Some.c split, unescaped-more c.args.quote run.0 c.in-Some.c run.2 (c.stands_as_itself.ensures c.if-not-stands_as_itself.false));
      more = c.loop-c.invariant.more;
      left = c.loop-c.invariant.left;
    }

-- the whole run is appended unescaped
pub returns-clause-ok : goal.returns-clause-ok
returns-clause-ok c =
    let run = c.loop-c.invariant.plain in
    let bytes = c.loop-c.run.now in
    let spelled : bytes ≡ encode_utf8_all run.0 =
    run.1 ∙ ap (λ bs. encode_utf8_all run.0 ++ bs) (nil_from_length c.loop-c.rest.rest.now c.in_default.ensures.steps.0.0) ∙ append-nil (encode_utf8_all run.0)
    in
    let same : chars bytes ≡ run.0 = encodes_same (chars bytes) run.0 (encodes-chars bytes c.loop-c.invariant.run_text ∙ spelled) in
    on_ok_weaker c.push_str-2.result
    (λ e. e
    ∙ ap (λ bs. string_bytes c.loop-c.out ++ bs) (spelled ∙ ap encode_utf8_all (sym run.2 ∙ ap (flat_map (escaped c.args.quote)) (sym same)))
    ∙ c.loop-c.invariant.left)
    (OnOk-appended c.push_str-2.result (string_bytes c.push_str-2.new.self) (string_bytes c.loop-c.out ++ bytes) (string_bytes c.loop-c.out) c.push_str-2.ensures.bytes)
