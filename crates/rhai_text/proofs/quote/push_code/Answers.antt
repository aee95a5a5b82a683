use Rattle.std.proofs.Common.{◌∷◌, ◌++◌, [], string_bytes, sym, ◌∙◌, ap, append_assoc}
use Rattle.std.specs.Char.Iter.{escape_rest}
use Rattle.rhai_text.proofs.Quotes.{encodes-one_more}
use Rattle.rhai_text.proofs.quote.push_code.Goals as goal

pub loop-escape-preserved : goal.loop-escape-preserved
loop-escape-preserved c = record {
  written = encodes-one_more (string_bytes c.args.out.now) c.loop-escape.yielded c.in-Some.escape c.loop-escape.invariant.written c.in_ok-push.ensures.bytes;
  left =
      append_assoc c.loop-escape.yielded (c.in-Some.escape ∷ []) (escape_rest c.next.new.self)
      ∙ ap (λ xs. c.loop-escape.yielded ++ xs) (sym c.in-Some.ensures.steps.1.0)
      ∙ c.loop-escape.invariant.left;
}
