use Rattle.std.proofs.Common.{◌≡◌, length, take, drop, sym, ap, ◌∙◌, arith}
use Rattle.std.proofs.lemmas.Str.{encodes-chars}
use Rattle.std.specs.Str.{chars, encode_utf8_all}
use Rattle.rhai_packs.proofs.Characters.{one_on, all_taken, back_chars, back_cut, back_fits, cut_fits, front_cut, no_others, none_left}
use Rattle.rhai_packs.proofs.texts.split_at_character.Goals as goal

pub loop-init : goal.loop-init
loop-init c = c.chars-rest.ensures.rest ∙ sym (encodes-chars c.args.text.now c.utf8.text)

pub loop-preserved : goal.loop-preserved
loop-preserved c =
    one_on (chars c.args.text.now) c.next.new.self.rest.now c.loop.counter c.in-Some.field-0 (sym c.loop.invariant ∙ c.in-Some.ensures.steps.0)

pub returns-in-None-clause-front : goal.returns-in-None-clause-front
returns-in-None-clause-front c =
    all_taken c.args.text.now c.loop.counter c.args.count c.utf8.text (ap length (sym c.loop.invariant) ∙ c.in-None.ensures.steps.0.0) (omega arith)

pub returns-in-None-clause-back : goal.returns-in-None-clause-back
returns-in-None-clause-back c =
    none_left c.args.text.now c.loop.counter c.args.count (ap length (sym c.loop.invariant) ∙ c.in-None.ensures.steps.0.0) (omega arith)

pub returns-in-None-clause-others : goal.returns-in-None-clause-others
returns-in-None-clause-others c =
    no_others c.args.text.now c.loop.counter c.args.count (ap length (sym c.loop.invariant) ∙ c.in-None.ensures.steps.0.0) (omega arith)

pub overflow_sub-text : goal.overflow_sub-text
overflow_sub-text c =
    back_fits c.args.text.now c.utf8.text c.loop.counter c.as_str.result.now c.as_str.utf8 (c.as_str.ensures ∙ c.loop.invariant)

pub split_at-requires : goal.split_at-requires
split_at-requires c =
    cut_fits c.args.text.now c.utf8.text c.loop.counter c.as_str.result.now c.as_str.utf8 (c.as_str.ensures ∙ c.loop.invariant)

pub returns-clause-front : goal.returns-clause-front
returns-clause-front c =
    let done : c.loop.counter ≡ c.args.count = omega arith in
    c.split_at.ensures.front
    ∙ front_cut c.args.text.now c.utf8.text c.loop.counter c.as_str.result.now c.as_str.utf8 (c.as_str.ensures ∙ c.loop.invariant)
    ∙ ap (λ n. encode_utf8_all (take n (chars c.args.text.now))) done

pub returns-clause-back : goal.returns-clause-back
returns-clause-back c =
    let done : c.loop.counter ≡ c.args.count = omega arith in
    c.split_at.ensures.back
    ∙ back_cut c.args.text.now c.utf8.text c.loop.counter c.as_str.result.now c.as_str.utf8 (c.as_str.ensures ∙ c.loop.invariant)
    ∙ ap (λ n. encode_utf8_all (drop n (chars c.args.text.now))) done

pub returns-clause-others : goal.returns-clause-others
returns-clause-others c =
    let done : c.loop.counter ≡ c.args.count = omega arith in
    ap chars c.split_at.ensures.back
    ∙ back_chars c.args.text.now c.utf8.text c.loop.counter c.as_str.result.now c.as_str.utf8 (c.as_str.ensures ∙ c.loop.invariant)
    ∙ ap (λ n. drop n (chars c.args.text.now)) done
