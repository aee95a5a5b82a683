use Rattle.std.proofs.Common.{◌≡◌, ◌++◌, ◌∷◌, [], arith, ap, refl, subst, ◌∙◌}
use Rattle.std.proofs.lemmas.Grind.{common_steps}
use Rattle.std.proofs.lemmas.List.{append-nil}
use Rattle.std.specs.Str.{chars}
use Rattle.std.specs.Str.Iter.{split_whitespace_rest}
use Rattle.rhai_value.specs.Tree.{fresh, text}
use Rattle.rhai_packs.specs.Splits.{AreWords}
use Rattle.rhai_packs.proofs.Splits.{made_more, more_words}
use Rattle.rhai_packs.proofs.texts.cuts.words.Goals as goal

pub loop-word-init : goal.loop-word-init
loop-word-init c =
    let rest = ap split_whitespace_rest c.into_iter-word-iterator.ensures.into_iter_gives ∙ c.split_whitespace-word-items.ensures.rest in
    record {
      done = [];
      made = c.new-parts.ensures.items;
      more = λ others words. subst (λ t. AreWords t others) rest words;
    }

pub loop-word-preserved : goal.loop-word-preserved
loop-word-preserved c =
    let i = c.loop-word.invariant in
    let pushed : c.push.new.self.items ≡ c.loop-word.parts.items ++ fresh (text (chars c.in-Some.word.now)) ∷ [] = grind (arith, common_steps) in
    record {
      done = i.done ++ chars c.in-Some.word.now ∷ [];
      made = made_more (λ t. fresh (text t)) _ _ i.done (chars c.in-Some.word.now) i.made pushed;
      more = more_words _ _ c.in-Some.word.now _ i.done i.more c.in-Some.ensures.steps;
    }

pub returns : goal.returns
returns c =
    let i = c.loop-word.invariant in
    record {
      words = (i.done, subst (AreWords c.args.text.now) (append-nil i.done) (i.more [] c.in-None.ensures.steps.1), i.made);
      free = λ _. refl;
    }
