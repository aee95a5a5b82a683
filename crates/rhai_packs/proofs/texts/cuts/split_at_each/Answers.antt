use Rattle.std.proofs.Common.{◌≡◌, ◌++◌, ◌∷◌, [], arith, refl, subst, inl}
use Rattle.std.proofs.lemmas.Grind.{common_steps}
use Rattle.std.specs.Str.{chars}
use Rattle.rhai_value.specs.Tree.{fresh, text}
use Rattle.rhai_packs.specs.Splits.{AreCutOff}
use Rattle.rhai_packs.proofs.Splits.{rest_spelled, more_cut, made_more}
use Rattle.rhai_packs.proofs.texts.cuts.split_at_each.Goals as goal

pub loop-part-preserved : goal.loop-part-preserved
loop-part-preserved c =
    let i = c.loop-part.invariant in
    let pushed : c.push.new.self.items ≡ c.loop-part.parts.items ++ fresh (text (chars c.in-Some.part.now)) ∷ [] = grind (arith, common_steps) in
    record {
      spelled = rest_spelled _ _ _ _ _ c.utf8.separator i.spelled c.in-Some.ensures.cut.1;
      done = i.done ++ chars c.in-Some.part.now ∷ [];
      made = made_more (λ t. fresh (text t)) _ _ i.done (chars c.in-Some.part.now) i.made pushed;
      more = λ others cuts. more_cut _ _ _ _ _ _ _ _ i.done i.more c.in-Some.ensures.cut.0 c.in-Some.ensures.cut.1 others (subst (λ m. AreCutOff c.args.side c.args.separator.now m c.in-Some.others.now others) c.one_less-left.ensures cuts);
    }

pub returns : goal.returns
returns c =
    let i = c.loop-part.invariant in
    let rest = c.loop-part.rest.now in
    let pushed : c.push-2.new.self.items ≡ c.loop-part.parts.items ++ fresh (text (chars rest)) ∷ [] = grind (arith, common_steps) in
    (i.done ++ chars rest ∷ [], i.more (chars rest ∷ []) (inl (c.in_default.ensures.cut, refl, refl)), made_more (λ t. fresh (text t)) _ _ i.done (chars rest) i.made pushed)
