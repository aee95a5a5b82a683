use Rattle.std.proofs.Common.{◌≡◌, ◌++◌, ◌∷◌, [], length, map, take, drop, true, false, arith, rules, refl, ap, sym, ◌∙◌}
use Rattle.std.proofs.lemmas.Grind.{common_steps}
use Rattle.std.proofs.lemmas.Str.{chars-nil}
use Rattle.rhai_text.proofs.ForCallers.{chars-one}
use Rattle.std.specs.Str.{chars, encode_utf8_all}
use Rattle.rhai_value.specs.Tree.{fresh, text}
use Rattle.rhai_packs.specs.Splits.{cut_everywhere, is_spent, read_from, single_count, singled}
use Rattle.rhai_packs.proofs.Splits.{cut_made, singles_made, whole_made}
use Rattle.rhai_packs.proofs.texts.cuts.split_everywhere.Goals as goal

pub returns-then-is_spent : goal.returns-then-is_spent
returns-then-is_spent c =
    let cs = chars (encode_utf8_all c.args.text.now) in
    let spent : is_spent c.args.most ≡ true = search rules in
    let same : chars c.as_str.result.now ≡ cs = ap chars c.as_str.ensures.bytes in
    let made : c.push_reserved.new.self.items ≡ fresh (text (chars c.as_str.result.now)) ∷ [] = grind (arith, common_steps) in
    (cut_everywhere c.args.side c.args.most cs, refl, whole_made (λ t. fresh (text t)) c.args.side c.args.most cs _ spent (made ∙ ap (λ t. fresh (text t) ∷ []) same))

pub loop-character-init : goal.loop-character-init
loop-character-init c = grind (arith, common_steps, chars-nil)

pub loop-character-preserved : goal.loop-character-preserved
loop-character-preserved c =
    let one : chars c.encode_utf8.result.now ≡ c.character-item.result ∷ [] = chars-one c.encode_utf8.result.now c.character-item.result c.encode_utf8.utf8 c.encode_utf8.ensures.value in
    grind (arith, common_steps)

pub returns : goal.returns
returns c =
    let cs = chars (encode_utf8_all c.args.text.now) in
    let some : is_spent c.args.most ≡ false = search rules in
    let whole : cs ≡ c.args.text.now = sym (ap chars c.as_str-2.ensures.bytes) ∙ c.as_str-2.ensures.characters in
    let count : c.single_count-count.result ≡ single_count c.args.most (length cs) = c.single_count-count.ensures ∙ ap (single_count c.args.most) (c.len.ensures ∙ ap length (sym whole)) in
    let singles : c.in_ok-single.field-0.items ≡ take c.single_count-count.result (read_from c.args.side cs) = c.in_ok-single.ensures ∙ ap (λ t. take c.single_count-count.result (read_from c.args.side t)) (ap chars c.as_str-2.ensures.bytes) in
    let rest : c.in_ok-rest.rest ≡ read_from c.args.side (drop c.single_count-count.result (read_from c.args.side cs)) = c.in_ok-rest.ensures ∙ ap (λ t. read_from c.args.side (drop c.single_count-count.result (read_from c.args.side t))) (sym whole) in
    let made : c.loop-character.parts.items ≡ fresh (text []) ∷ map (λ x. fresh (text (x ∷ []))) c.in_ok-single.field-0.items = grind (arith, common_steps) in
    let pushed : c.push-2.new.self.items ≡ c.loop-character.parts.items ++ fresh (text c.in_ok-rest.rest) ∷ [] = grind (arith, common_steps) in
    let all = singles_made (λ t. fresh (text t)) c.args.side c.single_count-count.result cs _ _ _ c.in_ok-rest.rest made singles rest pushed in
    (cut_everywhere c.args.side c.args.most cs, refl, cut_made (λ t. fresh (text t)) c.args.side c.args.most cs _ some (all ∙ ap (λ n. map (λ t. fresh (text t)) (singled c.args.side n cs)) count))
