use Rattle.std.proofs.Common.{◌≡◌, ◌-◌, length, take, drop, arith, sym, subst, ap, ◌∙◌}
use Rattle.std.proofs.lemmas.Result.{IfOk-weaker}
use Rattle.rhai_packs.specs.Splits.{read_from}
use Rattle.rhai_packs.proofs.Parts.{slice_kept}
use Rattle.rhai_packs.proofs.Splits.{last_dropped}
use Rattle.rhai_packs.proofs.texts.cuts.without_first.Goals as goal

pub returns-in-Front : goal.returns-in-Front
returns-in-Front c =
    let text = c.args.text.now in
    let n = c.args.count in
    let is = sym c.in-Front.is in
    IfOk-weaker c.slice.result _ _ (λ rest e. subst (λ s. rest ≡ read_from s (drop n (read_from s text))) is (slice_kept text rest c.len-length.result n c.len-length.ensures e)) c.slice.ensures

pub returns-in-Back : goal.returns-in-Back
returns-in-Back c =
    let text = c.args.text.now in
    let n = c.args.count in
    let is = sym c.in-Back.is in
    let end : c.saturating_sub.result - 0 ≡ length text - n = omega (arith, c.saturating_sub.ensures, c.len-length.ensures) in
    IfOk-weaker c.slice-in-Back.result _ _ (λ rest e. subst (λ s. rest ≡ read_from s (drop n (read_from s text))) is (e ∙ ap (λ k. take k text) end ∙ last_dropped n text)) c.slice-in-Back.ensures
