use Rattle.std.proofs.Common.{[], refl, sym, subst, arith}
use Rattle.std.proofs.lemmas.List.{take-map}
use Rattle.rhai_scope.specs.NameIndex.{ListsNames}
use Rattle.rhai_scope.proofs.EntryNames.{length_names}
use Rattle.rhai_scope.proofs.index.Index.of.Goals as goal

pub returns : goal.returns
returns c =
    let es = c.args.entries.now in
    let indexed = c.saturating_sub-indexed.result in
    let as_many = length_names es in
    record {
      within = omega (arith, as_many, c.saturating_sub-indexed.ensures);
      few = omega (arith, as_many, c.saturating_sub-indexed.ensures);
      lists = subst (ListsNames c.push_all.new.self) (sym (take-map (λ e. e.name) indexed es)) (c.in_ok-push_all.ensures.ok [] refl c.new-places.ensures);
    }
