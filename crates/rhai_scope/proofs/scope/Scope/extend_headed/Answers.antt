use Rattle.std.proofs.Common.{◌++◌, map, sym, ap, ◌∙◌, subst}
use Rattle.rhai_scope.specs.Extended.{headed}
use Rattle.rhai_scope.specs.Index.{IsIndexOf, names_of}
use Rattle.rhai_scope.proofs.EntryNames.{indexed_more}
use Rattle.rhai_scope.proofs.Extended.{names_headed}
use Rattle.rhai_scope.proofs.scope.Scope.extend_headed.Goals as goal

pub invariant_of-self-in-Ok : goal.invariant_of-self-in-Ok
invariant_of-self-in-Ok g c =
    let x = c.admit_all.new.self in
    let es = c.self.inside.records.items in
    let hs = c.args.headings.items in
    let ts = c.args.values.items in
    let name_of = g.H.Named.name_of in
    let mode_of = g.H.Heading.mode_of in
    let names = ap (map name_of) c.deref-2.ensures.value ∙ sym (names_headed name_of mode_of hs ts c.requires) in
    indexed_more x es c.add_in_room.new.records.items (headed name_of mode_of hs ts)
    (c.add_in_room.ensures ∙ ap (λ xs. xs ++ headed name_of mode_of hs ts) c.reserve.ensures.items)
    (subst (λ ns. IsIndexOf x (names_of es ++ ns)) names
    (subst (λ fs. IsIndexOf x (names_of fs ++ map name_of c.deref-2.result.now)) (c.deref.ensures.value ∙ c.reserve.ensures.items) c.in-Ok.ensures.ok))
