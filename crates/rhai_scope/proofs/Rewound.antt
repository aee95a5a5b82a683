-- The effect of pushes on earlier entries.
use Rattle.std.proofs.Common.{◌≡◌, ℕ, List, [], ◌∷◌, ◌++◌, length, take, append_assoc, sym, ap, ◌∙◌}
use Rattle.std.proofs.Math.Seq.{take-append_seam}
use Rattle.rhai_value.specs.declared.value.access_mode.AccessMode.{AccessMode}
use Rattle.rhai_value.specs.Tree.{Tree, paint}
use Rattle.rhai_scope.specs.Entry.{Entry, new_entry, pushed}
use Rattle.rhai_scope.specs.Pushes.{all_pushed}
use Rattle.std.proofs.lemmas.List.{append-nil}

-- pushes keep the earlier entries, and append more
record Longer (es fs : List Entry) : Type 0 where
  pub more : List Entry
  pub is : fs ≡ es ++ more

longer : (ps : List (AccessMode × List ℕ × Tree)) (es : List Entry) → Longer es (all_pushed ps es)
longer [] es = record { more = []; is = sym (append-nil es) }
longer (p ∷ ps) es =
    let rest = longer ps (pushed p.0 p.1 p.2 es) in
    record { more = new_entry p.1 (paint p.0 p.2) ∷ rest.more; is = rest.is ∙ append_assoc es (new_entry p.1 (paint p.0 p.2) ∷ []) rest.more }

taken : (es more : List Entry) → take (length es) (es ++ more) ≡ es
taken es more = rw take-append_seam

pub rewound : (ps : List (AccessMode × List ℕ × Tree)) (es : List Entry) → take (length es) (all_pushed ps es) ≡ es
rewound ps es = ap (take (length es)) (longer ps es).is ∙ taken es (longer ps es).more
