-- The lines of a scope, one after another.
use Rattle.std.proofs.Common.{◌≡◌, ℕ, suc, ◌-◌, Bool, List, [], ◌++◌, length, codes, Result, OnOk, refl, ap, ◌∙◌, arith}
use Rattle.std.specs.Fmt.{decimal}
use Rattle.std.specs.Str.{chars}
use Rattle.rhai_value.specs.declared.cells.store.Cell.{Cell}
use Rattle.rhai_scope.specs.Entry.{Entry}
use Rattle.rhai_scope.specs.NamesText.{name_line}
use Rattle.rhai_scope.specs.ScopeText.{constant_mark, line, lines_from, scope_text}
use Rattle.rhai_scope.proofs.FromBelow.{added_as, added_fixed, added_more, added_twice, fixed}

-- a line, part by part
pub line_added : {A E : Type 0} (r : Result A E) (o p q u v w x y z : List ℕ) (i : ℕ) (b : Bool) (name text : List ℕ) → p ≡ o ++ chars (codes "[") → q ≡ p ++ decimal i → u ≡ q ++ chars (codes "] ") → v ≡ u ++ constant_mark b
    → w ≡ v ++ name → x ≡ w ++ chars (codes " = ") → y ≡ x ++ text → OnOk r (z ≡ y ++ chars (codes "\n")) → OnOk r (z ≡ o ++ line i b name text)
line_added r o p q u v w x y z i b name text e1 e2 e3 e4 e5 e6 e7 e8 =
    let t2 = codes "[" ++ decimal i in
    let t3 = t2 ++ codes "] " in
    let t4 = t3 ++ constant_mark b in
    let t5 = t4 ++ name in
    let t6 = t5 ++ codes " = " in
    let f2 = added_more q p o (codes "[") (decimal i) (added_fixed p o (codes "[") refl e1) e2 in
    let f3 = added_more u q o t2 (codes "] ") f2 (added_fixed u q (codes "] ") refl e3) in
    let f4 = added_more v u o t3 (constant_mark b) f3 e4 in
    let f5 = added_more w v o t4 name f4 e5 in
    let f6 = added_more x w o t5 (codes " = ") f5 (added_fixed x w (codes " = ") refl e6) in
    let f7 = added_more y x o t6 text f6 e7 in
    added_twice r z y o (t6 ++ text) (codes "\n") (line i b name text) f7 refl (added_as r z y (chars (codes "\n")) (codes "\n") (fixed (codes "\n") refl) e8)

-- the line of a name
pub name_line_added : {A E : Type 0} (r : Result A E) (o p q z : List ℕ) (b : Bool) (name : List ℕ) → p ≡ o ++ constant_mark b → q ≡ p ++ name → OnOk r (z ≡ q ++ chars (codes "\n")) → OnOk r (z ≡ o ++ name_line b name)
name_line_added r o p q z b name e f g =
    added_twice r z q o (constant_mark b ++ name) (codes "\n") (name_line b name) (added_more q p o (constant_mark b) name e f) refl
    (added_as r z q (chars (codes "\n")) (codes "\n") (fixed (codes "\n") refl) g)

pub lines_begin : (s : List Cell) (es rest : List Entry) (n : ℕ) (out : List ℕ) → out ≡ [] → n ≡ length rest → rest ≡ es → out ++ lines_from s (suc (n - length rest)) rest ≡ scope_text s es
lines_begin s es rest n out e f g =
    let none : n - length rest ≡ 0 = omega arith in
    ap (λ o. o ++ lines_from s (suc (n - length rest)) rest) e ∙ (ap (λ k. lines_from s (suc k) rest) none ∙ ap (lines_from s 1) g)
