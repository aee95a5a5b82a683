-- Reading a part of the held value of a source, at the same places as a write-back.
use Rattle.std.specs.Prelude.{ℕ, List}
use Rattle.rhai_text.specs.Text.{slice_of}
use Rattle.rhai_target.specs.declared.slice.Slice.{Slice}

-- the characters of a slice
abbrev pub slice_in : Slice → List ℕ → List ℕ
slice_in slice cs = slice_of cs slice.start slice.end slice.exclusive
