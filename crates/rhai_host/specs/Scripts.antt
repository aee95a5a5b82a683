-- Runs of scripts. The script library promises only safety and termination, not what a script does;
-- so these definitions say how its end is reported.
use Rattle.std.specs.Prelude.{◌≡◌, ℕ, zero, suc, ◌+◌, ⊤, false, List, length, Option, None, Some, Result, Ok, Err}
use Rattle.script_run.specs.declared.script.ScriptError.{ScriptError}
use Rattle.script_run.specs.declared.script.ScriptError.TheVariants as script
use Rattle.script_syntax.specs.declared.error.SyntaxError.TheVariants as syntax
use Rattle.rhai_text.specs.declared.position.Position.{Position}
use Rattle.rhai_host.specs.declared.handle.kept.Kept.{Kept}
use Rattle.rhai_host.specs.declared.scripts.ScriptEnd.{ScriptEnd}
use Rattle.rhai_host.specs.Calls.{InWorld, IsClosed, Stays}
use Rattle.rhai_host.specs.Numbers.{text_of}
use Rattle.rhai_host.specs.Opened.{answer_bytes}

-- the kind of an end, and its place
abbrev pub IsAt : ScriptEnd → ℕ → Position → Type 0
IsAt end kind place = (end.kind ≡ kind) × (end.line ≡ place.line) × (end.column ≡ place.position)

-- how a run ended is reported; a failed allocation is not reported this way
abbrev pub IsEndOf : Result ⊤ ScriptError → ScriptEnd → Type 0
IsEndOf (Ok x) end = (end.kind ≡ 0) × (end.line ≡ 0) × (end.column ≡ 0)
IsEndOf (Err (script.Syntax (syntax.Fault why place))) end = IsAt end 1 place
IsEndOf (Err (script.Syntax syntax.OutOfMemory)) end = ⊥
IsEndOf (Err (script.TooLarge place)) end = IsAt end 1 place
IsEndOf (Err (script.Fault why place calls)) end = IsAt end 2 place
IsEndOf (Err (script.OutOfMemory place)) end = ⊥

-- the bytes are what was printed, followed by the message: an empty one if nothing went wrong
pub record IsWhole (end : ScriptEnd) (bytes : List ℕ) : Type 0 where
  pub both : end.printed + end.said ≡ length bytes
  pub well : end.kind ≡ 0 → end.said ≡ 0

-- the end of some run is reported, and it is not a failed allocation
pub record IsToldEnd (end : ScriptEnd) : Type 0 where
  pub done : Result ⊤ ScriptError
  pub is : IsEndOf done end

-- the script was run, and its end is reported and is the answer; or an allocation failed, or the
-- bytes are not a text, and nothing has changed
abbrev pub IsScriptRun : ℕ → Kept → Kept → Option (List ℕ) → ScriptEnd → ScriptEnd → Type 0
IsScriptRun status k l None was end = (status ≡ 3) × Stays k l was end
IsScriptRun zero k l (Some text) was end = IsToldEnd end × IsWhole end (answer_bytes l.answer false) × (l.world ≡ k.world) × (l.names ≡ k.names)
IsScriptRun (suc zero) k l (Some text) was end = Stays k l was end
IsScriptRun (suc (suc n)) k l (Some text) was end = ⊥

abbrev pub RunsScript : ℕ → Option Kept → Option Kept → List ℕ → ScriptEnd → ScriptEnd → Type 0
RunsScript status None new script was end = IsClosed status new was end
RunsScript status (Some k) new script was end = InWorld new (λ l. IsScriptRun status k l (text_of script) was end)
