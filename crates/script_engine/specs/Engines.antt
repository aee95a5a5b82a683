-- What a host sees of an engine: cells and kept functions are the run's while there is one, and
-- otherwise those of the scope.
use Rattle.std.specs.Prelude.{◌≡◌, ℕ, if◌then◌else◌, Bool, List, Option, Some, None, option_and_then}
use Rattle.rhai_value.specs.declared.cells.store.Cell.{Cell}
use Rattle.rhai_value.specs.Tree.{Tree}
use Rattle.script_code.specs.declared.program.Program.{Program}
use Rattle.script_run.specs.Variables.{Variables, with_kept}
use Rattle.script_run.specs.Kept.{held_pointer}
use Rattle.script_run.specs.Runs.{argument_of, cells_of, functions_of, names_before, with_functions, with_notes, with_stops, SameButDebugs, SameButPrinted}
use Rattle.script_engine.specs.declared.engine.Engine.{Engine}

-- whether there is a run, which owns the variables
abbrev pub runs : Engine → Bool
runs e = e.is_running

-- the value of the run
abbrev pub value_of : Engine → Tree
value_of e = e.value

-- the variables; there are none while a run owns them
abbrev pub scope_of : Engine → Variables
scope_of e = e.scope

-- there is a script, and it was compiled for variables of these names
abbrev pub Suits : Option Program → Variables → Type 0
Suits None v = ⊥
Suits (Some p) v = names_before p ≡ v.names

abbrev pub SuitsScope : Engine → Type 0
SuitsScope e = Suits e.program e.scope

-- the engine with other variables
abbrev pub with_scope : Engine → Variables → Engine
with_scope e v = record e { scope = v }

abbrev pub cells_in : Engine → List Cell
cells_in e = if e.is_running then cells_of e.run else e.scope.store

abbrev pub kept_in : Engine → List (Option Tree)
kept_in e = if e.is_running then functions_of e.run else e.scope.kept

-- the engine with other kept functions
abbrev pub with_kept_in : List (Option Tree) → Engine → Engine
with_kept_in fs e = if e.is_running then record e { run = with_functions fs e.run } else record e { scope = with_kept fs e.scope }

-- the function that is an argument of the host function being called, and the one that is the value of the run
abbrev pub argument_pointer : Engine → ℕ → Option Tree
argument_pointer e n = if e.is_running then option_and_then (held_pointer (cells_of e.run)) (argument_of e.run n) else None

abbrev pub value_pointer : Engine → Option Tree
value_pointer e = if e.is_running then held_pointer (cells_of e.run) e.value else None

-- the engine f differs from e at most in the run
abbrev pub SameButRun : Engine → Engine → Type 0
SameButRun e f = f ≡ record e { run = f.run }

-- the engine f differs from e at most in the run and its value
abbrev pub SameButRunAndValue : Engine → Engine → Type 0
SameButRunAndValue e f = f ≡ record e { run = f.run; value = f.value }

-- the engine f differs from e at most in what its run printed
abbrev pub OnlyPrints : Engine → Engine → Type 0
OnlyPrints e f = SameButRun e f × SameButPrinted e.run f.run

-- the engine whose run, or next one, notes lines of `debug`, or doesn't
abbrev pub with_noting : Bool → Engine → Engine
with_noting b e = record e { run = with_notes b e.run }

-- the engine whose run, if there is one, stops at statements, or doesn't
abbrev pub with_stops_in : Bool → Engine → Engine
with_stops_in b e = if e.is_running then record e { run = with_stops b e.run } else e

-- the engine f differs from e at most in the notes on lines of `debug`
abbrev pub OnlyForgets : Engine → Engine → Type 0
OnlyForgets e f = SameButRun e f × SameButDebugs e.run f.run
