-- The contents of a handle.
use Rattle.std.specs.Prelude.{Option}
use Rattle.rhai_host.specs.declared.handle.Handle.{Handle}
use Rattle.rhai_host.specs.declared.handle.kept.Kept.{Kept}

-- the contents, if the handle is open
abbrev pub content : Handle → Option Kept
content handle = handle.held.value
