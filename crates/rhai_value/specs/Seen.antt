-- The results of private functions.
use Rattle.std.specs.Prelude.{List, [], Option, Some, None, option_and_then}
use Rattle.rhai_value.specs.declared.cells.store.Cell.{Cell}
use Rattle.rhai_value.specs.End.{End, held, stuck, closed, end, value_ahead}
use Rattle.rhai_value.specs.Store.{at}
use Rattle.rhai_value.specs.Tree.{Tree, cell_of}
use Rattle.rhai_value.specs.declared.cells.chain.ChainEnd.{ChainEnd}
use Rattle.rhai_value.specs.declared.cells.chain.ChainEnd.TheVariants.{Held, Stuck, Closed}
use Rattle.rhai_value.specs.declared.cells.chain.Near.{Near}
use Rattle.rhai_value.specs.declared.cells.chain.Near.TheVariants as near
use Rattle.rhai_value.specs.declared.cells.chain.Site.{Site}
use Rattle.rhai_value.specs.declared.cells.chain.Site.TheVariants as site

abbrev pub end_seen : ChainEnd → End
end_seen (Held site d) = held site d.now
end_seen (Stuck d) = stuck d.now
end_seen Closed = closed

-- the site of a value's first content, and the content
abbrev pub near_site : Near → Option Site
near_site near.Here = Some site.Here
near_site (near.InCell c d) = Some (site.InCell c)
near_site near.Barred = None

abbrev pub near_content : Tree → Near → Option Tree
near_content t near.Here = Some t
near_content t (near.InCell c d) = Some d.now
near_content t near.Barred = None

-- what flattening copies, if anything: the value at the end of the chain of a holder whose own cell can be read
abbrev pub flat_source : List Cell → Tree → Option Tree
flat_source s t = option_and_then (λ x. value_ahead (end s [] t)) (option_and_then (at s) (cell_of t))
