-- The order of two values, by the rows that compare.
use Rattle.std.specs.Prelude.{List, [], Option, option_and_then}
use Rattle.std.specs.Option.{option_flatten}
use Rattle.std.specs.declared.cmp.Ordering.{Ordering}
use Rattle.rhai_text.specs.declared.token.Token.TheVariants as op
use Rattle.rhai_value.specs.declared.cells.store.Cell.{Cell}
use Rattle.rhai_value.specs.Tree.{Tree}
use Rattle.rhai_value.specs.End.{end, held_in}
use Rattle.rhai_ops.specs.declared.builtin.FnBuiltin.{FnBuiltin}
use Rattle.rhai_ops.specs.Outcome.{of_both}
use Rattle.rhai_ops.specs.Results.{rule}
use Rattle.rhai_ops.specs.Table.{row_of}

-- the order by which a row compares; a row that doesn't compare has none
abbrev pub row_order : FnBuiltin → List Cell → Tree → Tree → Option Ordering
row_order b s x y = (rule b).order s x y

-- the order of two values by the row of `<` for what they hold, if both hold something and the row exists
abbrev pub value_order : List Cell → Tree → Tree → Option Ordering
value_order s x y = option_flatten (of_both (λ v w. option_and_then (λ b. row_order b s v w) (row_of op.LessThan s v w)) (held_in (end s [] x)) (held_in (end s [] y)))
