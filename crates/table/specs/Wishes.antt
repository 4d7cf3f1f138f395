-- A wish for one node, as the code has it, in the words of the dynamic program.
use Rattle.std.specs.Prelude.{Option, Some, None}
use Rattle.best_rows.specs.Guarded as rows
use Rattle.table.specs.declared.Wish.{Wish}

abbrev pub wish_of : Option Wish → rows.Wish
wish_of None = rows.no_wish
wish_of (Some w) = rows.wish w.node w.cached
