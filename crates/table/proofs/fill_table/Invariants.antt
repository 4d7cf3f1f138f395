-- `fill_table`: stores all lines, from the last node's to the first's.
use Prim.Native.Nat.{◌<◌}
use Rattle.model.specs.File.{tree_of, budget_of}
use Rattle.best_rows.specs.Guarded.{may_be_under}
use Rattle.places.specs.Places.{start_at}
use Rattle.table.specs.Table.{LinesFilled}
use Rattle.table.specs.Wishes.{wish_of}
use Rattle.table.proofs.fill_table.Given as goal

abbrev pub invariant-loop-v : goal.invariant-loop-v
invariant-loop-v l = (0 < l.v) × LinesFilled l.file (may_be_under (tree_of l.file) (wish_of l.wish)) l.places (start_at (tree_of l.file) (budget_of l.file) l.v) l.initial.s l.s
