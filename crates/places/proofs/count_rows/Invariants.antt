-- `count_rows`: stores for each node how many nodes the row has that begins with it.
use Prim.Native.Nat.{◌-◌}
use Rattle.model.specs.File.{tree_of}
use Rattle.places.specs.Places.{width_in, RowsCounted}
use Rattle.places.proofs.count_rows.Given as goal

abbrev pub invariant-loop-v : goal.invariant-loop-v
invariant-loop-v l = RowsCounted (tree_of l.file) (width_in l.places) (l.v - 1)
