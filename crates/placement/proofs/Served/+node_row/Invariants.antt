-- `Served::node` and `Served::row`, which draw on each other: how far they have to go, and what the row's loop keeps.
use Rattle.std.proofs.Common.{◌-◌, ◌+◌, ◌*◌}
use Rattle.model.specs.File.{tree_of, demand_of}
use Rattle.placement.specs.Passes.{self_serving}
use Rattle.placement.specs.Walks.{RowUpTo}
use Rattle.placement.proofs.Served.+node_row.Given as goal

abbrev pub decreases-node : goal.decreases-node
decreases-node l = 2 * (l.self.now.n - l.v)

abbrev pub decreases-row : goal.decreases-row
decreases-row l = 2 * (l.self.now.n - l.i) + 1

abbrev pub invariant-row-loop-walk : goal.invariant-row-loop-walk
invariant-row-loop-walk l = RowUpTo (tree_of l.self.file.now) (demand_of l.self.file.now) (self_serving l.self.n l.self.servings.now) l.initial.loads l.v l.i l.walk.end l.walk.load.0 l.walk.relief.0 l.loads

-- proposed from the loop's first test
abbrev pub decreases-row-loop-walk : goal.decreases-row-loop-walk
decreases-row-loop-walk l = l.self.n - l.walk.end
