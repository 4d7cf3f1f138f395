-- `on_route`: is a on the route of v?
use Rattle.tree_file.proofs.Climbs.{Seeking}
use Rattle.tree_file.proofs.on_route.Given as goal

abbrev pub invariant-loop-x : goal.invariant-loop-x
invariant-loop-x l = Seeking l.file l.v l.a l.x

abbrev pub decreases-loop-x : goal.decreases-loop-x
decreases-loop-x l = l.x
