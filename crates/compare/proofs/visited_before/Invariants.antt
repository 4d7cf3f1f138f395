-- `visited_before`: does the first set come before the second where nodes 1, 2, ..
use Rattle.compare.specs.Counting.{VisitedTo}
use Rattle.compare.proofs.visited_before.Given as goal

abbrev pub invariant-loop-v : goal.invariant-loop-v
invariant-loop-v l = VisitedTo l.file l.first l.second l.v l.left l.other_left
