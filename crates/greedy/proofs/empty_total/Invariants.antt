-- `empty_total`: the costs of the nodes before v, until they are the total of the empty set.
use Rattle.greedy.proofs.EmptySet.{Summed}
use Rattle.greedy.specs.Words.{DistancesStored}
use Rattle.greedy.proofs.empty_total.Given as goal

abbrev pub invariant-loop-v : goal.invariant-loop-v
invariant-loop-v l = (stored : DistancesStored l.file l.n l.words) × Summed stored l.v l.sum.0
