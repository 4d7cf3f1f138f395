-- `search`: of the open sites before v, the first that saves most is held, and what it saves beside it.
use mathlib.Core.Path.{◌≡◌}
use Rattle.model.specs.File.{tree_of}
use Rattle.greedy.specs.Words.{Finds}
use Rattle.greedy.proofs.BestSite.{saved}
use Rattle.greedy.proofs.search.Given as goal

abbrev pub invariant-loop-v : goal.invariant-loop-v
invariant-loop-v l = Finds (tree_of l.file) l.words l.v l.found × (l.most.0 ≡ saved l.found)
