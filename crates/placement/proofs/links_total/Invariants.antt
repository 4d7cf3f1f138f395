-- `links_total`: loads times lengths, over the links above nodes 1 to n − 1.
use mathlib.Core.Path.{◌≡◌}
use Rattle.model.specs.File.{tree_of}
use Rattle.placement.specs.Passes.{total_before}
use Rattle.placement.proofs.links_total.Given as goal

abbrev pub invariant-loop-v : goal.invariant-loop-v
invariant-loop-v l = l.sum.0 ≡ total_before (tree_of l.file) l.loads l.v
