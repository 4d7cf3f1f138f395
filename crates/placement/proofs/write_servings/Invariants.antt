-- `write_servings`: a member serves itself; another node has the serving node of its parent.
use Rattle.placement.specs.Passes.{Serving}
use Rattle.placement.proofs.write_servings.Given as goal

abbrev pub invariant-loop-v : goal.invariant-loop-v
invariant-loop-v l = Serving l.file l.n l.set l.initial.servings l.servings l.v l.left
