-- `relieve`: from v on what reaches each node is what reaches it with x taken too.
use Rattle.greedy.proofs.TakeSite.{Relieving}
use Rattle.greedy.proofs.relieve.Given as goal

abbrev pub invariant-loop-v : goal.invariant-loop-v
invariant-loop-v l = Relieving l.file l.n l.x l.initial.words l.words l.v

abbrev pub decreases-loop-v : goal.decreases-loop-v
decreases-loop-v l = l.v
