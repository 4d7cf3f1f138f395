-- `gather`: the nodes from v on were passed, and in the end every node has what reaches it.
use Prim.Native.Nat.{◌≤◌}
use Rattle.greedy.specs.Words.{Passes}
use Rattle.greedy.proofs.gather.Given as goal

abbrev pub invariant-loop-v : goal.invariant-loop-v
invariant-loop-v l = (1 ≤ l.v) × Passes l.file l.n l.v l.initial.words l.words
