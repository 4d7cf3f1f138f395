-- `measure`: stores the distance and the depth of each node.
use Prim.Native.Nat.{◌*◌}
use Rattle.laws.specs.Fronts.{FrontOnly}
use Rattle.model.specs.File.{tree_of}
use Rattle.node_words.specs.Words.{node_words, NodeRoom, Measured}
use Rattle.node_words.proofs.measure.Given as goal

abbrev pub invariant-loop-v : goal.invariant-loop-v
invariant-loop-v l = NodeRoom l.file l.n l.words × Measured (tree_of l.file) l.words l.v × FrontOnly (node_words * l.n) l.initial.words l.words
