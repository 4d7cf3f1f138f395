-- `link`: stores the first child and the next sibling of each node.
use Prim.Native.Nat.{◌-◌}
use Rattle.model.specs.File.{tree_of}
use Rattle.node_words.specs.Words.{NodeRoom, Linked, LinksOnly}
use Rattle.node_words.proofs.link.Given as goal

abbrev pub invariant-loop-v : goal.invariant-loop-v
invariant-loop-v l = NodeRoom l.file l.n l.words × Linked (tree_of l.file) l.words (l.v - 1) × LinksOnly l.n l.initial.words l.words
