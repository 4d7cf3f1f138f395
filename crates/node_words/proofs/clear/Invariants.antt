-- `clear`: stores "none" as the first child and the next sibling of each node.
use Rattle.node_words.specs.Words.{Unlinked, LinksOnly}
use Rattle.node_words.proofs.clear.Given as goal

abbrev pub invariant-loop-v : goal.invariant-loop-v
invariant-loop-v l = Unlinked l.words l.v × LinksOnly l.n l.initial.words l.words
