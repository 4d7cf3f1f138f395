-- `take_sites`: after b steps the words, the total and both buffers are those of the greedy rule.
use Prim.Native.Nat.{◌*◌}
use Rattle.laws.specs.Fronts.{FrontOnly}
use Rattle.node_words.specs.Words.{node_words}
use Rattle.greedy.proofs.Runs.{Standing, Written}
use Rattle.greedy.proofs.take_sites.Given as goal

abbrev pub invariant-loop-b : goal.invariant-loop-b
invariant-loop-b l = Standing l.file l.n l.words l.total.0 l.b × FrontOnly (node_words * l.n) l.initial.words l.words × Written l.file l.k l.b l.fn.totals l.fn.nodes l.totals l.nodes
