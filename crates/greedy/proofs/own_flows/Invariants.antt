-- `own_flows`: the nodes before v have their own cachable flow.
use Rattle.model.specs.File.{demand_of}
use Rattle.model.specs.Bill.{cachable}
use Rattle.greedy.specs.Words.{reach_word, Wrote}
use Rattle.greedy.proofs.own_flows.Given as goal

abbrev pub invariant-loop-v : goal.invariant-loop-v
invariant-loop-v l = Wrote l.n reach_word (cachable (demand_of l.file)) l.v l.initial.words l.words
