-- `prepare`: every node has its words where no site is taken.
use Rattle.greedy.proofs.Runs.{prepared}
use Rattle.greedy.proofs.prepare.Goals as goal

pub returns : goal.returns
returns c = prepared c.requires c.measure.ensures.measured c.measure.ensures.front_only c.clear.ensures c.clear-2.ensures c.gather.ensures
