-- `gather`: the nodes from v on were passed, and in the end every node has what reaches it.
use Rattle.greedy.proofs.Passes.{pass_begins, pass_ends}
use Rattle.greedy.proofs.gather.Goals as goal

pub loop-v-init : goal.loop-v-init
loop-v-init c = pass_begins c.requires c.own_flows.ensures

pub returns : goal.returns
returns c = pass_ends c.requires c.own_flows.ensures c.loop-v.invariant c.loop-v-test.false
