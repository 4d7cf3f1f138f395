-- `own_flows`: the nodes before v have their own cachable flow.
use Rattle.node_words.proofs.Words.{room_record}
use Rattle.greedy.proofs.own_flows.Goals as goal

pub cachable-requires : goal.cachable-requires
cachable-requires c = room_record c.requires c.loop-v-test.true
