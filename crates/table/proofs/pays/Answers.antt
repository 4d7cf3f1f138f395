-- `pays`: what node v pays if u serves it: what its client's situation costs.
use Rattle.node_words.proofs.Words.{room_record}
use Rattle.table.proofs.Prices.{amounts_read, paid}
use Rattle.table.proofs.pays.Goals as goal

pub flow-all-requires : goal.flow-all-requires
flow-all-requires c = room_record c.requires.client.nodes c.requires.client.node

pub cost_in-requires : goal.cost_in-requires
cost_in-requires c = amounts_read c.requires.client c.flow-all.ensures c.requires.part_value c.distance_of-far.ensures c.distance_of-near.ensures

pub returns : goal.returns
returns c = paid c.requires.client c.flow-all.ensures c.requires.part_value c.distance_of-far.ensures c.distance_of-near.ensures c.situation_of-situation.ensures c.cost_in.ensures
