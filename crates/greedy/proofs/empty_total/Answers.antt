-- `empty_total`: the costs of the nodes before v, until they are the total of the empty set.
use native.Mathlib.Omega.{arith}
use Rattle.node_words.proofs.Words.{room_record}
use Rattle.greedy.proofs.EmptySet.{summed_none, summed_small, summed_next, summed_all}
use Rattle.greedy.proofs.empty_total.Goals as goal

pub loop-v-init : goal.loop-v-init
loop-v-init c = (c.requires, summed_none c.requires)

pub flow-requires : goal.flow-requires
flow-requires c = room_record c.requires.room c.loop-v-test.true

pub mul-price-requires : goal.mul-price-requires
mul-price-requires c = omega (arith, summed_small c.loop-v.invariant.0 c.loop-v.invariant.1 c.loop-v-test.true c.flow.ensures c.distance_of.ensures)

pub add-sum-requires : goal.add-sum-requires
add-sum-requires c = omega (arith, c.mul-price.ensures, summed_small c.loop-v.invariant.0 c.loop-v.invariant.1 c.loop-v-test.true c.flow.ensures c.distance_of.ensures)

pub loop-v-preserved : goal.loop-v-preserved
loop-v-preserved c = (c.loop-v.invariant.0, summed_next c.loop-v.invariant.0 c.loop-v.invariant.1 c.loop-v-test.true c.flow.ensures c.distance_of.ensures (omega (arith, c.add-sum.ensures, c.mul-price.ensures)))

pub returns : goal.returns
returns c = summed_all c.loop-v.invariant.0 c.loop-v.invariant.1 c.loop-v-test.false
