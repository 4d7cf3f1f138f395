-- `measure`: stores the distance and the depth of each node.
use native.Mathlib.Omega.{arith}
use Rattle.laws.proofs.Fronts.{front_only_none, front_only_then}
use Rattle.node_words.proofs.Words.{room_some, room_kept}
use Rattle.node_words.proofs.Measures.{measured_server}
use Rattle.node_words.proofs.measure.Goals as goal

pub put-requires : goal.put-requires
put-requires c = omega (arith, c.requires.room, room_some c.requires)

pub put-requires-2 : goal.put-requires-2
put-requires-2 c = omega (arith, c.requires.room, room_some c.requires)

pub loop-v-init : goal.loop-v-init
loop-v-init c = let server = measured_server _ c.requires c.put.ensures c.put-2.ensures in
    (room_kept c.requires server.1, server.0, front_only_none _ _)

pub returns-clause-front_only : goal.returns-clause-front_only
returns-clause-front_only c = front_only_then _ (measured_server _ c.requires c.put.ensures c.put-2.ensures).1 c.loop-v.invariant.2
