-- `serve`: the nodes before v have their serving distances.
use native.Mathlib.Omega.{arith}
use Rattle.node_words.proofs.Words.{room_record, room_parent}
use Rattle.greedy.proofs.Words.{wrote_next}
use Rattle.greedy.proofs.Passes.{served_site}
use Rattle.greedy.proofs.serve.Goals as goal

pub served_at-distance-requires : goal.served_at-distance-requires
served_at-distance-requires c = let room = c.loop-v.invariant.0.room in
    let up = room_parent (record { nodes = room; site = omega arith; below = c.loop-v-test.true }) in
    record {
      in_file = room_record room c.loop-v-test.true;
      has_node = omega (arith, up, room.room, c.loop-v.invariant.1.front.long);
    }

pub loop-v-preserved : goal.loop-v-preserved
loop-v-preserved c = (
  c.loop-v.invariant.0,
  wrote_next _ _ _ (omega arith) c.loop-v-test.true c.loop-v.invariant.0.room.room c.loop-v.invariant.1 c.put.ensures (served_site c.loop-v.invariant.0 c.loop-v.invariant.1 (omega arith) c.loop-v-test.true c.served_at-distance.ensures),
)
