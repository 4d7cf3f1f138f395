-- `fill_table`: stores all lines, from the last node's to the first's.
use mathlib.Core.Path.{◌≡◌}
use native.Mathlib.Omega.{arith}
use Rattle.table.proofs.Room.{room_sound}
use Rattle.table.proofs.Fill.{table_begins, next_node, table_whole, filled_none, filled_then}
use Rattle.table.proofs.fill_table.Goals as goal

pub loop-v-init : goal.loop-v-init
loop-v-init c = (omega (arith, (room_sound c.requires.room).some), rw c.count-v.ensures (filled_none (table_begins c.requires)))

pub fill_node-requires : goal.fill_node-requires
fill_node-requires c = record {
  v_nonzero = (omega arith, omega arith);
  table_from = next_node (omega arith) c.loop-v.invariant.1.table;
}

pub loop-v-preserved : goal.loop-v-preserved
loop-v-preserved c = (omega arith, filled_then c.loop-v.invariant.1 c.fill_node.ensures)

pub returns : goal.returns
returns c = let all : c.loop-v.v ≡ 1 = omega (arith, c.loop-v.invariant.0) in
    table_whole (rw all at c.loop-v.invariant.1)
