-- `make_table`: stores the words of the nodes and all lines of the plan's table, and changes nothing behind them.
use Rattle.laws.proofs.Fronts.{front_only_then}
use Rattle.table.proofs.Room.{room_nodes}
use Rattle.table.proofs.Fill.{words_stored, words_front}
use Rattle.table.proofs.make_table.Goals as goal

pub note_nodes-requires : goal.note_nodes-requires
note_nodes-requires c = rw c.count.ensures (room_nodes c.requires)

pub fill_table-requires : goal.fill_table-requires
fill_table-requires c = words_stored c.requires c.note_nodes.ensures.node_words (rw c.count.ensures at c.note_nodes.ensures.front_only)

pub returns : goal.returns
returns c = record {
  table = c.fill_table.ensures.table;
  front = front_only_then _ (words_front c.requires (rw c.count.ensures at c.note_nodes.ensures.front_only)) c.fill_table.ensures.front;
}
