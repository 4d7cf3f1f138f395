-- `plan_table`: notes where the lines stand, and fills the plan's table in the scratch.
use Rattle.table.proofs.Room.{table_room_lem}
use Rattle.optimum.proofs.plan_table.Goals as goal

pub make_table-requires : goal.make_table-requires
make_table-requires c = table_room_lem c.requires.lent_room.of_file c.requires.lent_room.room c.note_places.ensures.places
