-- `find`: makes the plan's table, and finds the least budget in it.
use Rattle.tree_file.proofs.Accepted.{sizes_budget}
use Rattle.least_budget.proofs.find.Goals as goal

pub write_least-requires : goal.write_least-requires
write_least-requires c = record {
  k_value = sizes_budget c.requires.lent_room.of_file;
  table = c.plan_table.ensures.table;
  file_in_bounds = c.requires.file_in_bounds;
}
