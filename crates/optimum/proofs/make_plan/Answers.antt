-- `make_plan`: makes the table, and writes the plan from it.
use Rattle.tree_file.proofs.Accepted.{sizes_budget}
use Rattle.optimum.proofs.make_plan.Goals as goal

pub write_plan-requires : goal.write_plan-requires
write_plan-requires c = record {
  k_value = sizes_budget c.requires.lent_room.of_file;
  table = c.plan_table.ensures.table;
  buffers = c.requires.buffers;
}
