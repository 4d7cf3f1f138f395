-- `write_budget`: writes the total and the row of budget b, and returns how many caches it has; `last` is how many the budget before has.
use mathlib.Core.Path.{ap, ◌∙◌}
use Prim.Native.Nat.{◌*◌}
use native.Mathlib.Omega.{arith}
use lib.ListN.{set}
use Rattle.table.proofs.Server.{server_there}
use Rattle.optimum.proofs.Budgets.{count_found, total_found, budget_room, row_to_walk_lem, row_found}
use Rattle.optimum.proofs.write_budget.Goals as goal

pub server_line-line-requires : goal.server_line-line-requires
server_line-line-requires c = server_there c.requires.budget.table

pub bounds-totals-b : goal.bounds-totals-b
bounds-totals-b c = omega (arith, c.requires.budget.within, c.requires.buffers.totals_long)

pub overflow_mul-b : goal.overflow_mul-b
overflow_mul-b c = omega (arith, budget_room c.requires.budget c.requires.buffers)

pub write_row-requires : goal.write_row-requires
write_row-requires c = let room = budget_room c.requires.budget c.requires.buffers in
    record {
      k_value = c.requires.budget.budget;
      row_to_walk = row_to_walk_lem c.requires.budget.budget c.requires.budget.table c.requires.budget.within (count_found c.requires.budget c.server_line-line.ensures c.better_count-count.ensures) room;
      k_in_bounds = room;
    }

pub returns : goal.returns
returns c = let count = count_found c.requires.budget c.server_line-line.ensures c.better_count-count.ensures in record {
  value = count;
  totals_after = ap (set c.args.totals.now c.args.b) (c.entry.ensures ∙ total_found c.requires.budget c.server_line-line.ensures c.better_count-count.ensures);
  rows_after = row_found c.requires.budget.budget c.requires.budget.table c.requires.budget.within count c.args.rows.now (c.args.b * c.args.k) c.write_row.ensures;
}
