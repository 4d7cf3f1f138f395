-- `write_plan`: writes every budget.
use native.Mathlib.Omega.{arith}
use Rattle.optimum.proofs.Budgets.{plan_begins, plan_budget, plan_buffers, plan_turns, plan_ends}
use Rattle.optimum.proofs.write_plan.Goals as goal

pub loop-b-init : goal.loop-b-init
loop-b-init c = plan_begins

pub write_budget-count-requires : goal.write_budget-count-requires
write_budget-count-requires c = record {
  budget = plan_budget c.loop-b.invariant c.requires.k_value c.requires.table (omega arith);
  buffers = plan_buffers c.loop-b.invariant c.requires.buffers;
}

pub loop-b-preserved : goal.loop-b-preserved
loop-b-preserved c = plan_turns c.loop-b.invariant c.requires.k_value (omega arith) c.write_budget-count.ensures.value c.write_budget-count.ensures.totals_after c.write_budget-count.ensures.rows_after
    c.write_budget-count.auto.totals c.write_budget-count.auto.rows

pub shape_of-totals : goal.shape_of-totals
shape_of-totals c = c.loop-b.invariant.totals_long

pub shape_of-rows : goal.shape_of-rows
shape_of-rows c = c.loop-b.invariant.rows_long

pub returns : goal.returns
returns c = let whole = plan_ends c.loop-b.invariant c.requires.k_value (omega arith) in
    record { totals_after = whole.0; rows_after = whole.1 }
