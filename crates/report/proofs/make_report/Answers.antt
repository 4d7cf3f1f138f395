-- `make_report`: the plan, then the greedy rule in the same scratch.
use Rattle.greedy.proofs.Answers.{room_still}
use Rattle.report.proofs.Answers.{both_written}
use Rattle.report.proofs.make_report.Goals as goal

pub make_plan-requires : goal.make_plan-requires
make_plan-requires c = record {
  lent_room = c.requires.for_plan;
  buffers = c.requires.plan_long;
}

pub run-requires : goal.run-requires
run-requires c = room_still c.requires.for_greedy c.make_plan.ensures.front_only.long

pub returns : goal.returns
returns c = both_written c.requires c.make_plan.ensures.front_only c.make_plan.ensures.totals_after c.make_plan.ensures.rows_after c.run.ensures
