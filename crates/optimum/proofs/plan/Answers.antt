-- `plan`: for each budget from 0 to k the least total and the nodes of the plan; a refusal writes nothing.
use mathlib.Core.Path.{sym, ◌∙◌}
use Rattle.model.proofs.Verdicts.{ask_passed}
use Rattle.tree_file.proofs.Accepted.{accepted_long}
use Rattle.tree_file.proofs.Rulings.{asked}
use Rattle.lent.proofs.Asked.{lent_told, lent_sizes, lent_room_lem}
use Rattle.optimum.proofs.Answers.{plan_refused, plan_before_buffers, plan_asks_buffers, plan_long_lem, plan_written}
use Rattle.optimum.proofs.plan.Goals as goal

pub returns-in_err-tree : goal.returns-in_err-tree
returns-in_err-tree c = plan_refused _ _ _ _ c.from_residual.ensures.1 (plan_before_buffers _ _ c.in_err-tree.ensures)

pub buffers_long-requires : goal.buffers_long-requires
buffers_long-requires c = (lent_sizes _ _ c.in_ok-tree.ensures).budget

pub returns-in_err-ask : goal.returns-in_err-ask
returns-in_err-ask c =
    plan_refused _ _ _ _ c.from_residual-in_err-ask.ensures.1
    (asked 14 0 c.in_err-ask.ensures c.buffers_long.ensures ∙ plan_asks_buffers _ _ c.in_ok-tree.ensures)

pub of-requires : goal.of-requires
of-requires c = accepted_long _ (lent_told _ c.in_ok-tree.ensures).0

pub make_plan-requires : goal.make_plan-requires
make_plan-requires c =
    let long = ask_passed 14 0 _ (sym (asked 14 0 c.in_ok-ask.ensures c.buffers_long.ensures)) in
    rw c.of.ensures (record {
      lent_room = lent_room_lem _ _ c.in_ok-tree.ensures;
      buffers = plan_long_lem _ record { scratch = c.args.scratch.now; totals = c.args.totals.now; rows = c.args.rows.now } c.in_ok-tree.ensures long;
    })

pub returns : goal.returns
returns c =
    let long = ask_passed 14 0 _ (sym (asked 14 0 c.in_ok-ask.ensures c.buffers_long.ensures)) in
    plan_written _ _ c.in_ok-tree.ensures long (rw c.of.ensures at c.make_plan.ensures.front_only) (rw c.of.ensures at c.make_plan.ensures.totals_after)
    (rw c.of.ensures at c.make_plan.ensures.rows_after)
