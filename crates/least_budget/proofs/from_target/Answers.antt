-- `from_target`: the least budget, at most k, whose plan total is no larger than the target, with its set as a row of the plan.
use Rattle.tree_file.proofs.Accepted.{accepted_long}
use Rattle.lent.proofs.Asked.{lent_told, lent_room_lem}
use Rattle.least_budget.proofs.Answers.{target_refused, row_refused, target_long, target_answered}
use Rattle.least_budget.proofs.from_target.Goals as goal

pub returns-in_err-tree : goal.returns-in_err-tree
returns-in_err-tree c = target_refused _ _ _ _ _ c.from_residual.ensures.1 c.in_err-tree.ensures

pub returns-in-Err : goal.returns-in-Err
returns-in-Err c = row_refused _ _ _ c.in_ok-tree.ensures _ c.in-Err.ensures

pub of-requires : goal.of-requires
of-requires c = accepted_long _ (lent_told _ c.in_ok-tree.ensures).0

pub find-requires : goal.find-requires
find-requires c =
    rw c.of.ensures (record {
      lent_room = lent_room_lem _ c.args.scratch.now c.in_ok-tree.ensures;
      file_in_bounds = target_long c.args.file.now c.args.target.0 record { scratch = c.args.scratch.now; row = c.args.row.now } c.in_ok-tree.ensures c.in-Ok.ensures;
    })

pub returns-in-Ok : goal.returns-in-Ok
returns-in-Ok c =
    target_answered _ _ _ c.in_ok-tree.ensures c.in-Ok.ensures (rw c.of.ensures at c.find.ensures.result_value)
    (rw c.of.ensures at c.find.ensures.front_only) (rw c.of.ensures at c.find.ensures.row_after)
