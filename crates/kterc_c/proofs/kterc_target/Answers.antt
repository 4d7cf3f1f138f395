-- `kterc_target`: the least budget, at most k, whose plan total is no larger than the target, and its set as a row of the plan.
use mathlib.Core.Path.{◌∙◌}
use lib.ListN.{length}
use Rattle.tree_file.specs.Checks.{sizes_of}
use Rattle.lent.specs.Lent.{lent_verdict}
use Rattle.kterc_c.proofs.Room.{short_after}
use Rattle.kterc_c.proofs.Targets.{budget_no_room, budget_refused, budget_found_lem, none_found_lem}
use Rattle.kterc_c.proofs.kterc_target.Goals as goal

pub returns-then-budget-lt1 : goal.returns-then-budget-lt1
returns-then-budget-lt1 c = let rules = lent_verdict c.args.file.now (length c.args.scratch.now) in
    let short = c.no_room_after.ensures ∙ short_after _ rules (sizes_of c.args.file.now) c.check.ensures in
    budget_no_room _ _ _ short c.code_of.ensures c.if-budget-lt1.true

pub returns-in-Ok-Some : goal.returns-in-Ok-Some
returns-in-Ok-Some c = budget_found_lem _ _ _ c.if-budget-lt1.false (rw (c.in-Ok-Some.is, c.in-Ok-Some.field-0-is) at c.from_target.ensures)

pub returns-in-Ok-None : goal.returns-in-Ok-None
returns-in-Ok-None c = none_found_lem _ _ _ c.if-budget-lt1.false (rw (c.in-Ok-None.is, c.in-Ok-None.field-0-is) at c.from_target.ensures)

pub returns-in-Err : goal.returns-in-Err
returns-in-Err c = budget_refused _ _ _ c.if-budget-lt1.false c.in-Err.ensures c.code_of-in-Err.ensures
