use Rattle.std.proofs.Common.{◌*◌, ◌≤◌}
use Rattle.small_plans.proofs.Bill.total.Given as goal

abbrev pub invariant-loop-c : goal.invariant-loop-c
invariant-loop-c l = l.total ≤ l.c * (4294967295 * 327675000)
