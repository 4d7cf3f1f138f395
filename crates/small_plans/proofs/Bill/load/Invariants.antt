use Rattle.std.proofs.Common.{◌*◌, ◌≤◌}
use Rattle.small_plans.proofs.Bill.load.Given as goal

abbrev pub invariant-loop-c : goal.invariant-loop-c
invariant-loop-c l = l.load ≤ l.c * 4294967295000
