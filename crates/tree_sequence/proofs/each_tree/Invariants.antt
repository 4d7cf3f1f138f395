use Rattle.std.proofs.Common.{◌+◌, ◌-◌, ◌≤◌}
use Rattle.tree_sequence.proofs.each_tree.Given as goal

abbrev pub invariant-loop-i : goal.invariant-loop-i
invariant-loop-i g l =
    goal.F-IsAlwaysCallable g l.check × (l.fn.numbers.start + l.count ≤ l.i) × (l.count ≤ l.fn.numbers.end - l.fn.numbers.start)
