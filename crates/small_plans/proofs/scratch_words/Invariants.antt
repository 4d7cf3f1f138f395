use Rattle.std.proofs.Common.{◌+◌, ◌-◌, ◌*◌, ◌≤◌}
use Rattle.small_plans.proofs.scratch_words.Given as goal

abbrev pub invariant-loop-v : goal.invariant-loop-v
invariant-loop-v l = (l.words ≤ 24 + (l.v - 1) * 42) × (l.words ≤ 234)
