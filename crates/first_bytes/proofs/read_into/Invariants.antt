-- The bytes up to `end` are those that the input gave.
use Rattle.std.proofs.Common.{length, take, ◌-◌, ◌≤◌}
use Rattle.std.specs.Io.KnownBytes.{Consumes}
use Rattle.first_bytes.proofs.read_into.Given as goal

abbrev pub invariant-loop-end : goal.invariant-loop-end
invariant-loop-end g l = (l.end ≤ length l.memory) × Consumes (g.R.Read.remaining l.initial.input) (g.R.Read.remaining l.input) (take l.end l.memory)

abbrev pub decreases-loop-end : goal.decreases-loop-end
decreases-loop-end g l = length l.memory - l.end
