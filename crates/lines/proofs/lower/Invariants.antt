-- `lower`: for each n < end: line[r + n] becomes other[n] + cost if that is smaller.
use Rattle.lines.specs.Line.{Lowered}
use Rattle.lines.proofs.lower.Given as goal

abbrev pub invariant-loop-n : goal.invariant-loop-n
invariant-loop-n l = Lowered l.initial.line l.other l.n l.r l.cost.0 l.line
