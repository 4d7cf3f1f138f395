-- `joined`: makes the line of a row of two parts from their lines.
use Rattle.lines.proofs.Row.{LeastBefore}
use Rattle.lines.proofs.joined.Given as goal

abbrev pub invariant-loop-r : goal.invariant-loop-r
invariant-loop-r l = LeastBefore l.first l.second l.r l.line
