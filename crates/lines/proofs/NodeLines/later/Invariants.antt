-- `later`: how many of a row's m caches are among the later siblings: the smallest number at which the split costs the least.
use Prim.Native.Nat.{◌≤◌}
use Rattle.best_rows.specs.Least.{first_least}
use Rattle.lines.specs.Line.{line_split}
use Rattle.lines.proofs.NodeLines.later.Given as goal

abbrev pub invariant-loop-r : goal.invariant-loop-r
invariant-loop-r l = l.r ≤ first_least (line_split l.self.cached.now l.self.uncached.now l.rest l.self.member.0 l.self.other.0 l.m) l.m
